use Rattle.std.proofs.lemmas.Result.{on_ok_weaker}
use Rattle.hunt_search.proofs.Finding.{found-more, met-none, not-empty}
use Rattle.hunt_search.proofs.hunting.add_orders.Goals as goal

pub returns-clause-found : goal.returns-clause-found
returns-clause-found g c =
    let image = c.args.target.now.image.now in
    let boot = c.args.target.now.boot.now in
    let lines = c.args.target.now.wanted.now.lines in
    let row = c.cycle_row-row.result in
    let met = met-none image boot lines row.failure c.cycle_row-row.ensures in
    on_ok_weaker c.add.result (λ more. found-more image boot lines c.args.report.now.rows.items c.add.new.self.rows.items row more met c.requires) c.add.ensures

pub returns-clause-rows : goal.returns-clause-rows
returns-clause-rows g c =
    on_ok_weaker c.add.result (λ more empty. absurd (not-empty c.args.report.now.rows.items c.add.new.self.rows.items c.cycle_row-row.result more empty)) c.add.ensures
