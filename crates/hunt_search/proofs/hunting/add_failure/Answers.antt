use Rattle.std.proofs.lemmas.Result.{on_ok_weaker}
use Rattle.hunt_search.proofs.Finding.{found-more, met-some, not-empty}
use Rattle.hunt_search.proofs.hunting.add_failure.Goals as goal

pub returns-in-Ok-clause-found : goal.returns-in-Ok-clause-found
returns-in-Ok-clause-found g c =
    let image = c.args.target.now.image.now in
    let boot = c.args.target.now.boot.now in
    let lines = c.args.target.now.wanted.now.lines in
    let met = met-some image boot lines c.in-Ok.row.failure c.args.failure c.args.run.now.machine.now c.in-Ok.ensures c.requires.failed in
    on_ok_weaker c.add.result (λ more. found-more image boot lines c.args.report.now.rows.items c.add.new.self.rows.items c.in-Ok.row more met c.requires.found) c.add.ensures

pub returns-in-Ok-clause-some : goal.returns-in-Ok-clause-some
returns-in-Ok-clause-some g c =
    on_ok_weaker c.add.result (λ more. not-empty c.args.report.now.rows.items c.add.new.self.rows.items c.in-Ok.row more) c.add.ensures
