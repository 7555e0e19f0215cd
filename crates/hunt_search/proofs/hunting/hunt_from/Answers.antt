use Rattle.hunt_search.proofs.Finding.{found-none}
use Rattle.hunt_search.proofs.hunting.hunt_from.Goals as goal

pub seeds-init : goal.seeds-init
seeds-init g c = found-none c.args.target.now.image.now c.args.target.now.boot.now c.args.target.now.wanted.now.lines c.new-report.result.rows.items c.new-report.ensures
