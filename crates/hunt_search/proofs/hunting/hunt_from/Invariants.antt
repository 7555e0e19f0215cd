use Rattle.hunt_search.specs.Hunts.{AreFound}
use Rattle.hunt_search.proofs.hunting.hunt_from.Given as goal

-- each failure so far is one of a machine
abbrev pub invariant-seeds : goal.invariant-seeds
invariant-seeds g l = AreFound l.target.image.now l.target.boot.now l.target.wanted.now.lines l.report.rows.items
