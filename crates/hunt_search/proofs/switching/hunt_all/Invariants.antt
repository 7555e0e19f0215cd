use Rattle.std.proofs.Common.{◌≡◌, [], Some, false, length}
use Rattle.std.specs.Prelude.{slice_get}
use Rattle.hunt_search.proofs.Branching.{AreSearchedTo}
use Rattle.hunt_search.specs.Hunts.{AreFound}
use Rattle.evm_model.specs.State.{State}
use Rattle.hunt_schedules.specs.Beginning.{Begins}
use Rattle.hunt_search.proofs.switching.hunt_all.Given as goal

abbrev pub invariant-places : goal.invariant-places
invariant-places g l =
    AreFound l.target.image.now l.target.boot.now l.target.wanted.now.lines l.report.rows.items
    × (slice_get l.queue.branches.items 0 ≡ Some (record { turns = record { items = [] }; cpu = 0 }))
    × (length l.walked.items ≡ l.place)
    × (l.report.rows.items ≡ [] → l.queue.cut ≡ false → (first : State) → Begins l.target.image.now l.target.boot.now first → AreSearchedTo l.target.wanted.now l.bounds.switches first l.queue.branches.items l.walked.items l.place)
