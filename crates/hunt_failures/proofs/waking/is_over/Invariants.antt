use Rattle.std.proofs.Common.{◌≡◌, ℕ, ◌<◌, true}
use Rattle.std.specs.Prelude.{slice_get}
use Rattle.hunt_failures.specs.Awake.{is_done}
use Rattle.hunt_failures.proofs.waking.is_over.Given as goal

abbrev pub invariant-tasks : goal.invariant-tasks
invariant-tasks l = (u : ℕ) → u < l.t → is_done l.lines l.machine (slice_get l.machine.board.parts.tasks u) ≡ true
