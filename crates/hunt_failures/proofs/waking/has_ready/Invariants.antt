use Rattle.std.proofs.Common.{◌≡◌, ℕ, ◌<◌, false}
use Rattle.std.specs.Prelude.{slice_get}
use Rattle.hunt_failures.specs.Awake.{is_ready_on}
use Rattle.hunt_failures.proofs.waking.has_ready.Given as goal

abbrev pub invariant-tasks : goal.invariant-tasks
invariant-tasks l = (u : ℕ) → u < l.t → is_ready_on l.c (slice_get l.machine.board.parts.tasks u) ≡ false
