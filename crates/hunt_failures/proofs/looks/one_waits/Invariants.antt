use Rattle.std.proofs.Common.{◌≡◌, ℕ, ◌<◌, false}
use Rattle.std.specs.Prelude.{slice_get}
use Rattle.hunt_failures.specs.Failures.{is_waiting_task}
use Rattle.hunt_failures.proofs.looks.one_waits.Given as goal

abbrev pub invariant-tasks : goal.invariant-tasks
invariant-tasks l = (u : ℕ) → u < l.t → is_waiting_task (slice_get l.machine.board.parts.tasks u) ≡ false
