use Rattle.std.proofs.Common.{◌≡◌, ℕ, ◌<◌, true}
use Rattle.std.specs.Prelude.{slice_get}
use Rattle.hunt_failures.specs.Failures.{is_stuck_task}
use Rattle.hunt_failures.proofs.looks.are_stuck.Given as goal

abbrev pub invariant-tasks : goal.invariant-tasks
invariant-tasks l = (u : ℕ) → u < l.t → is_stuck_task l.lines l.machine.board.parts.timers (slice_get l.machine.board.parts.tasks u) ≡ true
