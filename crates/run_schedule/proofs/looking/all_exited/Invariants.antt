use Rattle.std.proofs.Common.{◌≡◌, ℕ, ◌<◌, true}
use Rattle.std.specs.Prelude.{slice_get}
use Rattle.run_schedule.specs.Endings.{has_exited}
use Rattle.run_schedule.proofs.looking.all_exited.Given as goal

abbrev pub invariant-tasks : goal.invariant-tasks
invariant-tasks l = (u : ℕ) → u < l.t → has_exited (slice_get l.machine.board.parts.tasks u) ≡ true
