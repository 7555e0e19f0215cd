use Rattle.std.proofs.Common.{◌≡◌, ℕ, ◌<◌, true}
use Rattle.std.specs.Prelude.{slice_get}
use Rattle.run_schedule.specs.Endings.{is_untimed}
use Rattle.run_schedule.proofs.looking.are_untimed.Given as goal

abbrev pub invariant-tasks : goal.invariant-tasks
invariant-tasks l = (u : ℕ) → u < l.t → is_untimed (slice_get l.machine.board.parts.tasks u) ≡ true
