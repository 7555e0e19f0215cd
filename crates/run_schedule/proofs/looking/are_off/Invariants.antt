use Rattle.std.proofs.Common.{◌≡◌, ℕ, ◌<◌, true}
use Rattle.std.specs.Prelude.{slice_get}
use Rattle.hunt_failures.specs.Failures.{is_off}
use Rattle.run_schedule.proofs.looking.are_off.Given as goal

abbrev pub invariant-timers : goal.invariant-timers
invariant-timers l = (m : ℕ) → m < l.n → is_off (slice_get l.machine.board.parts.timers m) ≡ true
