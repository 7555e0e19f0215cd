use Rattle.std.proofs.Common.{◌≡◌, ℕ, ◌<◌, length, Some}
use Rattle.std.specs.Prelude.{slice_get}
use Rattle.hunt_failures.specs.Failures.{awaits_timer}
use Rattle.hunt_failures.proofs.expiries.timer_waiters.Given as goal

-- it is said of the tasks so far
abbrev pub invariant-tasks : goal.invariant-tasks
invariant-tasks l = record { count : length l.waiters.items ≡ l.t; waiters : (k : ℕ) → k < l.t → slice_get l.waiters.items k ≡ Some (awaits_timer (slice_get l.machine.board.parts.tasks k)) }
