use Rattle.std.proofs.Common.{◌≡◌, ℕ, ◌<◌, true}
use Rattle.std.specs.Prelude.{slice_get}
use Rattle.hunt_failures.specs.Eves.{is_listed}
use Rattle.hunt_failures.specs.Failures.{is_late}
use Rattle.hunt_failures.proofs.expiries.woken_late.Given as goal

-- none of the tasks so far was answered late
abbrev pub invariant-tasks : goal.invariant-tasks
invariant-tasks l = (k : ℕ) → k < l.t → is_listed (slice_get l.waiters k) ≡ true → is_late k l.machine ≡ true → ⊥
