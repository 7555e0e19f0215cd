-- What is kept of timers whatever the clock is.
use Rattle.std.specs.Prelude.{◌≡◌, ℕ, ◌<◌, ◌≤◌, List, Option, Some, None, ◌==◌, not, nat_lt, ◌&&◌, if◌then◌else◌, slice_get}
use Rattle.evm_model.specs.declared.limits.TheConstants.{TIMER_SPAN_LIMIT}
use Rattle.evm_model.specs.declared.timer.Timer.{Timer}

-- a timer has expired less often than the tick at which it is due
pub record IsSpan (timer : Timer) : Type 0 where
  pub period : timer.period ≤ TIMER_SPAN_LIMIT
  pub set : (timer.due ≡ 0 → ⊥) → timer.expiries < timer.due

-- a timer is due at this tick
pub record IsDue (now : ℕ) (timer : Timer) : Type 0 where
  pub set : timer.due ≡ 0 → ⊥
  pub past : timer.due ≤ now

-- no timer is due at this tick
pub record IsQuiet (now : ℕ) (timers : List Timer) : Type 0 where
  pub each : (n : ℕ) (timer : Timer) → slice_get timers n ≡ Some timer → (timer.due ≡ 0 → ⊥) → now < timer.due

-- no timer is due before the bound
pub record AreFrom (bound : ℕ) (timers : List Timer) : Type 0 where
  pub each : (n : ℕ) (timer : Timer) → slice_get timers n ≡ Some timer → (timer.due ≡ 0 → ⊥) → bound ≤ timer.due

-- .. and each is one
pub record AreSpans (bound : ℕ) (timers : List Timer) : Type 0 where
  pub each : (n : ℕ) (timer : Timer) → slice_get timers n ≡ Some timer → IsSpan timer
  pub from : AreFrom bound timers

abbrev pub due_of : Option Timer → ℕ
due_of None = 0
due_of (Some timer) = timer.due

-- the tick at which timer n is due, 0 where it is off
abbrev pub due_at : List Timer → ℕ → ℕ
due_at timers n = due_of (slice_get timers n)

-- the bound with one more tick
abbrev pub bound_with_tick : ℕ → ℕ → ℕ
bound_with_tick bound due = if not (due == 0) && nat_lt due bound then due else bound
