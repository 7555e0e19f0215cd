-- In which order waits end by their deadlines, and timers expire.
use Rattle.std.specs.Prelude.{◌≡◌, ◌⊎◌, ℕ, ◌<◌, ◌≤◌, ◌↔◌, List, Some, true, false, length, slice_get, slice_index}
use Rattle.std.specs.List.{Contains, fold}
use Rattle.evm_model.specs.Deadlines.{deadline, end_wait, end_waits}
use Rattle.evm_model.specs.Events.{bound}
use Rattle.evm_model.specs.Good.{event_at, is_mutex, is_waiting}
use Rattle.evm_model.specs.State.{Parts}
use Rattle.evm_model.specs.Timers.{expire, expire_timers}
use Rattle.evm_model.specs.declared.task.Task.{Task}
use Rattle.evm_model.specs.declared.timer.Timer.{Timer}
use Rattle.law_runs.specs.Order.{AreInOrder}

-- ---- deadlines
-- task t of c has a deadline, and it has come
pub record IsLate (c t : ℕ) (k : Parts) : Type 0 where
  pub task : Task
  pub there : slice_get k.tasks t ≡ Some task
  pub set : task.deadline ≡ 0 → ⊥
  pub come : task.deadline ≤ k.ticks
  pub home : task.cpu ≡ c

-- task t has the lesser deadline, or the same and the lesser number
abbrev pub IsSooner : List Task → ℕ → ℕ → Type 0
IsSooner tasks t u = (deadline tasks t < deadline tasks u) ⊎ ((deadline tasks t ≡ deadline tasks u) × (t < u))

-- the waits whose deadlines have come end one after another, by deadline, then by number
pub record EndsByDeadline (c : ℕ) (k : Parts) : Type 0 where
  pub late : List ℕ
  pub members : (t : ℕ) → Contains late t ↔ IsLate c t k
  pub sooner : (i j : ℕ) → i < j → j < length late → IsSooner k.tasks (slice_index late i) (slice_index late j)
  pub ends : end_waits c k ≡ fold (λ x t. end_wait t x) k late

-- where an event for which a task waits has a mutex, and a task that doesn't wait has no deadline
abbrev pub WaitsEndByDeadline : Type 0
WaitsEndByDeadline = (c : ℕ) (k : Parts) → ((t e : ℕ) → event_at k.tasks t ≡ Some e → is_mutex (bound e k) k.mutexes ≡ true) → ((t : ℕ) (task : Task) → slice_get k.tasks t ≡ Some task → is_waiting task.state ≡ false → task.deadline ≡ 0) → EndsByDeadline c k

-- ---- timers
-- timer n of c is on, and due
pub record IsTimerDue (c n : ℕ) (k : Parts) : Type 0 where
  pub timer : Timer
  pub there : slice_get k.timers n ≡ Some timer
  pub set : timer.due ≡ 0 → ⊥
  pub come : timer.due ≤ k.ticks
  pub home : timer.cpu ≡ c

-- the timers that are due expire one after another, by number
pub record ExpiresByNumber (c : ℕ) (k : Parts) : Type 0 where
  pub due : List ℕ
  pub in_order : AreInOrder (λ n. IsTimerDue c n k) due
  pub expires : expire_timers c k ≡ fold (λ x n. expire c n x) k due

abbrev pub TimersExpireByNumber : Type 0
TimersExpireByNumber = (c : ℕ) (k : Parts) → ExpiresByNumber c k
