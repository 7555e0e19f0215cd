-- What a mutex lends to its owner.
use Rattle.std.specs.Prelude.{ℕ, ◌+◌, List, Option, Some, None, length, slice_get}
use Rattle.evm_boost.specs.Scheduled.{Scheduled}
use Rattle.evm_model.specs.Ranks.{first}
use Rattle.evm_model.specs.declared.mutex.Mutex.{Mutex}
use Rattle.evm_model.specs.declared.mutex.Protocol.{Protocol}
use Rattle.evm_model.specs.declared.mutex.Protocol.TheVariants.{Inheritance, Ceiling}
use Rattle.evm_model.specs.declared.task.Wait.{Wait}
use Rattle.evm_model.specs.declared.task.Wait.TheVariants.{Lock}
use Rattle.evm_ready.specs.ListedRanks.{listed_rank}
use Rattle.evm_ready.specs.Places.{entry}
use Rattle.evm_wait.specs.Waiters.{waiter_stamp, waits_for}
use Rattle.evm_wait.specs.declared.waiter.Waiter.{Waiter}

-- the first, by these ranks, of the tasks that wait for this
abbrev pub first_by : List (Option Waiter) → Wait → List ℕ → Option ℕ
first_by waiters wait ranks = first (λ t. waits_for wait (entry waiters t)) (listed_rank ranks) (λ t. waiter_stamp (entry waiters t)) (length waiters)

abbrev pub first_waiting : Scheduled → Wait → Option ℕ
first_waiting s wait = first_by s.waiters wait s.ranks

-- the rank of a task, if there is one
abbrev pub rank_of : List ℕ → Option ℕ → ℕ
rank_of ranks None = 0
rank_of ranks (Some t) = listed_rank ranks t

abbrev pub lent_by : Scheduled → ℕ → Protocol → ℕ
lent_by s m Inheritance = rank_of s.ranks (first_waiting s (Lock m))
lent_by s m (Ceiling priority) = 100 + priority

abbrev pub lent_of : Scheduled → ℕ → Option Mutex → ℕ
lent_of s m None = 0
lent_of s m (Some mutex) = lent_by s m mutex.protocol

-- the rank that mutex m lends to its owner: of its first waiter, or of its ceiling
abbrev pub lent_rank : Scheduled → List Mutex → ℕ → ℕ
lent_rank s mutexes m = lent_of s m (slice_get mutexes m)
