-- Ranks on the way from one schedule to the next: at which tasks they may still be wrong.
use Rattle.std.specs.Prelude.{◌≡◌, ℕ, ◌<◌, ◌≤◌, List, Option, Some, None, Bool, true, false, ◌⊎◌, if◌then◌else◌, length, nat_lt, slice_get}
use Rattle.evm_boost.specs.Lent.{first_waiting}
use Rattle.evm_boost.specs.Scatter.{class_rank_at}
use Rattle.evm_boost.specs.Scheduled.{Scheduled, AreEntered, IsScheduled, AreSoundBoosts}
use Rattle.evm_model.specs.Lists.{change}
use Rattle.evm_model.specs.Mutexes.{boosts, owner, waits_on}
use Rattle.evm_model.specs.Ranks.{own_rank}
use Rattle.evm_model.specs.declared.limits.TheConstants.{TASK_LIMIT}
use Rattle.evm_model.specs.declared.mutex.Mutex.{Mutex}
use Rattle.evm_model.specs.declared.mutex.Protocol.TheVariants.{Inheritance}
use Rattle.evm_model.specs.declared.task.Task.{Task}
use Rattle.evm_model.specs.declared.task.Wait.TheVariants.{Lock}
use Rattle.evm_model.specs.Boosts.{reaches}
use Rattle.evm_model.specs.Mending.{IsSettledBut}
use Rattle.evm_ready.specs.ListedRanks.{listed_rank}

-- the entry of a task, if there is one, says what the task says
abbrev pub entered_as : {X : Type 0} → (Task → Option X) → Option Task → ℕ → List (Option X) → List (Option X)
entered_as says None t entries = entries
entered_as says (Some task) t entries = change (λ _. says task) entries t

-- a task with another stamp
abbrev pub stamped : ℕ → Task → Task
stamped stamp task = record task { stamp = stamp }

-- each task has its entries, and while no chain closes each but the rest has the rank that follows from its boosters'
pub record IsSettling (rest : ℕ → Bool) (s : Scheduled) (mutexes : List Mutex) (tasks : List Task) : Type 0 where
  pub entered : AreEntered s tasks
  pub sound : s.sound ≡ true → AreSoundBoosts mutexes tasks
  pub settled : s.sound ≡ true → IsSettledBut rest (boosts mutexes tasks) (own_rank mutexes tasks) (length tasks) (listed_rank s.ranks)

-- task t, which boosted this one before, may boost another now; its rank is as before
pub record IsRelinked (s : Scheduled) (mutexes : List Mutex) (tasks : List Task) (t : ℕ) (before : Option ℕ) : Type 0 where
  pub was : Scheduled
  pub last : List Task
  pub scheduled : IsScheduled was mutexes last
  pub entered : AreEntered s tasks
  pub ranks : s.ranks ≡ was.ranks
  pub sound : s.sound ≡ was.sound
  pub count : length tasks ≡ length last
  pub others : (u : ℕ) → (u ≡ t → ⊥) → boosts mutexes tasks u ≡ boosts mutexes last u
  pub own : (u : ℕ) → own_rank mutexes tasks u ≡ own_rank mutexes last u
  pub boosted : before ≡ boosts mutexes last t

-- task t may boost task u: there is such a task, and it doesn't wait for t by any chain
pub record IsOpen (mutexes : List Mutex) (tasks : List Task) (t u : ℕ) : Type 0 where
  pub few : length tasks ≤ TASK_LIMIT
  pub below : u < length tasks
  pub away : reaches (waits_on mutexes tasks) t TASK_LIMIT (Some u) ≡ false

-- task t, which is there, may be boosted: it boosts nobody
pub record BoostsNobody (mutexes : List Mutex) (tasks : List Task) (t : ℕ) : Type 0 where
  pub few : length tasks ≤ TASK_LIMIT
  pub below : t < length tasks
  pub alone : boosts mutexes tasks t ≡ None

-- mutex m, if there is one, raises nobody: it is one of inheritance, and no task waits for it
pub record RaisesNobody (s : Scheduled) (mutexes : List Mutex) (m : ℕ) : Type 0 where
  pub inherits : (mutex : Mutex) → slice_get mutexes m ≡ Some mutex → mutex.protocol ≡ Inheritance
  pub alone : (mutex : Mutex) → slice_get mutexes m ≡ Some mutex → first_waiting s (Lock m) ≡ None

-- no rank changes where task t has mutex m: it has it already, or the mutex raises nobody
abbrev pub IsCalm : Scheduled → List Mutex → ℕ → ℕ → Type 0
IsCalm s mutexes m t = (owner mutexes m ≡ Some t) ⊎ RaisesNobody s mutexes m

-- the heir of task t that t may raise: one that ranks below it
abbrev pub raised_heir : List ℕ → ℕ → Option ℕ → Option ℕ
raised_heir ranks t None = None
raised_heir ranks t (Some u) = if nat_lt (listed_rank ranks u) (listed_rank ranks t) then Some u else None

-- the owner of a mutex that may fall when the mutex leaves it, or a task that waits for it: one that ranks above its class
abbrev pub fallen_owner : List ℕ → List Task → Option ℕ → Option ℕ
fallen_owner ranks tasks None = None
fallen_owner ranks tasks (Some u) = if nat_lt (class_rank_at tasks u) (listed_rank ranks u) then Some u else None
