-- What is kept beside the tasks and the mutexes, so that no rank is reckoned twice.
use Rattle.std.specs.Prelude.{◌≡◌, ℕ, ◌<◌, List, Option, Some, Bool, true, map, length}
use Rattle.evm_boost.specs.Scatter.{AreRanks}
use Rattle.evm_model.specs.Mutexes.{boosts}
use Rattle.evm_model.specs.declared.limits.TheConstants.{TASK_LIMIT}
use Rattle.evm_model.specs.declared.mutex.Mutex.{Mutex}
use Rattle.evm_model.specs.declared.task.Task.{Task}
use Rattle.evm_model.specs.Boosts.{HasHeight}
use Rattle.evm_ready.specs.Places.{ready_place}
use Rattle.evm_ready.specs.declared.place.Place.{Place}
use Rattle.evm_wait.specs.Waiters.{awaited}
use Rattle.evm_wait.specs.declared.waiter.Waiter.{Waiter}

-- the tasks, by their numbers: where each is ready, what it waits for, and its rank; and whether no chain of boosts is
-- known to close
pub record Scheduled : Type 0 where
  pub places : List (Option Place)
  pub waiters : List (Option Waiter)
  pub ranks : List ℕ
  pub sound : Bool

-- each task has the entries that its state, processor and stamp say, and some rank
pub record AreEntered (s : Scheduled) (tasks : List Task) : Type 0 where
  pub places : s.places ≡ map ready_place tasks
  pub waiters : s.waiters ≡ map awaited tasks
  pub count : length s.ranks ≡ length tasks

-- no chain of boosts closes, and each leads to a task
pub record AreSoundBoosts (mutexes : List Mutex) (tasks : List Task) : Type 0 where
  pub height : HasHeight (boosts mutexes tasks) TASK_LIMIT
  pub inside : (u t : ℕ) → boosts mutexes tasks u ≡ Some t → t < length tasks

-- each task has its entries and its rank
pub record IsScheduled (s : Scheduled) (mutexes : List Mutex) (tasks : List Task) : Type 0 where
  pub entered : AreEntered s tasks
  pub ranks : AreRanks s.ranks mutexes tasks
  pub sound : s.sound ≡ true → AreSoundBoosts mutexes tasks
