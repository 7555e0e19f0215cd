-- A task that waits for a mutex, and the order in which tasks wait for an event no more.
use Rattle.std.specs.Prelude.{◌≡◌, ◌⊎◌, ◌++◌, ℕ, List, [], ◌∷◌, Some}
use Rattle.evm_model.specs.Events.{reacquire}
use Rattle.evm_model.specs.State.{Parts}
use Rattle.evm_model.specs.Waits.{first_waiter}
use Rattle.evm_model.specs.declared.task.TaskState.{TaskState}
use Rattle.evm_model.specs.declared.task.TaskState.TheVariants.{Waits}
use Rattle.evm_model.specs.declared.task.Wait.TheVariants.{Event, Lock, Reacquire}

-- a task waits for a mutex since it locks it, or since it reacquires it after a wait for an event, with the answer that it keeps
abbrev pub WaitsForMutex : TaskState → ℕ → Type 0
WaitsForMutex state m = (state ≡ Waits (Lock m)) ⊎ ((answer : ℕ) × (state ≡ Waits (Reacquire m answer)))

-- these tasks reacquired the mutex of event e one after another, with the answer 0: each was the first that still waited, by rank, then by stamp
pub data FirstByFirst (e : ℕ) (old : Parts) : List ℕ → Parts → Type 0 where
  none : FirstByFirst e old [] old
  next : (tasks : List ℕ) (t : ℕ) (k : Parts) → FirstByFirst e old tasks k → first_waiter (Event e) k ≡ Some t → FirstByFirst e old (tasks ++ t ∷ []) (reacquire e t 0 k)
