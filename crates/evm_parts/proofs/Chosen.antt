-- Tasks by number, and the first of those that wait.
use Rattle.std.proofs.Common.{◌≡◌, ℕ, ◌<◌, List, Option, Some, None, length, sym, ◌∙◌}
use Rattle.std.specs.Prelude.{slice_get}
use Rattle.evm_model.proofs.Lists.{slice_get-below, slice_get-within}
use Rattle.evm_model.specs.Ranks.{first, rank, stamp}
use Rattle.evm_model.specs.State.{Parts}
use Rattle.evm_model.specs.Waits.{awaits, first_waiter}
use Rattle.evm_model.specs.declared.task.Task.{Task}
use Rattle.evm_model.specs.declared.task.Wait.{Wait}

pub first_waiter-is : (o : Option ℕ) (wait : Wait) (k : Parts) → o ≡ first (awaits wait k.tasks) (rank k.mutexes k.tasks) (stamp k.tasks) (length k.tasks) → o ≡ first_waiter wait k
unfolding first_waiter
first_waiter-is o wait k e = e

-- a task that is there has a number below their count
pub task-below : (tasks : List Task) (t : ℕ) (task : Task) → slice_get tasks t ≡ Some task → t < length tasks
task-below tasks t task e = slice_get-below tasks t task e

-- and below it each is there
pub task-there : (tasks : List Task) (t : ℕ) → t < length tasks → slice_get tasks t ≡ None → ⊥
task-there tasks t h e = let x = slice_get-within tasks t h in let no : Some x.0 ≡ None = sym x.1 ∙ e in cc

pub ruleset there = (task-below, task-there)
