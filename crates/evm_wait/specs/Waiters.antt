-- What tasks wait for: an entry for each task, by its number.
use Rattle.std.specs.Prelude.{ℕ, List, Option, Some, None, Bool, false}
use Rattle.evm_model.specs.Waits.{same_wait}
use Rattle.evm_model.specs.declared.task.Task.{Task}
use Rattle.evm_model.specs.declared.task.TaskState.{TaskState}
use Rattle.evm_model.specs.declared.task.TaskState.TheVariants.{Waits}
use Rattle.evm_model.specs.declared.task.Wait.{Wait}
use Rattle.evm_wait.specs.declared.waiter.Waiter.{Waiter}

-- what a task in this state waits for
abbrev pub awaited_in : TaskState → ℕ → Option Waiter
awaited_in (Waits wait) stamp = Some (record { wait = wait; stamp = stamp })
awaited_in _ stamp = None

-- what a task waits for, if it waits
abbrev pub awaited : Task → Option Waiter
awaited task = awaited_in task.state task.stamp

-- whether it waits for this
abbrev pub waits_for : Wait → Option Waiter → Bool
waits_for wait None = false
waits_for wait (Some waiter) = same_wait waiter.wait wait

abbrev pub waiter_stamp : Option Waiter → ℕ
waiter_stamp None = 0
waiter_stamp (Some waiter) = waiter.stamp

-- the same wait since another stamp
abbrev pub stamped_waiter : ℕ → Waiter → Waiter
stamped_waiter stamp waiter = record waiter { stamp = stamp }

-- ---- all entries
-- the tasks, by their numbers: what each waits for, and its rank
pub record WaitingTasks : Type 0 where
  pub waiters : List (Option Waiter)
  pub ranks : List ℕ
