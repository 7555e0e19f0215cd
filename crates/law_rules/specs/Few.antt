-- How many tasks, mutexes and timers there are at most, with pipes whose wires and logs are sets of lines.
use Rattle.std.specs.Prelude.{◌≡◌, ℕ, ◌≤◌, Some, slice_get, length}
use Rattle.evm_model.specs.Good.{IsPipe}
use Rattle.evm_model.specs.Pipes.{Pipe}
use Rattle.evm_model.specs.State.{Parts}
use Rattle.evm_model.specs.declared.limits.TheConstants.{MUTEX_LIMIT, TASK_LIMIT, TIMER_LIMIT}

pub record ArePipes (k : Parts) : Type 0 where
  pub each : (c : ℕ) (p : Pipe) → slice_get k.pipes c ≡ Some p → IsPipe p

-- no more tasks, mutexes and timers than there may be
pub record AreFew (k : Parts) : Type 0 where
  pub pipes : ArePipes k
  pub tasks : length k.tasks ≤ TASK_LIMIT
  pub mutexes : length k.mutexes ≤ MUTEX_LIMIT
  pub timers : length k.timers ≤ TIMER_LIMIT
