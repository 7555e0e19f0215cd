-- Which processors can step, and when nothing more can happen.
use Rattle.std.specs.Prelude.{◌≡◌, ℕ, ◌<◌, ◌⊎◌, ◌==◌, ◌&&◌, if◌then◌else◌, List, Option, Some, None, Bool, true, false, is_some, slice_get, length}
use Rattle.evm_core.specs.Views.{device_word}
use Rattle.evm_model.specs.Current.{current}
use Rattle.evm_model.specs.Good.{is_ready}
use Rattle.evm_model.specs.State.{State}
use Rattle.evm_model.specs.declared.task.Task.{Task}
use Rattle.hunt_failures.specs.Failures.{stopped_at, is_quiet_pipe, is_stuck_task, is_zero}

-- ---- a processor that can step
abbrev pub is_ready_on : ℕ → Option Task → Bool
is_ready_on c None = false
is_ready_on c (Some task) = task.cpu == c && is_ready task.state

-- a task of processor c is ready
abbrev pub HasReady : ℕ → State → Type 0
HasReady c s = (t : ℕ) × (is_ready_on c (slice_get s.board.parts.tasks t) ≡ true)

-- processor c isn't stopped, and has a current task, a line on its wire or a task that is ready
pub record IsAwake (c : ℕ) (s : State) : Type 0 where
  pub there : c < length s.board.parts.processors
  pub runs : stopped_at c s ≡ false
  pub work : (is_some (current c s.board.parts) ≡ true) ⊎ ((is_quiet_pipe (slice_get s.board.parts.pipes c) ≡ false) ⊎ HasReady c s)

-- ---- a machine on which nothing more can happen
abbrev pub is_done : List ℕ → State → Option Task → Bool
is_done lines s None = true
is_done lines s (Some task) = if is_ready task.state then true else (if is_stuck_task lines s.board.parts.timers (Some task) then true else stopped_at task.cpu s)

-- no processor can step, each task is ready, has ended, waits for another task or is of a processor that is stopped, and the pins
-- count no ticks
pub record IsOver (lines : List ℕ) (s : State) : Type 0 where
  pub asleep : (c : ℕ) → IsAwake c s → ⊥
  pub done : (t : ℕ) → t < length s.board.parts.tasks → is_done lines s (slice_get s.board.parts.tasks t) ≡ true
  pub pins : is_zero (device_word 2 2 s.board.memory.devices) ≡ true
