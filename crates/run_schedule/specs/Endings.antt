-- How a run has ended.
use Rattle.std.specs.Prelude.{◌≡◌, ℕ, ◌<◌, ◌==◌, ◌&&◌, Option, Some, None, Bool, true, false, not, is_none, slice_get, length, Err}
use Rattle.evm_core.specs.Views.{device_word}
use Rattle.evm_model.specs.Event.{Event}
use Rattle.evm_model.specs.Pipes.{Pipe}
use Rattle.evm_model.specs.Replay.{apply}
use Rattle.evm_model.specs.State.{State}
use Rattle.evm_model.specs.declared.processor.Processor.{Processor}
use Rattle.evm_model.specs.declared.task.Task.{Task}
use Rattle.evm_model.specs.declared.task.TaskState.{TaskState}
use Rattle.evm_model.specs.declared.task.TaskState.TheVariants.{InReady, OobReady, Waits, Exit, Faulted as Ended}
use Rattle.hunt_failures.specs.Failures.{faulted_at, is_off, is_quiet_pipe, is_waiting_task, is_zero, stopped_at}
use Rattle.hunt_failures.specs.Awake.{IsAwake}
use Rattle.run_schedule.specs.declared.ending.RunEnd.{RunEnd}
use Rattle.run_schedule.specs.declared.ending.RunEnd.TheVariants.{AllEnded, Break, Fault, Deadlock, Idle, Over, Refused}

-- ---- all tasks have ended by exit
abbrev pub is_exit : TaskState → Bool
is_exit Exit = true
is_exit _ = false

abbrev pub has_exited : Option Task → Bool
has_exited None = true
has_exited (Some task) = is_exit task.state

abbrev pub AllExited : State → Type 0
AllExited s = (t : ℕ) → t < length s.board.parts.tasks → has_exited (slice_get s.board.parts.tasks t) ≡ true

-- ---- a deadlock
-- a processor that isn't stopped and runs no task
abbrev pub is_free : Option Processor → Bool
is_free None = true
is_free (Some p) = not p.stopped && is_none p.current

-- and no line is on its wire
abbrev pub is_resting : Option Processor → Option Pipe → Bool
is_resting p pipe = is_free p && is_quiet_pipe pipe

-- a task that has ended, or waits without a deadline
abbrev pub is_untimed_state : ℕ → TaskState → Bool
is_untimed_state deadline Exit = true
is_untimed_state deadline (Ended fault) = true
is_untimed_state deadline (Waits wait) = deadline == 0
is_untimed_state deadline InReady = false
is_untimed_state deadline OobReady = false

abbrev pub is_untimed : Option Task → Bool
is_untimed None = true
is_untimed (Some task) = is_untimed_state task.deadline task.state

-- A task waits, no processor runs a task, is stopped or has a line on its wire, no task is ready, and no deadline and no timer is to come:
-- device 2, the pins, counts no ticks either.
pub record IsDeadlocked (s : State) : Type 0 where
  pub cpus : (c : ℕ) → c < length s.board.parts.processors → is_resting (slice_get s.board.parts.processors c) (slice_get s.board.parts.pipes c) ≡ true
  pub tasks : (t : ℕ) → t < length s.board.parts.tasks → is_untimed (slice_get s.board.parts.tasks t) ≡ true
  pub timers : (n : ℕ) → n < length s.board.parts.timers → is_off (slice_get s.board.parts.timers n) ≡ true
  pub one : (t : ℕ) × (is_waiting_task (slice_get s.board.parts.tasks t) ≡ true)
  pub pins : is_zero (device_word 2 2 s.board.memory.devices) ≡ true

-- ---- endings
-- what is so of a machine whose run has ended in a way
abbrev pub HasEndedSo : RunEnd → State → Type 0
HasEndedSo AllEnded s = AllExited s
HasEndedSo (Break c) s = stopped_at c s ≡ true
HasEndedSo (Fault t) s = faulted_at t s ≡ true
HasEndedSo Deadlock s = IsDeadlocked s
HasEndedSo Idle s = (c : ℕ) → IsAwake c s → ⊥
HasEndedSo Over s = Unit {0}
HasEndedSo (Refused refusal) s = (event : Event) × (apply s event ≡ Err refusal)

-- and it is AllEnded wherever all tasks have ended by exit
pub record IsEnded (ending : RunEnd) (s : State) : Type 0 where
  pub so : HasEndedSo ending s
  pub only : AllExited s → ending ≡ AllEnded
