-- How a task waits and wakes, whatever it waits for.
use Rattle.std.specs.Prelude.{ℕ, zero, suc, ◌==◌, ◌&&◌, List, Option, Some, None, Bool, true, false, not, if◌then◌else◌, slice_get, length}
use Rattle.evm_model.specs.Harts.{A0, set_register}
use Rattle.evm_model.specs.Mutexes.{owns_any}
use Rattle.evm_model.specs.Ranks.{first, rank, stamp}
use Rattle.evm_model.specs.State.{Parts, on_hart, on_task}
use Rattle.evm_model.specs.Tasks.{restamp, is_weak}
use Rattle.evm_model.specs.declared.stage.Stage.{Stage}
use Rattle.evm_model.specs.declared.stage.Stage.TheVariants.{OutOfBand, InBand}
use Rattle.evm_model.specs.declared.task.Task.{Task}
use Rattle.evm_model.specs.declared.task.TaskState.{TaskState}
use Rattle.evm_model.specs.declared.task.TaskState.TheVariants.{InReady, OobReady, Waits}
use Rattle.evm_model.specs.declared.task.Wait.{Wait}
use Rattle.evm_model.specs.declared.task.Wait.TheVariants.{Line, Lock, Reacquire, Semaphore, Event, Flags, Sleep, Timer}

-- ---- waiters
-- whether the first wait, of a task, is for the second; one that reacquires a mutex waits as for its lock
abbrev pub same_wait : Wait → Wait → Bool
same_wait (Line l) (Line m) = l == m
same_wait (Lock m) (Lock n) = m == n
same_wait (Reacquire m answer) (Lock n) = m == n
same_wait (Semaphore s) (Semaphore r) = s == r
same_wait (Event e) (Event d) = e == d
same_wait (Flags f) (Flags g) = f == g
same_wait Sleep Sleep = true
same_wait (Timer n) (Timer m) = n == m
same_wait _ _ = false

abbrev pub is_wait_for : Wait → TaskState → Bool
is_wait_for wait (Waits other) = same_wait other wait
is_wait_for wait _ = false

abbrev pub awaits_task : Wait → Option Task → Bool
awaits_task wait None = false
awaits_task wait (Some task) = is_wait_for wait task.state

-- whether task t waits for it
abbrev pub awaits : Wait → List Task → ℕ → Bool
awaits wait tasks t = awaits_task wait (slice_get tasks t)

-- of the tasks that wait for it the one of greatest rank, then of least stamp
unfoldable pub first_waiter : Wait → Parts → Option ℕ
first_waiter wait p = first (awaits wait p.tasks) (rank p.mutexes p.tasks) (stamp p.tasks) (length p.tasks)

-- ---- beginning to wait
-- task t waits, until a deadline if that is not 0; it has a fresh stamp
unfoldable pub begin_wait : ℕ → Wait → ℕ → Parts → Parts
begin_wait t wait deadline p = restamp t (on_task t (λ task. record task { state = Waits wait; deadline = deadline }) p)

-- ---- waking
-- the answer that a task keeps while it reacquires a mutex; 0 else
abbrev pub kept : TaskState → ℕ
kept (Waits (Reacquire m answer)) = answer
kept _ = 0

abbrev pub kept_of : Option Task → ℕ
kept_of None = 0
kept_of (Some task) = kept task.state

-- the stage on which a task waits: in-band for a line, else out-of-band
abbrev pub stage_of_wait : Wait → Stage
stage_of_wait (Line l) = InBand
stage_of_wait _ = OutOfBand

-- a task that waited out-of-band returns in-band with its answer if the flag says so
abbrev pub ready_on : Stage → Bool → TaskState
ready_on InBand returns = InReady
ready_on OutOfBand returns = if returns then InReady else OobReady

abbrev pub woken_state : Bool → TaskState → TaskState
woken_state returns (Waits wait) = ready_on (stage_of_wait wait) returns
woken_state returns state = state

-- its wait is over: it is ready on the stage on which it waited, but in-band if it is weak and owns no mutex
abbrev pub woken : Bool → Task → Task
woken owns task = record task { state = woken_state (is_weak task.class && not owns) task.state; deadline = 0 }

-- task t wakes, and its call is answered with this value; it has a fresh stamp
unfoldable pub wake : ℕ → ℕ → Parts → Parts
wake t value p = restamp t (on_task t (woken (owns_any t p.mutexes)) (on_hart t (set_register A0 value) p))

-- ---- a line wakes its waiters
abbrev pub awaits_line : ℕ → ℕ → Option Task → Bool
awaits_line c l None = false
awaits_line c l (Some task) = is_wait_for (Line l) task.state && task.cpu == c

-- task t wakes if it waits on c for line l
abbrev pub wake_waiter : ℕ → ℕ → ℕ → Parts → Parts
wake_waiter c l t p = if awaits_line c l (slice_get p.tasks t) then wake t 0 p else p

-- of the tasks below a number those that wait on c for line l have woken, by number
unfoldable pub wake_below : ℕ → ℕ → ℕ → Parts → Parts
wake_below c l zero p = p
wake_below c l (suc t) p = wake_waiter c l t (wake_below c l t p)
