-- The rules that hold after every event.
use Rattle.std.specs.Prelude.{◌≡◌, ◌<◌, ◌≤◌, ℕ, ◌+◌, ◌*◌, ◌%◌, List, [], Option, Some, None, Bool, true, false, nat_lt, slice_get, length, count_by}
use Rattle.evm_lines.specs.Lines.{has_line, IsLineSet}
use Rattle.evm_lines.specs.declared.TheConstants.{LINES}
use Rattle.evm_exec.specs.declared.hart.Hart.{Hart}
use Rattle.evm_model.specs.Boosts.{HasHeight}
use Rattle.evm_model.specs.Actions.{action_in}
use Rattle.evm_model.specs.Bounds.{PER_EVENT, STAMPS_PER_EVENT, PipesUpTo, HeldUpTo}
use Rattle.evm_model.specs.Devices.{Attached, IsDevice}
use Rattle.evm_model.specs.Events.{bound_of}
use Rattle.evm_model.specs.Mutexes.{owner, lock_at, waits_on}
use Rattle.evm_model.specs.Pipes.{Pipe}
use Rattle.evm_model.specs.Ranks.{best, is_in_ready}
use Rattle.evm_model.specs.Replay.{bad_boot}
use Rattle.evm_model.specs.Current.{current, is_oob}
use Rattle.evm_model.specs.Watch.{watch}
use Rattle.evm_model.specs.State.{State, Notices, Parts, profile_of}
use Rattle.evm_model.specs.Event.{Event}
use Rattle.evm_model.specs.declared.event.Event.TheVariants.{Tick}
use Rattle.evm_model.specs.declared.limits.TheConstants.{DEVICE_LIMIT, EVENT_LIMIT, FLAGS_LIMIT, FLAGS_WORD_LIMIT, SEMAPHORE_COUNT_LIMIT, MUTEX_LIMIT, NOTICE_LIMIT, PROCESSOR_LIMIT, SEMAPHORE_LIMIT, TASK_LIMIT, TIMER_LIMIT, TIMER_SPAN_LIMIT}
use Rattle.evm_model.specs.declared.action.Action.{Action}
use Rattle.evm_model.specs.declared.action.Action.TheVariants.{Nothing, Puts, Posts}
use Rattle.evm_model.specs.declared.mutex.Mutex.{Mutex}
use Rattle.evm_model.specs.declared.processor.Processor.{Processor}
use Rattle.evm_model.specs.declared.task.Task.{Task}
use Rattle.evm_model.specs.declared.task.TaskState.{TaskState}
use Rattle.evm_model.specs.declared.task.TaskState.TheVariants.{InReady, OobReady, Waits}
use Rattle.evm_model.specs.declared.task.Wait.TheVariants.{Event as For}
use Rattle.evm_model.specs.declared.timer.Timer.{Timer}

-- a task that is ready, on whatever stage
abbrev pub is_ready : TaskState → Bool
is_ready InReady = true
is_ready OobReady = true
is_ready _ = false

-- task t is one of processor c's, and in such a state
pub record IsOneOf (such : TaskState → Bool) (c t : ℕ) (tasks : List Task) : Type 0 where
  pub task : Task
  pub there : slice_get tasks t ≡ Some task
  pub at_home : task.cpu ≡ c
  pub ready : such task.state ≡ true

-- task t is one of processor c's, and ready
abbrev pub IsOwn : ℕ → ℕ → List Task → Type 0
IsOwn c t tasks = IsOneOf is_ready c t tasks

-- processor c runs what its two stages say
pub record IsSettled (c : ℕ) (pipe : Pipe) (p : Processor) (mutexes : List Mutex) (tasks : List Task) : Type 0 where
  -- its current tasks are its own and ready, the in-band one in-band
  pub current_own : (t : ℕ) → p.current ≡ Some t → IsOwn c t tasks
  pub in_band_own : (t : ℕ) → p.in_band_task ≡ Some t → IsOneOf is_in_ready c t tasks
  -- unless out-of-band is stalled or line 1 is on the wire, the best task that is ready there is current
  pub runs_best : pipe.oob.stalled ≡ false → has_line pipe.wire 1 ≡ false → (t : ℕ) → best c mutexes tasks ≡ Some t → p.current ≡ Some t
  -- where no out-of-band task is current the in-band current one is, or none
  pub runs_in_band : is_oob p.current tasks ≡ false → p.current ≡ p.in_band_task
  -- an out-of-band log isn't empty only while that stage is stalled
  pub oob_played : pipe.oob.stalled ≡ false → pipe.oob.lines ≡ []
  -- an in-band log only while that stage is stalled or an out-of-band task is current
  pub in_band_played : pipe.in_band.stalled ≡ false → is_oob p.current tasks ≡ false → pipe.in_band.lines ≡ []
  -- a stage is stalled only by a current task of it
  pub oob_staller : pipe.oob.stalled ≡ true → is_oob p.current tasks ≡ true
  pub in_band_staller : pipe.in_band.stalled ≡ true → p.in_band_task ≡ None → ⊥

-- what a watchdog of this limit has counted for the task that a processor runs
pub record IsWatched (watchdog : ℕ) (current : Option ℕ) (watch : ℕ) (tasks : List Task) : Type 0 where
  -- nothing without a watchdog, and where no out-of-band task is current
  pub off : watchdog ≡ 0 → watch ≡ 0
  pub away : is_oob current tasks ≡ false → watch ≡ 0
  -- fewer ticks than it lets a task have
  pub below : (watchdog ≡ 0 → ⊥) → watch < watchdog

-- a pipe's wire and logs are sets of lines, and there are counts for each line
pub record IsPipe (p : Pipe) : Type 0 where
  pub wire : IsLineSet p.wire
  pub oob : IsLineSet p.oob.lines
  pub in_band : IsLineSet p.in_band.lines
  pub counts : length p.counts ≡ LINES

-- who owns the mutexes, and who waits for them
pub record AreLocks (mutexes : List Mutex) (tasks : List Task) : Type 0 where
  -- each owner is a task
  pub owners : (m t : ℕ) → owner mutexes m ≡ Some t → t < length tasks
  -- a mutex for which a task waits has an owner
  pub waited : (u m : ℕ) → lock_at tasks u ≡ Some m → owner mutexes m ≡ None → ⊥
  -- some height falls from each task that waits to the owner that it waits for: so no chain returns to its start
  pub chains : HasHeight (waits_on mutexes tasks) TASK_LIMIT
  -- no more of them than there may be
  pub few : length mutexes ≤ MUTEX_LIMIT

-- no more semaphores than there may be, and none above the greatest count
pub record AreSemaphores (semaphores : List ℕ) : Type 0 where
  pub few : length semaphores ≤ SEMAPHORE_LIMIT
  pub bounded : (s n : ℕ) → slice_get semaphores s ≡ Some n → n ≤ SEMAPHORE_COUNT_LIMIT

-- ---- events
abbrev pub event_of : TaskState → Option ℕ
event_of (Waits (For e)) = Some e
event_of _ = None

abbrev pub event_of_task : Option Task → Option ℕ
event_of_task None = None
event_of_task (Some task) = event_of task.state

-- the event for which task t waits
abbrev pub event_at : List Task → ℕ → Option ℕ
event_at tasks t = event_of_task (slice_get tasks t)

-- whether a mutex is named and there
abbrev pub is_mutex : Option ℕ → List Mutex → Bool
is_mutex None mutexes = false
is_mutex (Some m) mutexes = nat_lt m (length mutexes)

-- the events, and the tasks that wait for them
pub record AreEvents (events : List (Option ℕ)) (mutexes : List Mutex) (tasks : List Task) : Type 0 where
  -- an event for which a task waits has a mutex that is there
  pub bound : (t e : ℕ) → event_at tasks t ≡ Some e → is_mutex (bound_of (slice_get events e)) mutexes ≡ true
  -- a task that waits for an event owns no mutex
  pub idle : (t e m : ℕ) → event_at tasks t ≡ Some e → owner mutexes m ≡ Some t → ⊥

-- a task that waits
abbrev pub is_waiting : TaskState → Bool
is_waiting (Waits wait) = true
is_waiting _ = false

-- ---- flag groups, timers and actions
-- no more flag groups than there may be, and no word above the greatest
pub record AreFlags (flags : List ℕ) : Type 0 where
  pub few : length flags ≤ FLAGS_LIMIT
  pub bounded : (f word : ℕ) → slice_get flags f ≡ Some word → word ≤ FLAGS_WORD_LIMIT

-- a timer at a tick: it is due within the greatest span, and has expired less often than the tick at which it is due
pub record IsTimer (ticks : ℕ) (timer : Timer) : Type 0 where
  pub period : timer.period ≤ TIMER_SPAN_LIMIT
  pub due : timer.due ≤ TIMER_SPAN_LIMIT + ticks
  pub set : (timer.due ≡ 0 → ⊥) → timer.expiries < timer.due
  pub off : timer.due ≡ 0 → timer.expiries ≤ ticks

pub record AreTimers (ticks : ℕ) (timers : List Timer) : Type 0 where
  pub few : length timers ≤ TIMER_LIMIT
  pub each : (n : ℕ) (timer : Timer) → slice_get timers n ≡ Some timer → IsTimer ticks timer

-- there is an action for each line; lines 0 and 1 have none, and the others name what is there
pub record AreActions (actions : List Action) (semaphores flags : List ℕ) : Type 0 where
  pub count : length actions ≡ LINES
  pub fixed : (l : ℕ) → l < 2 → action_in actions l ≡ Nothing
  pub puts : (l s : ℕ) → action_in actions l ≡ Puts s → s < length semaphores
  pub posts : (l f : ℕ) → action_in actions l ≡ Posts f → f < length flags

-- the notices
pub record AreNotices (events : ℕ) (notices : Notices) : Type 0 where
  pub kept : length notices.kept ≤ NOTICE_LIMIT
  pub total : notices.total ≤ events

-- no more devices than there may be, each with words that its kind may have
pub record AreDevices (devices : List Attached) : Type 0 where
  pub few : length devices ≤ DEVICE_LIMIT
  pub each : (i : ℕ) (device : Attached) → slice_get devices i ≡ Some device → IsDevice device

-- what holds of the parts
pub record Good (p : Parts) : Type 0 where
  pub pipes : (c : ℕ) (pipe : Pipe) → slice_get p.pipes c ≡ Some pipe → IsPipe pipe
  pub settled : (c : ℕ) (pipe : Pipe) (processor : Processor) → slice_get p.pipes c ≡ Some pipe → slice_get p.processors c ≡ Some processor → IsSettled c pipe processor p.mutexes p.tasks
  pub watched : (c : ℕ) → IsWatched p.profile.watchdog (current c p) (watch c p) p.tasks
  -- each pc is a multiple of 4
  pub aligned : (t : ℕ) (hart : Hart) → slice_get p.harts t ≡ Some hart → hart.pc % 4 ≡ 0
  -- each task is of a processor that is there
  pub homes : (t : ℕ) (task : Task) → slice_get p.tasks t ≡ Some task → task.cpu < length p.processors
  pub locks : AreLocks p.mutexes p.tasks
  pub events : AreEvents p.events p.mutexes p.tasks
  -- a task that doesn't wait has no deadline
  pub deadlines : (t : ℕ) (task : Task) → slice_get p.tasks t ≡ Some task → is_waiting task.state ≡ false → task.deadline ≡ 0
  -- stamps are distinct, and below the next
  pub stamps_below : (t : ℕ) (task : Task) → slice_get p.tasks t ≡ Some task → task.stamp < p.stamps
  pub stamps_differ : (t u : ℕ) (a b : Task) → slice_get p.tasks t ≡ Some a → slice_get p.tasks u ≡ Some b → a.stamp ≡ b.stamp → t ≡ u
  -- a hart for each task, a pipe for each processor, and no more of them than there may be
  pub harts_count : length p.harts ≡ length p.tasks
  pub pipes_count : length p.pipes ≡ length p.processors
  pub watches_count : length p.watches ≡ length p.processors
  pub few_tasks : length p.tasks ≤ TASK_LIMIT
  pub few_processors : length p.processors ≤ PROCESSOR_LIMIT

abbrev pub is_tick : Event → Bool
is_tick Tick = true
is_tick _ = false

-- what holds of the whole machine
pub record GoodState (s : State) : Type 0 where
  pub good : Good s.board.parts
  -- the boot numbers are inside their limits, and there are as many processors and bytes of RAM as they say
  pub boot : bad_boot s.boot ≡ false
  pub processors : length s.board.parts.processors ≡ s.boot.cpus
  pub ram : length s.board.memory.ram ≡ s.boot.ram
  pub profile : s.board.parts.profile ≡ profile_of s.boot
  -- the journal is within its capacity
  pub journal : length s.journal ≤ s.boot.capacity
  -- the clock is the journal's ticks
  pub ticks : s.board.parts.ticks ≡ count_by is_tick s.journal
  -- stamps are far below 2^64
  pub stamps : s.board.parts.stamps ≤ 1 + STAMPS_PER_EVENT * length s.journal
  -- counts are far below 2^64
  pub counts : PipesUpTo (PER_EVENT * length s.journal) s.board.parts.pipes
  -- semaphores are within their bounds
  pub semaphores : AreSemaphores s.board.parts.semaphores
  pub flags : AreFlags s.board.parts.flags
  pub timers : AreTimers s.board.parts.ticks s.board.parts.timers
  pub few_events : length s.board.parts.events ≤ EVENT_LIMIT
  pub actions : AreActions s.board.parts.actions s.board.parts.semaphores s.board.parts.flags
  -- and so is how often each mutex is locked
  pub holds : HeldUpTo (PER_EVENT * length s.journal) s.board.parts.mutexes
  -- no more notices are kept than there may be, and no more were made than there were events
  pub notices : AreNotices (length s.journal) s.board.parts.notices
  pub devices : AreDevices s.board.memory.devices
