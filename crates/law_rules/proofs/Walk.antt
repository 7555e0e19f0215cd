-- Every event is a walk of exact primitives: each says what it does and to whom, so that a law is proved once a primitive.
use Rattle.std.proofs.Common.{◌≡◌, ℕ, ◌+◌, ◌<◌, ◌≤◌, [], ◌∷◌, ◌++◌, Bool, true, false, Option, Some, None, length, ◌⊎◌, refl, arith}
use Rattle.std.specs.Prelude.{slice_get, bit_or, ◌^◌, ◌&&◌, if◌then◌else◌}
use Rattle.evm_lines.specs.Lines.{has_line}
use Rattle.evm_lines.specs.declared.TheConstants.{LINES}
use Rattle.evm_exec.specs.Registers.{register_of, with_register}
use Rattle.evm_exec.specs.declared.hart.Hart.{Hart}
use Rattle.evm_model.specs.Actions.{action_at}
use Rattle.evm_model.specs.Calls.{call_number, call_stage}
use Rattle.evm_model.specs.Commands.{tick}
use Rattle.evm_model.specs.Errnos.{refusal_answer}
use Rattle.evm_model.specs.Events.{bound}
use Rattle.evm_model.specs.Good.{event_of}
use Rattle.evm_model.specs.Harts.{A7, argument, spawned_hart}
use Rattle.evm_model.specs.InBandCalls.{last_bytes}
use Rattle.evm_model.specs.Lists.{each}
use Rattle.evm_model.specs.Mutexes.{free_mutex, owner, held_by}
use Rattle.evm_model.specs.Notices.{asks_for, keep}
use Rattle.evm_model.specs.OobCalls.{is_scheduled_task, move_task}
use Rattle.evm_model.specs.Pipes.{Pipe, raise, arrive, receive, play, set_stall}
use Rattle.evm_model.specs.Policies.{policy_of}
use Rattle.evm_model.specs.Ranks.{is_oob_ready, may_run_oob}
use Rattle.evm_model.specs.Settle.{current, is_oob}
use Rattle.evm_model.specs.State.{Parts, new_task, on_hart, on_task, on_processor, on_pipe, on_watch, on_mutex, on_semaphore, on_event, on_flags, on_timer, on_action}
use Rattle.evm_model.specs.Tasks.{restamp, set_state, set_policy, is_round_robin, spend_slice}
use Rattle.evm_model.specs.Timers.{idle_timer, set_timer, taken, is_due_timer, expired}
use Rattle.evm_model.specs.Waits.{wake, begin_wait}
use Rattle.evm_model.specs.declared.action.Action.{Action}
use Rattle.evm_model.specs.declared.action.Action.TheVariants.{Puts, Posts}
use Rattle.evm_model.specs.declared.call.Call.{Call}
use Rattle.evm_model.specs.declared.errno.Errno.TheVariants.{TimedOut}
use Rattle.evm_model.specs.declared.limits.TheConstants.{EVENT_LIMIT, FLAGS_LIMIT, FLAGS_WORD_LIMIT, MUTEX_LIMIT, SEMAPHORE_COUNT_LIMIT, SEMAPHORE_LIMIT, TASK_LIMIT, TIMER_LIMIT, TIMER_SPAN_LIMIT}
use Rattle.evm_model.specs.declared.mutex.Mutex.{Mutex}
use Rattle.evm_model.specs.declared.mutex.Protocol.{Protocol}
use Rattle.evm_model.specs.declared.notice.NoticeKind.{NoticeKind}
use Rattle.evm_model.specs.declared.notice.NoticeKind.TheVariants.{DemotedByCall, DemotedByFault, Deadlock, NotOwner, Overran}
use Rattle.evm_model.specs.declared.processor.Processor.{Processor}
use Rattle.evm_model.specs.declared.stage.Stage.{Stage}
use Rattle.evm_model.specs.declared.stage.Stage.TheVariants.{OutOfBand, InBand}
use Rattle.evm_model.specs.declared.task.Class.{Class}
use Rattle.evm_model.specs.declared.task.Task.{Task}
use Rattle.evm_model.specs.declared.task.TaskState.TheVariants.{InReady, Waits}
use Rattle.evm_model.specs.declared.task.Wait.{Wait}
use Rattle.evm_model.specs.declared.task.Wait.TheVariants.{Line, Lock, Reacquire, Semaphore, Event, Flags, Sleep, Timer as For}
use Rattle.evm_model.specs.declared.timer.Timer.{Timer}
pub use Rattle.law_rules.specs.Few.{ArePipes, AreFew}

-- who acts, and what it may do
pub record Actor : Type 0 where
  -- the processor
  pub cpu : ℕ
  -- the task that acts on it, if one does
  pub task : Option ℕ
  -- whether line l may be raised on processor d
  pub may : ℕ → ℕ → Bool
  -- whether the processor may choose another task
  pub chooses : Bool
  -- whether the task calls a kernel, and whether its instruction may fault
  pub calls : Bool
  pub faults : Bool

-- a change of one pipe, and by how much it raises a count at most
pub data PipeMove (may : ℕ → Bool) : ℕ → Pipe → Pipe → Type 0 where
  raises : (l : ℕ) (p : Pipe) → l < LINES → may l ≡ true → PipeMove may 1 p (raise l p)
  -- a line on the wire is received: 0 and 1 out-of-band
  receives : (stage : Stage) (l : ℕ) (p : Pipe) → (l < 2 → stage ≡ OutOfBand) → has_line p.wire l ≡ true → PipeMove may 1 p (receive stage l p)
  -- a line in a log is played; the timer's, played out-of-band, arrives in-band
  plays_timer : (p : Pipe) → has_line p.oob.lines 0 ≡ true → PipeMove may 1 p (arrive InBand 0 (play OutOfBand 0 p))
  plays_oob : (l : ℕ) (p : Pipe) → (l ≡ 0 → ⊥) → has_line p.oob.lines l ≡ true → PipeMove may 1 p (play OutOfBand l p)
  plays_in_band : (l : ℕ) (p : Pipe) → has_line p.in_band.lines l ≡ true → PipeMove may 1 p (play InBand l p)
  stalls : (stage : Stage) (b : Bool) (p : Pipe) → PipeMove may 0 p (set_stall stage b p)

-- only processors and pipes have changed so far
pub record Untouched (old k : Parts) : Type 0 where
  pub tasks : k.tasks ≡ old.tasks
  pub harts : k.harts ≡ old.harts
  pub mutexes : k.mutexes ≡ old.mutexes
  pub console : k.console ≡ old.console
  pub notices : k.notices ≡ old.notices
  pub ticks : k.ticks ≡ old.ticks
  pub semaphores : k.semaphores ≡ old.semaphores
  pub events : k.events ≡ old.events
  pub flags : k.flags ≡ old.flags
  pub timers : k.timers ≡ old.timers
  pub actions : k.actions ≡ old.actions

pub unchanged : (k : Parts) → Untouched k k
unchanged k = record {
  tasks = refl;
  harts = refl;
  mutexes = refl;
  console = refl;
  notices = refl;
  ticks = refl;
  semaphores = refl;
  events = refl;
  flags = refl;
  timers = refl;
  actions = refl;
}

-- task t was there before
abbrev pub IsOldHart : Parts → Parts → ℕ → Type 0
IsOldHart old k t = (t < length old.harts) ⊎ (length k.harts ≡ length old.harts)

-- .. since there is no new one, or since a new one is not out-of-band
abbrev pub IsOldTask : Parts → Parts → ℕ → Type 0
IsOldTask old k t = (length k.tasks ≡ length old.tasks) ⊎ (is_oob (Some t) k.tasks ≡ true)

-- only its owner and its count change, the count by so much at most; it was free or task t's
pub record IsHeld (t n : ℕ) (old new : Mutex) : Type 0 where
  pub kind : new ≡ record old { owner = new.owner; count = new.count }
  pub whose : (old.owner ≡ None) ⊎ (old.owner ≡ Some t)
  pub count : new.count ≤ old.count + n

-- a change of a task that leaves its processor and its stamp
abbrev pub KeepsPlace : (Task → Task) → Type 0
KeepsPlace f = (x : Task) → ((f x).cpu ≡ x.cpu) × ((f x).stamp ≡ x.stamp)

-- .. after which it waits for an event only if it did
abbrev pub NamesNone : (Task → Task) → Type 0
NamesNone f = (x : Task) → (event_of (f x).state ≡ None) ⊎ (event_of (f x).state ≡ event_of x.state)

-- the task that acts makes the call of this number, and had this hart
pub record Makes (a : Actor) (old : Parts) (number : ℕ) (hart : Hart) : Type 0 where
  pub task : ℕ
  pub acts : a.task ≡ Some task
  pub calls : a.calls ≡ true
  pub has : slice_get old.harts task ≡ Some hart
  pub asks : register_of hart.regs A7 ≡ number

-- .. call 34
pub record Asks (a : Actor) (old : Parts) (u priority : ℕ) (class : Class) : Type 0 where
  pub hart : Hart
  pub makes : Makes a old 34 hart
  pub on : is_oob (Some makes.task) old.tasks ≡ true
  pub names : u ≡ argument 0 hart
  pub asks : priority ≡ argument 2 hart
  pub live : is_scheduled_task (slice_get old.tasks u) ≡ true
  pub policy : policy_of (argument 1 hart) priority ≡ Some class

-- ---- why a task waits no more
-- its deadline has come on its processor
pub record IsLate (a : Actor) (task : Task) (k : Parts) : Type 0 where
  pub set : task.deadline ≡ 0 → ⊥
  pub come : task.deadline ≤ k.ticks
  pub home : task.cpu ≡ a.cpu

-- the mutex was the acting task's, and is task u's now, which waits as it did before
pub record IsPassed (a : Actor) (old : Parts) (u m : ℕ) (k : Parts) : Type 0 where
  pub giver : ℕ
  pub mutex : Mutex
  pub acts : a.task ≡ Some giver
  pub had : owner old.mutexes m ≡ Some giver
  pub its : slice_get k.mutexes m ≡ Some (held_by u 1 mutex)
  pub rests : slice_get k.tasks u ≡ slice_get old.tasks u

-- why its wait for event e ends, and the answer of its call
pub data Ends (a : Actor) (old : Parts) (e : ℕ) (task : Task) (k : Parts) : ℕ → Type 0 where
  -- the acting task makes call 43 or 44
  signalled : (hart : Hart) → Makes a old 43 hart ⊎ Makes a old 44 hart → e ≡ argument 0 hart → Ends a old e task k 0
  late : IsLate a task k → Ends a old e task k (refusal_answer TimedOut)

-- the answer of a wait that ends by its deadline
abbrev pub late_answer : Wait → ℕ
late_answer Sleep = 0
late_answer _ = refusal_answer TimedOut

abbrev pub is_event : Wait → Bool
is_event (Event e) = true
is_event _ = false

-- why task u wakes with this value, by what it waits for
pub data Cause (a : Actor) (old : Parts) (u : ℕ) (task : Task) (k : Parts) : Wait → ℕ → Type 0 where
  -- the line is played on its processor
  played : (l : ℕ) → task.cpu ≡ a.cpu → Cause a old u task k (Line l) 0
  passed : (m : ℕ) → IsPassed a old u m k → Cause a old u task k (Lock m) 0
  passed_back : (m answer : ℕ) → IsPassed a old u m k → Cause a old u task k (Reacquire m answer) answer
  -- the event's mutex is its own now
  regained : (e m answer : ℕ) → bound e k ≡ Some m → ((mutex : Mutex) → slice_get k.mutexes m ≡ Some mutex → (mutex.owner ≡ Some u) × (mutex.count ≡ 1)) → Ends a old e task k answer → Cause a old u task k (Event e) answer
  timed_out : (wait : Wait) → is_event wait ≡ false → IsLate a task k → Cause a old u task k wait (late_answer wait)
  -- the acting task makes call 41, or a line's action puts one into the semaphore
  put : (hart : Hart) → Makes a old 41 hart → Cause a old u task k (Semaphore (argument 0 hart)) 0
  put_by : (l s : ℕ) → action_at l k ≡ Puts s → Cause a old u task k (Semaphore s) 0
  -- the acting task makes call 46, or a line's action posts to the flag group
  posted : (hart : Hart) (word : ℕ) → Makes a old 46 hart → slice_get old.flags (argument 0 hart) ≡ Some word → Cause a old u task k (Flags (argument 0 hart)) (bit_or word (argument 1 hart))
  posted_by : (l f word : ℕ) → action_at l k ≡ Posts f → Cause a old u task k (Flags f) (bit_or word (2 ^ l))
  -- the timer was due on its processor, and has expired
  expired_for : (n : ℕ) (timer : Timer) → is_due_timer a.cpu k.ticks timer ≡ true → slice_get k.timers n ≡ Some (taken (expired k.ticks timer)) → Cause a old u task k (For n) (expired k.ticks timer).expiries

-- ---- who changes an object
-- semaphore s: the acting task, by call 39, 40 or 41, or a line's action
pub data CountedBy (a : Actor) (old k : Parts) (s : ℕ) : Type 0 where
  by_call : (number : ℕ) (hart : Hart) → 39 ≤ number → number ≤ 41 → Makes a old number hart → s ≡ argument 0 hart → CountedBy a old k s
  by_line : (l : ℕ) → action_at l k ≡ Puts s → CountedBy a old k s

-- flag group f: the acting task, by call 45 or 46, or a line's action
pub data WrittenBy (a : Actor) (old k : Parts) (f : ℕ) : Type 0 where
  by_call : (number : ℕ) (hart : Hart) → 45 ≤ number → number ≤ 46 → Makes a old number hart → f ≡ argument 0 hart → WrittenBy a old k f
  by_line : (l : ℕ) → action_at l k ≡ Posts f → WrittenBy a old k f

-- ---- why the acting task t gets a notice
pub data Noted (a : Actor) (old : Parts) (t : ℕ) : NoticeKind → Type 0 where
  -- it was out-of-band, and makes a call of the in-band kernel, or its instruction faults
  by_in_band : (call : Call) (hart : Hart) → Makes a old (call_number call) hart → call_stage call ≡ Some InBand → is_oob (Some t) old.tasks ≡ true → Noted a old t DemotedByCall
  by_fault : a.faults ≡ true → is_oob (Some t) old.tasks ≡ true → Noted a old t DemotedByFault
  -- it makes call 36 or 37, or call 38
  by_deadlock : (hart : Hart) → Makes a old 36 hart ⊎ Makes a old 37 hart → Noted a old t Deadlock
  by_unlock : (hart : Hart) → Makes a old 38 hart → Noted a old t NotOwner

-- the watchdog looks at task t, which the processor ran
pub record IsWatched (a : Actor) (old : Parts) (t : ℕ) (k : Parts) : Type 0 where
  pub runs : current a.cpu old ≡ Some t
  pub chooses : a.chooses ≡ true
  pub guarded : k.profile.watchdog ≡ 0 → ⊥

-- pipes are sets of lines, and no line waits in the out-of-band log of processor c unless that stage is stalled
pub record IsCalm (c : ℕ) (old : Parts) : Type 0 where
  pub are : ArePipes old
  pub played : (p : Pipe) → slice_get old.pipes c ≡ Some p → p.oob.stalled ≡ false → p.oob.lines ≡ []

-- an action names a semaphore or a flag group that is there
pub record IsAction (action : Action) (k : Parts) : Type 0 where
  pub puts : (s : ℕ) → action ≡ Puts s → s < length k.semaphores
  pub posts : (f : ℕ) → action ≡ Posts f → f < length k.flags

-- what is done, and to whom: indexed by how much a count or a hold is raised at most, and by how many stamps are given
pub data Does (a : Actor) (old : Parts) : ℕ → ℕ → Parts → Parts → Type 0 where
  rests : (k : Parts) → Does a old 0 0 k k
  -- the acting task: a register and the pc, the task but for its processor and stamp, its stamp
  hart : (t r value : ℕ) (f : Hart → Hart) (k : Parts) → a.task ≡ Some t → ((x : Hart) → (f x).regs ≡ with_register x.regs r value) → IsOldHart old k t → Does a old 0 0 k (on_hart t f k)
  task : (t : ℕ) (f : Task → Task) (k : Parts) → a.task ≡ Some t → KeepsPlace f → NamesNone f → IsOldTask old k t → Does a old 0 0 k (on_task t f k)
  stamps : (t : ℕ) (k : Parts) → a.task ≡ Some t → IsOldTask old k t → Does a old 0 1 k (restamp t k)
  turns : (t : ℕ) (f : Task → Task) (k : Parts) → a.task ≡ Some t → KeepsPlace f → NamesNone f → IsOldTask old k t → Does a old 0 1 k (restamp t (on_task t f k))
  -- it waits for an event, whose mutex is there
  awaits_event : (t e m deadline : ℕ) (k : Parts) → a.task ≡ Some t → IsOldTask old k t → bound e k ≡ Some m → m < length old.mutexes → Does a old 0 1 k (begin_wait t (Event e) deadline k)
  -- a tick of the slice of the task that was current
  spends : (t : ℕ) (x : Task) (k : Parts) → current a.cpu old ≡ Some t → slice_get k.tasks t ≡ Some x → (is_oob_ready x.state && is_round_robin x.class) ≡ true
      → Does a old 0 1 k (spend_slice t x.slice k)
  -- it goes on another processor, which is there, by call 55
  migrates : (t d : ℕ) (hart : Hart) (k : Parts) → a.task ≡ Some t → Makes a old 55 hart → d ≡ argument 0 hart → d < length old.processors → is_oob (Some t) old.tasks ≡ true → Untouched old k → Does a old 0 1 k (move_task t d k)
  -- the task that was current has been so for too long and goes in-band, with a notice; what the watchdog counts
  overruns : (t : ℕ) (k : Parts) → IsWatched a old t k → may_run_oob a.cpu k.tasks t ≡ true → Does a old 0 1 k (restamp t (set_state t InReady k))
  alarms : (t : ℕ) (k : Parts) → IsWatched a old t k → (IsCalm a.cpu old → k.notices ≡ old.notices) → Does a old 0 0 k (record k { notices = keep (record { tick = k.ticks; task = t; kind = Overran }) k.notices })
  watches : (f : ℕ → ℕ) (k : Parts) → Does a old 0 0 k (on_watch a.cpu f k)
  -- a task that waits
  wakes : (u value : ℕ) (task : Task) (wait : Wait) (k : Parts) → slice_get k.tasks u ≡ Some task → task.state ≡ Waits wait → Cause a old u task k wait value → Does a old 0 1 k (wake u value k)
  -- one that waits for an event has its mutex, which is free, or waits for it, and keeps its answer
  regains : (u e m : ℕ) (task : Task) (k : Parts) → slice_get k.tasks u ≡ Some task → task.state ≡ Waits (Event e) → bound e k ≡ Some m → owner k.mutexes m ≡ None → Does a old 0 0 k (on_mutex m (held_by u 1) k)
  requeues : (u v e m answer : ℕ) (task : Task) (k : Parts) → slice_get k.tasks u ≡ Some task → task.state ≡ Waits (Event e) → bound e k ≡ Some m → owner k.mutexes m ≡ Some v → Ends a old e task k answer → Does a old 0 1 k (begin_wait u (Reacquire m answer) 0 k)
  -- an event's mutex, which is there, by call 42
  names : (e m : ℕ) (hart : Hart) (k : Parts) → Makes a old 42 hart → e ≡ argument 0 hart → m ≡ argument 1 hart → m < length old.mutexes → Untouched old k → Does a old 0 0 k (on_event e (λ _. Some m) k)
  -- a semaphore's count and a flag group's word, within their bounds
  counts : (s : ℕ) (f : ℕ → ℕ) (k : Parts) → CountedBy a old k s → ((n : ℕ) → slice_get k.semaphores s ≡ Some n → n ≤ SEMAPHORE_COUNT_LIMIT → f n ≤ SEMAPHORE_COUNT_LIMIT) → Does a old 0 0 k (on_semaphore s f k)
  writes : (g : ℕ) (f : ℕ → ℕ) (k : Parts) → WrittenBy a old k g → (ArePipes old → (word : ℕ) → slice_get k.flags g ≡ Some word → word ≤ FLAGS_WORD_LIMIT → f word ≤ FLAGS_WORD_LIMIT) → Does a old 0 0 k (on_flags g f k)
  -- a timer is set by call 48, or its expiries are taken by call 49; one of the processor that is due expires, and may be taken by a task that wakes
  sets_timer : (n first period : ℕ) (hart : Hart) (k : Parts) → Makes a old 48 hart → n ≡ argument 0 hart → first ≤ TIMER_SPAN_LIMIT → period ≤ TIMER_SPAN_LIMIT → Untouched old k → Does a old 0 0 k (on_timer n (λ _. set_timer a.cpu first period) k)
  takes_expiries : (n : ℕ) (hart : Hart) (k : Parts) → Makes a old 49 hart → n ≡ argument 0 hart → Untouched old k → Does a old 0 0 k (on_timer n taken k)
  expires : (n : ℕ) (timer : Timer) (woke : Bool) (k : Parts) → slice_get k.timers n ≡ Some timer → is_due_timer a.cpu k.ticks timer ≡ true → Does a old 0 0 k (on_timer n (λ _. if woke then taken (expired k.ticks timer) else expired k.ticks timer) k)
  -- the action of a line from 2 on, by call 14
  sets_action : (l : ℕ) (action : Action) (hart : Hart) (k : Parts) → Makes a old 14 hart → l ≡ argument 0 hart → 2 ≤ l → IsAction action k → Untouched old k → Does a old 0 0 k (on_action l (λ _. action) k)
  -- a mutex that is free or the acting task's; another task has it, once
  gives : (t u m : ℕ) (k : Parts) → a.task ≡ Some t → slice_get k.mutexes m ≡ slice_get old.mutexes m → owner k.mutexes m ≡ Some t → Does a old 0 0 k (on_mutex m (held_by u 1) k)
  holds : (i t m : ℕ) (f : Mutex → Mutex) (k : Parts) → a.task ≡ Some t → slice_get k.mutexes m ≡ slice_get old.mutexes m → ((x : Mutex) → slice_get k.mutexes m ≡ Some x → IsHeld t i x (f x)) → Does a old i 0 k (on_mutex m f k)
  -- a notice that the acting task asked for, the first of the event
  notes : (t : ℕ) (kind : NoticeKind) (k : Parts) → a.task ≡ Some t → Noted a old t kind → asks_for kind (slice_get old.tasks t) ≡ true → k.notices ≡ old.notices
      → Does a old 0 0 k (record k { notices = keep (record { tick = k.ticks; task = t; kind = kind }) k.notices })
  -- the processor's bits and its in-band current task; its current task
  marks : (f : Processor → Processor) (k : Parts) → ((p : Processor) → (f p).current ≡ p.current) → Does a old 0 0 k (on_processor a.cpu f k)
  picks : (f : Processor → Processor) (k : Parts) → a.chooses ≡ true → Does a old 0 0 k (on_processor a.cpu f k)
  -- the processor's pipe; a line that is raised on some processors; the clock
  moves : (i : ℕ) (f : Pipe → Pipe) (k : Parts) → (ArePipes old → (p : Pipe) → slice_get k.pipes a.cpu ≡ Some p → PipeMove (a.may a.cpu) i p (f p)) → Does a old i 0 k (on_pipe a.cpu f k)
  tells : (l : ℕ) (f : ℕ → Pipe → Pipe) (k : Parts) → l < LINES → ((d : ℕ) (p : Pipe) → (f d p ≡ p) ⊎ ((f d p ≡ raise l p) × (a.may d l ≡ true))) → Does a old 1 0 k (record k { pipes = each f k.pipes })
  clock : (k : Parts) → ((d : ℕ) → a.may d 0 ≡ true) → Does a old 1 0 k (tick k)
  -- another task has another class; a task, a mutex, a semaphore, an event, a flag group, a timer, a byte on the console more
  schedules : (u priority : ℕ) (class : Class) (k : Parts) → Untouched old k → Asks a old u priority class → Does a old 0 0 k (set_policy u class priority k)
  adds : (t entry value cpu : ℕ) (k : Parts) → a.task ≡ Some t → Untouched old k → length k.tasks < TASK_LIMIT → Does a old 0 1 k
      (record k { harts = k.harts ++ spawned_hart entry value ∷ []; tasks = k.tasks ++ new_task cpu k.stamps ∷ []; stamps = k.stamps + 1 })
  makes : (t : ℕ) (recursive : Bool) (protocol : Protocol) (k : Parts) → a.task ≡ Some t → Untouched old k → length k.mutexes < MUTEX_LIMIT → Does a old 0 0 k (record k { mutexes = k.mutexes ++ free_mutex recursive protocol ∷ [] })
  sets_up : (t count : ℕ) (k : Parts) → a.task ≡ Some t → Untouched old k → length k.semaphores < SEMAPHORE_LIMIT → count ≤ SEMAPHORE_COUNT_LIMIT → Does a old 0 0 k (record k { semaphores = k.semaphores ++ count ∷ [] })
  adds_event : (t : ℕ) (k : Parts) → a.task ≡ Some t → Untouched old k → length k.events < EVENT_LIMIT → Does a old 0 0 k (record k { events = k.events ++ None ∷ [] })
  adds_flags : (t : ℕ) (k : Parts) → a.task ≡ Some t → Untouched old k → length k.flags < FLAGS_LIMIT → Does a old 0 0 k (record k { flags = k.flags ++ 0 ∷ [] })
  adds_timer : (t : ℕ) (k : Parts) → a.task ≡ Some t → Untouched old k → length k.timers < TIMER_LIMIT → Does a old 0 0 k (record k { timers = k.timers ++ idle_timer ∷ [] })
  types : (t byte : ℕ) (k : Parts) → a.task ≡ Some t → Untouched old k → Does a old 0 0 k (record k { console = last_bytes (k.console ++ byte ∷ []) })

-- one after another, with so much at most
pub data Walk (a : Actor) (old : Parts) : ℕ → ℕ → Parts → Type 0 where
  start : Walk a old 0 0 old
  next : (m n s u i j : ℕ) (k x : Parts) → (ArePipes old → m + i ≤ n) → (AreFew old → s + j ≤ u) → Does a old i j k x → Walk a old m s k → Walk a old n u x

module _ (a : Actor) (old : Parts) (n s : ℕ) (k x : Parts) where
  -- what counts nothing, gives a stamp, counts
  pub quietly : Does a old 0 0 k x → Walk a old n s k → Walk a old n s x
  quietly d w = next n n s s 0 0 k x (λ g. omega arith) (λ g. omega arith) d w

  pub stamped : Does a old 0 1 k x → Walk a old n s k → Walk a old n (s + 1) x
  stamped d w = next n n s (s + 1) 0 1 k x (λ g. omega arith) (λ g. omega arith) d w

  pub counted : (i : ℕ) → Does a old i 0 k x → Walk a old n s k → Walk a old (n + i) s x
  counted i d w = next n (n + i) s s i 0 k x (λ g. omega arith) (λ g. omega arith) d w

-- a greater bound
pub slack : (a : Actor) (old : Parts) (m n s u : ℕ) (k : Parts) → (ArePipes old → m ≤ n) → (AreFew old → s ≤ u) → Walk a old m s k → Walk a old n u k
slack a old m n s u k h g w = next m n s u 0 0 k k (λ p. omega (arith, h p)) (λ p. omega (arith, g p)) (rests k) w

pub walk_if : (a : Actor) (old : Parts) (n s : ℕ) (b : Bool) (x y : Parts) → (b ≡ true → Walk a old n s x) → (b ≡ false → Walk a old n s y) → Walk a old n s (if b then x else y)
walk_if a old n s true x y p q = p refl
walk_if a old n s false x y p q = q refl
