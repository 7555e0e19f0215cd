-- What each event changes: the places that it names, and nothing else.
use Rattle.std.specs.Prelude.{◌≡◌, ℕ, ◌+◌, ◌++◌, ◌<◌, ◌≤◌, List, [], ◌∷◌, Option, Some, None, Bool, true, false, ◌⊎◌, if◌then◌else◌, slice_get, option_map, length, bit_or, ◌^◌, Ok}
use Rattle.evm_lines.specs.Lines.{has_line, with_line}
use Rattle.evm_exec.specs.Registers.{with_register}
use Rattle.evm_exec.specs.declared.hart.Hart.{Hart}
use Rattle.evm_ram.specs.Ram.{poke_at}
use Rattle.evm_model.specs.Actions.{action_at}
use Rattle.evm_model.specs.Devices.{raise_line}
use Rattle.evm_model.specs.Errnos.{refusal_answer}
use Rattle.evm_model.specs.Events.{bound}
use Rattle.evm_model.specs.Good.{Good}
use Rattle.evm_model.specs.InBandCalls.{last_bytes}
use Rattle.evm_model.specs.Commands.{is_set}
use Rattle.evm_model.specs.Harts.{A0, argument, set_register, spawned_hart}
use Rattle.evm_model.specs.Mutexes.{owner, free_mutex}
use Rattle.evm_model.specs.OobCalls.{is_scheduled_task}
use Rattle.evm_model.specs.Pipes.{Pipe, raise}
use Rattle.evm_model.specs.Policies.{policy_of}
use Rattle.evm_model.specs.Replay.{apply}
use Rattle.evm_model.specs.Rows.{step}
use Rattle.evm_model.specs.Settle.{current, is_oob}
use Rattle.evm_model.specs.State.{State, Board, Parts, new_task}
use Rattle.evm_model.specs.declared.event.Answer.{Answer}
use Rattle.evm_model.specs.declared.event.Answer.TheVariants.{Done}
use Rattle.evm_model.specs.Event.{Event}
use Rattle.evm_model.specs.declared.event.Event.TheVariants.{Step, Tick, Raise, Bell, Stop, Go, StepI, SetReg, SetPc, Poke, Break, Unbreak}
use Rattle.evm_model.specs.declared.limits.TheConstants.{DEVICE_LIMIT, SLICE, MUTEX_LIMIT, TASK_LIMIT}
use Rattle.evm_model.specs.declared.mutex.Mutex.{Mutex}
use Rattle.evm_model.specs.declared.mutex.Protocol.{Protocol}
use Rattle.evm_model.specs.declared.processor.Processor.{Processor}
use Rattle.evm_model.specs.declared.task.Class.{Class}
use Rattle.evm_model.specs.declared.task.Class.TheVariants.{RoundRobin}
use Rattle.evm_model.specs.declared.task.Task.{Task}
use Rattle.evm_model.specs.Tasks.{is_weak}
use Rattle.evm_model.specs.declared.task.TaskState.{TaskState}
use Rattle.evm_model.specs.declared.task.TaskState.TheVariants.{InReady, OobReady, Waits}
use Rattle.evm_model.specs.declared.task.Wait.{Wait}
use Rattle.evm_model.specs.declared.task.Wait.TheVariants.{Line, Lock, Reacquire, Semaphore, Event as OfEvent, Flags, Sleep, Timer as OfTimer}
use Rattle.evm_model.specs.declared.timer.Timer.{Timer}
use Rattle.evm_model.specs.declared.action.Action.TheVariants.{Puts, Posts}
use Rattle.evm_model.specs.declared.errno.Errno.TheVariants.{TimedOut}
use Rattle.evm_model.specs.Mutexes.{held_by}
use Rattle.evm_model.specs.Timers.{taken, is_due_timer, expired}
use Rattle.evm_model.specs.Waits.{ready_on, stage_of_wait}
pub use Rattle.law_runs.specs.Places.{OneChanges, MakesCall}
pub use Rattle.law_runs.specs.Touching.{ClockTicks, StoreWrites, DeviceTouched, MemoryChanges}
pub use Rattle.law_runs.specs.Noticing.{NoticeCause, GetsNotice, GetsAlarm, NoticesChange}

-- a pipe on which line l was raised: it is on the wire, and is counted as raised, merged if it was on the wire; nothing else changes
pub record IsRaised (l : ℕ) (old new : Pipe) : Type 0 where
  pub rest : new ≡ record old { wire = with_line old.wire l; counts = new.counts }
  pub counts : OneChanges l (λ n. record n { raised = n.raised + 1; merged = if has_line old.wire l then n.merged + 1 else n.merged }) old.counts new.counts

abbrev pub RaisesOneLine : Type 0
RaisesOneLine = (l : ℕ) (p : Pipe) → IsRaised l p (raise l p)

-- ---- commands
-- processor c is changed so, and nothing else
pub record ProcessorChanges (c : ℕ) (change : Processor → Processor) (old new : Board) : Type 0 where
  pub rest : new ≡ record old { parts = record old.parts { processors = new.parts.processors } }
  pub processors : OneChanges c change old.parts.processors new.parts.processors

-- the registers or the pc of the current task of c are changed so, and nothing else
pub record CurrentChanges (c : ℕ) (change : Hart → Hart) (old new : Board) : Type 0 where
  pub task : ℕ
  pub runs : current c old.parts ≡ Some task
  pub rest : new ≡ record old { parts = record old.parts { harts = new.parts.harts } }
  pub harts : OneChanges task change old.parts.harts new.parts.harts

-- bytes are written into RAM from an address on, and nothing else
pub record RamChanges (address : ℕ) (bytes : List ℕ) (old new : Board) : Type 0 where
  pub rest : new ≡ record old { memory = record old.memory { ram = new.memory.ram } }
  pub ram : poke_at old.memory.ram address bytes ≡ Some new.memory.ram

-- a breakpoint is there afterwards or not, and nothing else changes
pub record BreakpointChanges (address : ℕ) (there : Bool) (old new : Board) : Type 0 where
  pub rest : new ≡ record old { breakpoints = new.breakpoints }
  pub here : is_set new.breakpoints address ≡ there
  pub others : (other : ℕ) → (other ≡ address → ⊥) → is_set new.breakpoints other ≡ is_set old.breakpoints other
  pub already : is_set old.breakpoints address ≡ there → new ≡ old

-- line l is raised on c, and nothing else changes
pub record LineRaised (c l : ℕ) (old new : Board) : Type 0 where
  pub rest : new ≡ record old { parts = record old.parts { pipes = new.parts.pipes } }
  pub pipes : OneChanges c (raise l) old.parts.pipes new.parts.pipes

-- ---- a step
-- what was there of task t, is there
pub record Rests (t : ℕ) (old new : Parts) : Type 0 where
  pub task : (task : Task) → slice_get old.tasks t ≡ Some task → slice_get new.tasks t ≡ Some task
  pub hart : (hart : Hart) → slice_get old.harts t ≡ Some hart → slice_get new.harts t ≡ Some hart

-- the deadline of a task of processor c had come at this tick
pub record WasLate (c now : ℕ) (task : Task) : Type 0 where
  pub set : task.deadline ≡ 0 → ⊥
  pub come : task.deadline ≤ now
  pub home : task.cpu ≡ c

-- the answer of a wait that ends by its deadline: 0 of a sleep, -110 else
abbrev pub late_answer : Wait → ℕ
late_answer Sleep = 0
late_answer _ = refusal_answer TimedOut

abbrev pub is_event_wait : Wait → Bool
is_event_wait (OfEvent e) = true
is_event_wait _ = false

-- why the wait of a task for event e ended, and the answer of its call
pub data EventEnds (makes : ℕ → Hart → Type 0) (c now e : ℕ) (task : Task) : ℕ → Type 0 where
  -- the acting task makes call 43 or 44, whose a0 names the event
  by_signal : (hart : Hart) → makes 43 hart ⊎ makes 44 hart → e ≡ argument 0 hart → EventEnds makes c now e task 0
  by_time : WasLate c now task → EventEnds makes c now e task (refusal_answer TimedOut)

-- task t, which is ready out-of-band, owns mutex m, locked once
pub record HasMutex (t m : ℕ) (state : TaskState) (mutexes : List Mutex) : Type 0 where
  pub mutex : Mutex
  pub there : slice_get mutexes m ≡ Some mutex
  pub owns : mutex.owner ≡ Some t
  pub once : mutex.count ≡ 1
  pub oob : state ≡ OobReady

-- what woke task t, by what it waited for, and its answer: of the task that acts, and of the calls that it makes
pub data WokenBy (acts : Option ℕ) (makes : ℕ → Hart → Type 0) (c t : ℕ) (task : Task) (state : TaskState) (old new : Parts) : Wait → ℕ → Type 0 where
  -- the line was played on its processor
  by_line : (l : ℕ) → task.cpu ≡ c → WokenBy acts makes c t task state old new (Line l) 0
  -- the mutex was the acting task's, and is its own now
  by_owner : (m giver : ℕ) → acts ≡ Some giver → owner old.mutexes m ≡ Some giver → HasMutex t m state new.mutexes → WokenBy acts makes c t task state old new (Lock m) 0
  -- .. after a wait for an event, whose answer it kept
  by_owner_back : (m answer giver : ℕ) → acts ≡ Some giver → owner old.mutexes m ≡ Some giver → HasMutex t m state new.mutexes → WokenBy acts makes c t task state old new (Reacquire m answer) answer
  -- the event's mutex is its own now
  by_event : (e m answer : ℕ) → bound e new ≡ Some m → HasMutex t m state new.mutexes → EventEnds makes c old.ticks e task answer → WokenBy acts makes c t task state old new (OfEvent e) answer
  by_deadline : (wait : Wait) → is_event_wait wait ≡ false → WasLate c old.ticks task → WokenBy acts makes c t task state old new wait (late_answer wait)
  -- the acting task makes call 41, whose a0 names the semaphore; or a line's action puts one into it
  by_put : (hart : Hart) → makes 41 hart → WokenBy acts makes c t task state old new (Semaphore (argument 0 hart)) 0
  by_line_put : (l s : ℕ) → action_at l new ≡ Puts s → WokenBy acts makes c t task state old new (Semaphore s) 0
  -- the acting task makes call 46, whose a0 names the flag group and whose a1 is the bits; or a line's action posts its bit: it has the word
  by_post : (hart : Hart) (word : ℕ) → makes 46 hart → slice_get old.flags (argument 0 hart) ≡ Some word → WokenBy acts makes c t task state old new (Flags (argument 0 hart)) (bit_or word (argument 1 hart))
  by_line_post : (l f word : ℕ) → action_at l new ≡ Posts f → WokenBy acts makes c t task state old new (Flags f) (bit_or word (2 ^ l))
  -- the timer was due on the processor, and has expired: it has all the expiries, and the timer none
  by_timer : (n : ℕ) (timer : Timer) → is_due_timer c old.ticks timer ≡ true → slice_get new.timers n ≡ Some (taken (expired old.ticks timer)) → WokenBy acts makes c t task state old new (OfTimer n) (expired old.ticks timer).expiries

-- ready on the stage on which it waited, or in-band if it is weak
abbrev pub IsReadyAfter : Wait → Class → TaskState → Type 0
IsReadyAfter wait class state = (state ≡ ready_on (stage_of_wait wait) false) ⊎ ((state ≡ InReady) × (is_weak class ≡ true))

-- task t, of any processor, waited, and is ready now: its call is answered, its stamp is a later one, it has no deadline
pub record Wakes (acts : Option ℕ) (makes : ℕ → Hart → Type 0) (c t : ℕ) (old new : Parts) : Type 0 where
  pub task : Task
  pub wait : Wait
  pub state : TaskState
  pub stamp : ℕ
  pub answer : ℕ
  pub waited : slice_get old.tasks t ≡ Some task
  pub on : task.state ≡ Waits wait
  pub by : WokenBy acts makes c t task state old new wait answer
  pub ready : IsReadyAfter wait task.class state
  pub fresh : old.stamps ≤ stamp
  pub wakes : slice_get new.tasks t ≡ Some (record task { stamp = stamp; deadline = 0; state = state })
  pub hart : (hart : Hart) → slice_get old.harts t ≡ Some hart → slice_get new.harts t ≡ Some (set_register A0 answer hart)

-- task t, of any processor, waited for an event, and waits for the event's mutex now, which had an owner: it keeps the answer of its call, its stamp is a later one, it has no deadline
pub record Requeues (makes : ℕ → Hart → Type 0) (c t : ℕ) (old new : Parts) : Type 0 where
  pub task : Task
  pub event : ℕ
  pub mutex : ℕ
  pub stamp : ℕ
  pub answer : ℕ
  pub waited : slice_get old.tasks t ≡ Some task
  pub on : task.state ≡ Waits (OfEvent event)
  pub named : bound event new ≡ Some mutex
  pub ends : EventEnds makes c old.ticks event task answer
  pub fresh : old.stamps ≤ stamp
  pub waits : slice_get new.tasks t ≡ Some (record task { stamp = stamp; deadline = 0; state = Waits (Reacquire mutex answer) })
  pub hart : (hart : Hart) → slice_get old.harts t ≡ Some hart → slice_get new.harts t ≡ Some hart

-- .. one of the three
abbrev pub Stays : Option ℕ → (ℕ → Hart → Type 0) → ℕ → ℕ → Parts → Parts → Type 0
Stays acts makes c t old new = Rests t old new ⊎ (Wakes acts makes c t old new ⊎ Requeues makes c t old new)

-- no call
abbrev pub MakesNone : ℕ → Hart → Type 0
MakesNone number hart = ⊥

-- mutex m, which was free or this task's, has another owner or count; it is of the same kind
pub record MutexChanges (holder : Option ℕ) (m : ℕ) (before : Mutex) (new : List Mutex) : Type 0 where
  pub after : Mutex
  pub there : slice_get new m ≡ Some after
  pub kind : after ≡ record before { owner = after.owner; count = after.count }
  pub whose : (before.owner ≡ None) ⊎ (before.owner ≡ holder)

-- each mutex is as it was, or was free or this task's
abbrev pub MutexesStay : Option ℕ → List Mutex → List Mutex → Type 0
MutexesStay holder old new = (m : ℕ) (before : Mutex) → slice_get old m ≡ Some before → (slice_get new m ≡ Some before) ⊎ MutexChanges holder m before new

-- a mutex that was free has an owner now, which waited for an event and has locked it once
pub record PassesToWaiter (m : ℕ) (before : Mutex) (old : List Task) (new : List Mutex) : Type 0 where
  pub task : ℕ
  pub waiter : Task
  pub event : ℕ
  pub free : before.owner ≡ None
  pub waited : slice_get old task ≡ Some waiter
  pub on : waiter.state ≡ Waits (OfEvent event)
  pub there : slice_get new m ≡ Some (held_by task 1 before)

-- each mutex is as it was, or is taken
abbrev pub MutexesTaken : Parts → List Mutex → Type 0
MutexesTaken old new = (m : ℕ) (before : Mutex) → slice_get old.mutexes m ≡ Some before → (slice_get new m ≡ Some before) ⊎ PassesToWaiter m before old.tasks new

-- there is one mutex more, the last, and it is free
pub record AddsMutex (old new : List Mutex) : Type 0 where
  pub recursive : Bool
  pub protocol : Protocol
  pub count : length new ≡ length old + 1
  pub room : length old < MUTEX_LIMIT
  pub mutex : slice_get new (length old) ≡ Some (free_mutex recursive protocol)

-- as many mutexes as before, or one more
abbrev pub Made : List Mutex → List Mutex → Type 0
Made old new = (length new ≡ length old) ⊎ AddsMutex old new

-- task t, current on c, is ready out-of-band and of the round-robin class, and spends its slice: there is less of it with the stamp of before, or with a later stamp a whole one at most; nothing else of the task is another
pub record Spends (c t : ℕ) (old new : Parts) : Type 0 where
  pub task : Task
  pub slice : ℕ
  pub stamp : ℕ
  pub runs : current c old ≡ Some t
  pub there : slice_get old.tasks t ≡ Some task
  pub on : task.state ≡ OobReady
  pub robin : task.class ≡ RoundRobin
  pub left : ((stamp ≡ task.stamp) × (slice < task.slice)) ⊎ ((old.stamps ≤ stamp) × (slice ≤ SLICE))
  pub spends : slice_get new.tasks t ≡ Some (record task { slice = slice; stamp = stamp })
  pub hart : (hart : Hart) → slice_get old.harts t ≡ Some hart → slice_get new.harts t ≡ Some hart

-- on a machine with a watchdog task t, one of c's that is current there and ready out-of-band, goes in-band with a later stamp; its slice may be spent before; nothing else of the task is another
pub record Overruns (c t : ℕ) (old new : Parts) : Type 0 where
  pub task : Task
  pub slice : ℕ
  pub stamp : ℕ
  pub guarded : old.profile.watchdog ≡ 0 → ⊥
  pub runs : current c old ≡ Some t
  pub there : slice_get old.tasks t ≡ Some task
  pub home : task.cpu ≡ c
  pub on : task.state ≡ OobReady
  pub spent : (slice ≡ task.slice) ⊎ ((task.class ≡ RoundRobin) × ((slice < task.slice) ⊎ (slice ≤ SLICE)))
  pub fresh : old.stamps ≤ stamp
  pub goes : slice_get new.tasks t ≡ Some (record task { slice = slice; stamp = stamp; state = InReady })
  pub hart : (hart : Hart) → slice_get old.harts t ≡ Some hart → slice_get new.harts t ≡ Some hart

-- the current task of c, which is out-of-band, makes call 34: the task that its a0 names, one that has not ended and has a class, has the class and the priority of its a1 and a2 and a whole slice, and these are the tasks then
pub record Schedules (c : ℕ) (old : Board) (asked : List Task) : Type 0 where
  pub hart : Hart
  pub class : Class
  pub makes : MakesCall c 34 hart old
  pub on : is_oob (Some makes.task) old.parts.tasks ≡ true
  pub live : is_scheduled_task (slice_get old.parts.tasks (argument 0 hart)) ≡ true
  pub policy : policy_of (argument 1 hart) (argument 2 hart) ≡ Some class
  pub tasks : OneChanges (argument 0 hart) (λ task. record task { class = class; priority = argument 2 hart; slice = SLICE }) old.parts.tasks asked

-- a line is on the wire of c
pub record Hears (c : ℕ) (k : Parts) : Type 0 where
  pub pipe : Pipe
  pub line : ℕ
  pub there : slice_get k.pipes c ≡ Some pipe
  pub on : has_line pipe.wire line ≡ true

-- there is one task more, the last: unattached, ready in-band, its registers zero except a0
pub record Adds (old new : Parts) : Type 0 where
  pub cpu : ℕ
  pub stamp : ℕ
  pub entry : ℕ
  pub value : ℕ
  pub tasks : length new.tasks ≡ length old.tasks + 1
  pub harts : length new.harts ≡ length old.harts + 1
  pub room : length old.tasks < TASK_LIMIT
  pub task : slice_get new.tasks (length old.tasks) ≡ Some (new_task cpu stamp)
  pub hart : length old.harts ≡ length old.tasks → slice_get new.harts (length old.tasks) ≡ Some (spawned_hart entry value)

-- as many tasks and harts as before, or one more
abbrev pub Added : Parts → Parts → Type 0
Added old new = ((length new.tasks ≡ length old.tasks) × (length new.harts ≡ length old.harts)) ⊎ Adds old new

-- the console is as before, or has one byte more
abbrev pub Typed : Parts → Parts → Type 0
Typed old new = (new.console ≡ old.console) ⊎ ((byte : ℕ) × (new.console ≡ last_bytes (old.console ++ byte ∷ [])))

-- ---- semaphores, flag groups, events, timers and actions
-- the acting task makes a call of one of these numbers, whose a0 names object n
pub record NamedBy (makes : ℕ → Hart → Type 0) (least most n : ℕ) : Type 0 where
  pub number : ℕ
  pub hart : Hart
  pub from : least ≤ number
  pub to : number ≤ most
  pub makes_it : makes number hart
  pub names : n ≡ argument 0 hart

-- each of a list is as it was, or is another for a reason; and there is one more at the most
pub record ListChanges {X : Type 0} (why : ℕ → X → Type 0) (old new : List X) : Type 0 where
  pub each : (n : ℕ) (x : X) → slice_get old n ≡ Some x → (slice_get new n ≡ Some x) ⊎ why n x
  pub count : (length new ≡ length old) ⊎ (length new ≡ length old + 1)

-- a semaphore changes by calls 39 to 41 and by a line with its action, a flag group by calls 45 and 46 and by a line with its action, an event by call 42, a timer by calls 48 and 49 and where it was due on the processor, the action of a line from 2 on by call 14
pub record ObjectsChange (makes : ℕ → Hart → Type 0) (c : ℕ) (old new : Parts) : Type 0 where
  pub semaphores : ListChanges (λ s n. NamedBy makes 39 41 s ⊎ ((l : ℕ) × (action_at l new ≡ Puts s))) old.semaphores new.semaphores
  pub flags : ListChanges (λ g word. NamedBy makes 45 46 g ⊎ ((l : ℕ) × (action_at l new ≡ Posts g))) old.flags new.flags
  pub events : ListChanges (λ e mutex. NamedBy makes 42 42 e) old.events new.events
  pub timers : ListChanges (λ n timer. NamedBy makes 48 49 n ⊎ (is_due_timer c old.ticks timer ≡ true)) old.timers new.timers
  pub actions : ListChanges (λ l action. (2 ≤ l) × NamedBy makes 14 14 l) old.actions new.actions

-- a step of c changes RAM only by a store, and the words of a device only where one is touched; it makes at most one notice; what the watchdog counts it changes only for c; of the tasks it changes the one that was current on c, the one that it calls to have another class, such as waited, which wake or wait for a mutex again, and adds one at most; of the mutexes it changes only such as were free or the current task's, and adds one at most; of other processors it changes only that line 1 may be raised there, and the line of the device on processor 0
pub record StepChanges (c : ℕ) (old new : Board) : Type 0 where
  -- the tasks, but that one may have another class
  pub asked : List Task
  pub scheduled : (asked ≡ old.parts.tasks) ⊎ Schedules c old asked
  pub breakpoints : new.breakpoints ≡ old.breakpoints
  -- the line that a device raises
  pub line : Option ℕ
  pub memory : MemoryChanges c (step c old).1 old new line
  pub notices : NoticesChange c old (step c old).1 new.parts.notices
  pub ticks : new.parts.ticks ≡ old.parts.ticks
  pub stamps : old.parts.stamps ≤ new.parts.stamps
  pub processors : (d : ℕ) → (d ≡ c → ⊥) → slice_get new.parts.processors d ≡ slice_get old.parts.processors d
  pub watches : (d : ℕ) → (d ≡ c → ⊥) → slice_get new.parts.watches d ≡ slice_get old.parts.watches d
  pub pipes : (d : ℕ) → (d ≡ c → ⊥) → (slice_get new.parts.pipes d ≡ slice_get (raise_line line old.parts).pipes d) ⊎ (slice_get new.parts.pipes d ≡ option_map (raise 1) (slice_get (raise_line line old.parts).pipes d))
  pub others : (t : ℕ) → (current c old.parts ≡ Some t → ⊥) → Stays (current c old.parts) (λ number hart. MakesCall c number hart old) c t (record old.parts { tasks = asked }) new.parts
  pub mutexes : MutexesStay (current c old.parts) old.parts.mutexes new.parts.mutexes
  -- where a line is on the wire memory stands and only the watchdog makes a notice, the current task too stays, or its slice is spent, or the watchdog makes it go in-band, and no mutex changes but such as are taken
  pub hears_nothing : Hears c old.parts → (new.memory ≡ old.memory) × ((new.parts.notices ≡ old.parts.notices) ⊎ GetsAlarm c old new.parts.notices)
  pub hears : Hears c old.parts → (asked ≡ old.parts.tasks) × ((t : ℕ) → Stays None MakesNone c t old.parts new.parts ⊎ (Spends c t old.parts new.parts ⊎ Overruns c t old.parts new.parts)) × (MutexesTaken old.parts new.parts.mutexes × (length new.parts.mutexes ≡ length old.parts.mutexes))
  pub objects : ObjectsChange (λ number hart. MakesCall c number hart old) c old.parts new.parts
  -- .. where a line is on the wire none by a call
  pub hears_objects : Hears c old.parts → ObjectsChange MakesNone c old.parts new.parts
  pub added : Added old.parts new.parts
  pub made : Made old.parts.mutexes new.parts.mutexes
  pub typed : Typed old.parts new.parts

-- c is let go past a breakpoint, takes a step, and is stopped
pub record StepsOnce (c : ℕ) (old new : Board) : Type 0 where
  pub freed : Board
  pub goes : ProcessorChanges c (λ p. record p { stopped = false; skip = true }) old freed
  pub steps : StepChanges c freed (step c freed).0
  pub stops : ProcessorChanges c (λ p. record p { stopped = true; skip = false }) (step c freed).0 new

-- ---- every event; of a step where the rules hold
abbrev pub ChangesOnly : Event → Board → Board → Type 0
ChangesOnly (Step c) old new = Good old.parts → length old.memory.devices ≤ DEVICE_LIMIT → StepChanges c old new
ChangesOnly Tick old new = ClockTicks old new
ChangesOnly (Raise c l) old new = LineRaised c l old new
ChangesOnly (Bell c l) old new = LineRaised c l old new
ChangesOnly (Stop c) old new = ProcessorChanges c (λ p. record p { stopped = true }) old new
ChangesOnly (Go c) old new = ProcessorChanges c (λ p. record p { stopped = false; skip = true }) old new
ChangesOnly (StepI c) old new = Good old.parts → length old.memory.devices ≤ DEVICE_LIMIT → StepsOnce c old new
ChangesOnly (SetReg c r value) old new = CurrentChanges c (λ hart. record hart { regs = with_register hart.regs r value }) old new
ChangesOnly (SetPc c pc) old new = CurrentChanges c (λ hart. record hart { pc = pc }) old new
ChangesOnly (Poke address bytes) old new = RamChanges address bytes.items old new
ChangesOnly (Break address) old new = BreakpointChanges address true old new
ChangesOnly (Unbreak address) old new = BreakpointChanges address false old new

abbrev pub AnswersDone : Event → Answer → Type 0
AnswersDone (Step c) answer = Unit {0}
AnswersDone _ answer = answer ≡ Done

-- an accepted event stands in the journal afterwards, and changes only what it may; a command answers Done
pub record EventChanges (event : Event) (answer : Answer) (old new : State) : Type 0 where
  pub rest : new ≡ record old { journal = new.journal; board = new.board }
  pub journal : new.journal ≡ old.journal ++ event ∷ []
  pub board : ChangesOnly event old.board new.board
  pub answers : AnswersDone event answer

abbrev pub EventsChangeOnly : Type 0
EventsChangeOnly = (old new : State) (event : Event) (answer : Answer) → apply old event ≡ Ok (new, answer) → EventChanges event answer old new
