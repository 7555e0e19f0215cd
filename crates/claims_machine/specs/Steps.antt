-- What a Step and a single step may change: one record for both.
use Rattle.std.specs.Prelude.{◌≡◌, ◌≢◌, ◌+◌, ◌-◌, ◌<◌, ◌≤◌, ◌++◌, ◌⊎◌, ℕ, List, [], ◌∷◌, Bool, true, Option, Some, None, slice_get, slice_set, length, option_map, replicate, drop, bit_or, ◌^◌}
use Rattle.evm_exec.specs.Registers.{register_of, with_register}
use Rattle.evm_exec.specs.declared.hart.Hart.{Hart}
use Rattle.evm_exec.specs.declared.hart.TheConstants.{REGISTERS}
use Rattle.evm_exec.specs.declared.outcome.Effect.TheVariants.{Call, Store}
use Rattle.evm_lines.specs.Lines.{has_line}
use Rattle.evm_model.specs.Devices.{raise_line}
use Rattle.evm_model.specs.Harts.{A0}
use Rattle.evm_model.specs.Mutexes.{owner}
use Rattle.evm_model.specs.Pipes.{Pipe, raise}
use Rattle.evm_model.specs.Policies.{policy_of}
use Rattle.evm_model.specs.Settle.{is_oob}
use Rattle.evm_model.specs.State.{Board, Memory, Parts}
use Rattle.evm_model.specs.Tasks.{is_live}
use Rattle.evm_model.specs.Timers.{expired}
use Rattle.evm_model.specs.declared.action.Action.{Action}
use Rattle.evm_model.specs.declared.action.Action.TheVariants.{Puts, Posts}
use Rattle.evm_model.specs.declared.limits.TheConstants.{CONSOLE_LIMIT, MUTEX_LIMIT, TASK_LIMIT}
use Rattle.evm_model.specs.declared.mutex.Mutex.{Mutex}
use Rattle.evm_model.specs.declared.mutex.Protocol.{Protocol}
use Rattle.evm_model.specs.declared.task.Class.{Class}
use Rattle.evm_model.specs.declared.task.Class.TheVariants.{Unattached, RoundRobin, Weak}
use Rattle.evm_model.specs.declared.task.Task.{Task}
use Rattle.evm_model.specs.declared.task.TaskState.{TaskState}
use Rattle.evm_model.specs.declared.task.TaskState.TheVariants.{InReady, OobReady, Waits}
use Rattle.evm_model.specs.declared.task.Wait.{Wait}
use Rattle.evm_model.specs.declared.task.Wait.TheVariants.{Line, Lock, Reacquire, Semaphore, Event as OfEvent, Flags, Sleep, Timer as OfTimer}
use Rattle.evm_model.specs.declared.timer.Timer.{Timer}
use Rattle.evm_ram.specs.Ram.{write_at}
use Rattle.evm_ram.specs.declared.width.Width.{Width}
use Rattle.claims_machine.specs.About.{IsAbout}
use Rattle.claims_machine.specs.Devices.{DevicesAfter}
use Rattle.claims_machine.specs.Noticed.{AddsAlarm, OneNotice}

-- ---- a task
-- the current task is out-of-band and makes call 34 for task t, which has not ended and has a class: it is given the class and the priority of a1 and a2 and a slice of 4, and nothing else
pub record IsGivenPolicy (runs : Option ℕ) (t : ℕ) (tasks : List Task) (harts : List Hart) (memory : Memory) (task given : Task) : Type 0 where
  pub caller : ℕ
  pub hart : Hart
  pub class : Class
  pub calls : IsAbout runs caller hart Call harts memory
  pub oob : is_oob (Some caller) tasks ≡ true
  pub number : register_of hart.regs 17 ≡ 34
  pub names : register_of hart.regs 10 ≡ t
  pub live : is_live task.state ≡ true
  pub attached : task.class ≢ Unattached
  pub policy : policy_of (register_of hart.regs 11) (register_of hart.regs 12) ≡ Some class
  pub given_is : given ≡ record task { class = class; priority = register_of hart.regs 12; slice = 4 }

-- task t owns mutex m, locked once, and is ready out-of-band
pub record OwnsNow (t m : ℕ) (state : TaskState) (mutexes : List Mutex) : Type 0 where
  pub mutex : Mutex
  pub there : slice_get mutexes m ≡ Some mutex
  pub owns : mutex.owner ≡ Some t
  pub once : mutex.count ≡ 1
  pub oob : state ≡ OobReady

-- it is a task of processor c, and its deadline had come
pub record HadCome (c now : ℕ) (task : Task) : Type 0 where
  pub set : task.deadline ≢ 0
  pub come : task.deadline ≤ now
  pub home : task.cpu ≡ c

-- ready out-of-band, or in-band if it is weak
abbrev pub IsReadyAgain : Class → TaskState → Type 0
IsReadyAgain class state = (state ≡ OobReady) ⊎ ((state ≡ InReady) × (class ≡ Weak))

-- why the wait of a task for event e ended; the last is what its call answers
pub data EventWaitEnds (runs : Option ℕ) (c e : ℕ) (memory : Memory) (old : Parts) (task : Task) : ℕ → Type 0 where
  -- the current task makes call 43 or 44, whose a0 is the event's number
  by_signal : (caller : ℕ) (hart : Hart) → IsAbout runs caller hart Call old.harts memory → (register_of hart.regs 17 ≡ 43) ⊎ (register_of hart.regs 17 ≡ 44) → e ≡ register_of hart.regs 10 → EventWaitEnds runs c e memory old task 0
  -- its deadline had come: -110
  by_time : HadCome c old.ticks task → EventWaitEnds runs c e memory old task (2 ^ 64 - 110)

-- why task t, which waited, woke into this state, by what it waited for; the last is what its call answers
pub data WaitEndsBy (runs : Option ℕ) (c t : ℕ) (memory : Memory) (old new : Parts) (task : Task) (state : TaskState) : Wait → ℕ → Type 0 where
  -- the line was played on processor c, which is its own: it is ready in-band
  by_line : (l : ℕ) → task.cpu ≡ c → state ≡ InReady → WaitEndsBy runs c t memory old new task state (Line l) 0
  -- the mutex was the current task's: it owns it, locked once, and is ready out-of-band
  by_owner : (m giver : ℕ) → runs ≡ Some giver → owner old.mutexes m ≡ Some giver → OwnsNow t m state new.mutexes → WaitEndsBy runs c t memory old new task state (Lock m) 0
  -- .. after a wait for an event: it has the answer that it kept
  by_owner_back : (m answer giver : ℕ) → runs ≡ Some giver → owner old.mutexes m ≡ Some giver → OwnsNow t m state new.mutexes → WaitEndsBy runs c t memory old new task state (Reacquire m answer) answer
  -- its wait for the event ended, and it owns the event's mutex
  by_event : (e m answer : ℕ) → slice_get new.events e ≡ Some (Some m) → OwnsNow t m state new.mutexes → EventWaitEnds runs c e memory old task answer → WaitEndsBy runs c t memory old new task state (OfEvent e) answer
  -- it slept until its deadline
  by_sleep : HadCome c old.ticks task → IsReadyAgain task.class state → WaitEndsBy runs c t memory old new task state Sleep 0
  -- its deadline had come while it waited for neither an event nor its sleep's end: -110
  by_deadline : (wait : Wait) → wait ≢ Sleep → ((e : ℕ) → wait ≢ OfEvent e) → HadCome c old.ticks task → IsReadyAgain task.class state ⊎ ((l : ℕ) × ((wait ≡ Line l) × (state ≡ InReady))) → WaitEndsBy runs c t memory old new task state wait (2 ^ 64 - 110)
  -- the current task makes call 41, whose a0 is the semaphore's number; or the action of a line puts into it
  by_put : (caller : ℕ) (hart : Hart) → IsAbout runs caller hart Call old.harts memory → register_of hart.regs 17 ≡ 41 → IsReadyAgain task.class state → WaitEndsBy runs c t memory old new task state (Semaphore (register_of hart.regs 10)) 0
  by_line_put : (l s : ℕ) → slice_get new.actions l ≡ Some (Puts s) → IsReadyAgain task.class state → WaitEndsBy runs c t memory old new task state (Semaphore s) 0
  -- the current task makes call 46, whose a0 is the flag group's number and whose a1 is the bits: it has them and the word; or the action of a line posts its bit
  by_post : (caller : ℕ) (hart : Hart) (word : ℕ) → IsAbout runs caller hart Call old.harts memory → register_of hart.regs 17 ≡ 46 → slice_get old.flags (register_of hart.regs 10) ≡ Some word → IsReadyAgain task.class state
      → WaitEndsBy runs c t memory old new task state (Flags (register_of hart.regs 10)) (bit_or word (register_of hart.regs 11))
  by_line_post : (l f word : ℕ) → slice_get new.actions l ≡ Some (Posts f) → IsReadyAgain task.class state → WaitEndsBy runs c t memory old new task state (Flags f) (bit_or word (2 ^ l))
  -- the timer was due on processor c, and has expired: it has all its expiries, and the timer none
  by_timer : (n : ℕ) (timer : Timer) → timer.due ≢ 0 → timer.due ≤ old.ticks → timer.cpu ≡ c → slice_get new.timers n ≡ Some (record (expired old.ticks timer) { expiries = 0 }) → IsReadyAgain task.class state
      → WaitEndsBy runs c t memory old new task state (OfTimer n) (expired old.ticks timer).expiries

-- it waited, on whatever processor, and is ready: it has no deadline, a later stamp, and the answer in a0
pub record WaitEnds (runs : Option ℕ) (c t : ℕ) (memory : Memory) (old new : Parts) (task : Task) (hart : Hart) : Type 0 where
  pub wait : Wait
  pub state : TaskState
  pub stamp : ℕ
  pub answer : ℕ
  pub on : task.state ≡ Waits wait
  pub by : WaitEndsBy runs c t memory old new task state wait answer
  pub later : old.stamps ≤ stamp
  pub task_is : slice_get new.tasks t ≡ Some (record task { stamp = stamp; deadline = 0; state = state })
  pub hart_is : slice_get new.harts t ≡ Some (record hart { regs = with_register hart.regs 10 answer })

-- it waited for an event, on whatever processor, and waits for the event's mutex: it has no deadline, a later stamp, and keeps the answer
pub record WaitsAgain (runs : Option ℕ) (c t : ℕ) (memory : Memory) (old new : Parts) (task : Task) (hart : Hart) : Type 0 where
  pub event : ℕ
  pub mutex : ℕ
  pub stamp : ℕ
  pub answer : ℕ
  pub on : task.state ≡ Waits (OfEvent event)
  pub named : slice_get new.events event ≡ Some (Some mutex)
  pub ends : EventWaitEnds runs c event memory old task answer
  pub later : old.stamps ≤ stamp
  pub task_is : slice_get new.tasks t ≡ Some (record task { stamp = stamp; deadline = 0; state = Waits (Reacquire mutex answer) })
  pub hart_is : slice_get new.harts t ≡ Some hart

-- it is current, ready out-of-band and of the round-robin class: it has less of its slice, or with a later stamp a slice of at most 4
pub record SpendsSlice (runs : Option ℕ) (t stamps : ℕ) (tasks : List Task) (harts : List Hart) (task : Task) (hart : Hart) : Type 0 where
  pub slice : ℕ
  pub stamp : ℕ
  pub is_current : runs ≡ Some t
  pub on : task.state ≡ OobReady
  pub robin : task.class ≡ RoundRobin
  pub left : ((stamp ≡ task.stamp) × (slice < task.slice)) ⊎ ((stamps ≤ stamp) × (slice ≤ 4))
  pub task_is : slice_get tasks t ≡ Some (record task { slice = slice; stamp = stamp })
  pub hart_is : slice_get harts t ≡ Some hart

-- it is current on processor c, its own, and ready out-of-band, on a machine with a watchdog: it is ready in-band with a later stamp; if it is of the round-robin class its slice may be another, of at most its own or 4
pub record IsSentInBand (runs : Option ℕ) (c t : ℕ) (old new : Parts) (task : Task) (hart : Hart) : Type 0 where
  pub slice : ℕ
  pub stamp : ℕ
  pub watchdog : old.profile.watchdog ≢ 0
  pub is_current : runs ≡ Some t
  pub home : task.cpu ≡ c
  pub on : task.state ≡ OobReady
  pub spent : (slice ≡ task.slice) ⊎ ((task.class ≡ RoundRobin) × ((slice < task.slice) ⊎ (slice ≤ 4)))
  pub later : old.stamps ≤ stamp
  pub task_is : slice_get new.tasks t ≡ Some (record task { slice = slice; stamp = stamp; state = InReady })
  pub hart_is : slice_get new.harts t ≡ Some hart

-- it is as it was
pub record Stands (t : ℕ) (tasks : List Task) (harts : List Hart) (task : Task) (hart : Hart) : Type 0 where
  pub task_is : slice_get tasks t ≡ Some task
  pub hart_is : slice_get harts t ≡ Some hart

-- a task that is there afterwards and was not before: in-band, unattached, with no mode bits, its registers zero except a0
pub record IsNewTask (t : ℕ) (before : List Hart) (tasks : List Task) (harts : List Hart) : Type 0 where
  pub cpu : ℕ
  pub stamp : ℕ
  pub entry : ℕ
  pub value : ℕ
  pub task_is : slice_get tasks t ≡ Some (record { cpu = cpu; class = Unattached; priority = 0; slice = 0; mode = record { bits = 0 }; stamp = stamp; deadline = 0; state = InReady })
  pub hart_is : length before ≡ t → slice_get harts t ≡ Some (record { regs = slice_set (replicate REGISTERS 0) A0 value; pc = entry })

-- ---- a mutex
-- it was free or the current task's, and has another owner or is locked more or less often: nothing else of it changes
pub record IsAnothers (runs : Option ℕ) (m : ℕ) (mutexes : List Mutex) (before : Mutex) : Type 0 where
  pub after : Mutex
  pub there : slice_get mutexes m ≡ Some after
  pub kind : after ≡ record before { owner = after.owner; count = after.count }
  pub whose : (before.owner ≡ None) ⊎ (before.owner ≡ runs)

-- it was free, and a task that waited for an event owns it, locked once
pub record IsReacquired (m : ℕ) (tasks : List Task) (mutexes : List Mutex) (before : Mutex) : Type 0 where
  pub task : ℕ
  pub waiter : Task
  pub event : ℕ
  pub free : before.owner ≡ None
  pub there : slice_get tasks task ≡ Some waiter
  pub waited : waiter.state ≡ Waits (OfEvent event)
  pub owned : slice_get mutexes m ≡ Some (record before { owner = Some task; count = 1 })

-- there is one more, where there were fewer than 32: the last, a free one
pub record AddsFreeMutex (before mutexes : List Mutex) : Type 0 where
  pub recursive : Bool
  pub protocol : Protocol
  pub one_more : length mutexes ≡ length before + 1
  pub few : length before < MUTEX_LIMIT
  pub free : slice_get mutexes (length before) ≡ Some (record { recursive = recursive; protocol = protocol; owner = None; count = 0 })

-- ---- semaphores, flag groups, events, timers and actions
-- the current task makes a call of one of these numbers, whose a0 is the object's
pub record IsNamed (runs : Option ℕ) (least most n : ℕ) (memory : Memory) (harts : List Hart) : Type 0 where
  pub caller : ℕ
  pub hart : Hart
  pub number : ℕ
  pub calls : IsAbout runs caller hart Call harts memory
  pub asks : register_of hart.regs 17 ≡ number
  pub from : least ≤ number
  pub to : number ≤ most
  pub names : n ≡ register_of hart.regs 10

-- as many as before, or one more
abbrev pub OneMore : {X : Type 0} → List X → List X → Type 0
OneMore old new = (length new ≡ length old) ⊎ (length new ≡ length old + 1)

-- each stands, or has a reason to change: a call of the current task that names it, the action of a line, or that it was due on processor c
pub record ObjectsChangeOnly (runs : Option ℕ) (c : ℕ) (memory : Memory) (old new : Parts) : Type 0 where
  pub semaphores : (s count : ℕ) → slice_get old.semaphores s ≡ Some count
      → (slice_get new.semaphores s ≡ Some count) ⊎ IsNamed runs 39 41 s memory old.harts ⊎ ((l : ℕ) × (slice_get new.actions l ≡ Some (Puts s)))
  pub flags : (g word : ℕ) → slice_get old.flags g ≡ Some word → (slice_get new.flags g ≡ Some word) ⊎ IsNamed runs 45 46 g memory old.harts ⊎ ((l : ℕ) × (slice_get new.actions l ≡ Some (Posts g)))
  pub events : (e : ℕ) (mutex : Option ℕ) → slice_get old.events e ≡ Some mutex → (slice_get new.events e ≡ Some mutex) ⊎ IsNamed runs 42 42 e memory old.harts
  pub timers : (n : ℕ) (timer : Timer) → slice_get old.timers n ≡ Some timer
      → (slice_get new.timers n ≡ Some timer) ⊎ IsNamed runs 48 49 n memory old.harts ⊎ ((timer.due ≢ 0) × (timer.due ≤ old.ticks) × (timer.cpu ≡ c))
  pub actions : (l : ℕ) (action : Action) → slice_get old.actions l ≡ Some action → (slice_get new.actions l ≡ Some action) ⊎ ((2 ≤ l) × IsNamed runs 14 14 l memory old.harts)
  -- and there is one more of each at the most
  pub new_semaphore : OneMore old.semaphores new.semaphores
  pub new_flags : OneMore old.flags new.flags
  pub new_event : OneMore old.events new.events
  pub new_timer : OneMore old.timers new.timers
  pub new_action : OneMore old.actions new.actions

-- ---- a step of processor c, whose current task was this
pub record StepChangesOnly (runs : Option ℕ) (c : ℕ) (old new : Board) : Type 0 where
  pub ticks : new.parts.ticks ≡ old.parts.ticks
  pub stamps : old.parts.stamps ≤ new.parts.stamps
  pub breakpoints : new.breakpoints ≡ old.breakpoints
  pub processors : (d : ℕ) → d ≢ c → slice_get new.parts.processors d ≡ slice_get old.parts.processors d
  -- no device changes except one that the instruction touches; its line, if it raises it, is raised on processor 0
  pub line : Option ℕ
  pub devices : DevicesAfter runs old.parts.harts old.memory new.memory.devices line
  -- the notices stand, or the current task gets one
  pub notices : OneNotice runs c old.memory old.parts new.parts.notices
  -- what the watchdog counts for other processors stands
  pub watches : (d : ℕ) → d ≢ c → slice_get new.parts.watches d ≡ slice_get old.parts.watches d
  -- on other pipes at most line 1 is raised, and the device's line on processor 0
  pub pipes : (d : ℕ) → d ≢ c
      → (slice_get new.parts.pipes d ≡ slice_get (raise_line line old.parts).pipes d) ⊎ (slice_get new.parts.pipes d ≡ option_map (raise 1) (slice_get (raise_line line old.parts).pipes d))
  -- RAM changes only where the instruction is a store, which then has written its value at its address
  pub ram : ((task address value : ℕ) (hart : Hart) (width : Width) → IsAbout runs task hart (Store width address value) old.parts.harts old.memory → ⊥) → new.memory.ram ≡ old.memory.ram
  pub written : (task address value : ℕ) (hart : Hart) (width : Width) → IsAbout runs task hart (Store width address value) old.parts.harts old.memory
      → (new.memory.ram ≡ old.memory.ram) ⊎ (write_at old.memory.ram address width value ≡ Some new.memory.ram)
  -- the console has one byte more at the most, the last 4096 of them
  pub console : (new.parts.console ≡ old.parts.console)
      ⊎ ((byte : ℕ) × (new.parts.console ≡ drop (length (old.parts.console ++ byte ∷ []) - CONSOLE_LIMIT) (old.parts.console ++ byte ∷ [])))
  -- each task but the current one, as call 34 may have given it another class, stands, wakes or waits again
  pub tasks : (t : ℕ) (task : Task) (hart : Hart) → runs ≢ Some t → slice_get old.parts.tasks t ≡ Some task → slice_get old.parts.harts t ≡ Some hart
      → (given : Task) × (((given ≡ task) ⊎ IsGivenPolicy runs t old.parts.tasks old.parts.harts old.memory task given)
      × (Stands t new.parts.tasks new.parts.harts given hart
      ⊎ WaitEnds runs c t old.memory old.parts new.parts given hart
      ⊎ WaitsAgain runs c t old.memory old.parts new.parts given hart))
  -- where a line is on the wire memory stands, and only the watchdog makes a notice
  pub line_memory : (l : ℕ) (pipe : Pipe) → slice_get old.parts.pipes c ≡ Some pipe → has_line pipe.wire l ≡ true → (new.memory ≡ old.memory) × ((new.parts.notices ≡ old.parts.notices) ⊎ AddsAlarm runs old.parts new.parts.notices)
  -- where a line is on the wire no task acts: each, the current one too, stands, wakes or waits again by a line, spends its slice, or goes in-band by the watchdog
  pub line_tasks : (l t : ℕ) (pipe : Pipe) (task : Task) (hart : Hart) → slice_get old.parts.pipes c ≡ Some pipe → has_line pipe.wire l ≡ true
      → slice_get old.parts.tasks t ≡ Some task → slice_get old.parts.harts t ≡ Some hart
      → Stands t new.parts.tasks new.parts.harts task hart
      ⊎ WaitEnds None c t old.memory old.parts new.parts task hart
      ⊎ WaitsAgain None c t old.memory old.parts new.parts task hart
      ⊎ SpendsSlice runs t old.parts.stamps new.parts.tasks new.parts.harts task hart
      ⊎ IsSentInBand runs c t old.parts new.parts task hart
  -- as many tasks, with their harts, or one of each more where there were fewer than 64
  pub counts : ((length new.parts.tasks ≡ length old.parts.tasks) × (length new.parts.harts ≡ length old.parts.harts))
      ⊎ ((length new.parts.tasks ≡ length old.parts.tasks + 1) × (length new.parts.harts ≡ length old.parts.harts + 1) × (length old.parts.tasks < TASK_LIMIT))
  pub new_task : length new.parts.tasks ≡ length old.parts.tasks + 1 → IsNewTask (length old.parts.tasks) old.parts.harts new.parts.tasks new.parts.harts
  -- each mutex stands, or is another's
  pub mutexes : (m : ℕ) (before : Mutex) → slice_get old.parts.mutexes m ≡ Some before → (slice_get new.parts.mutexes m ≡ Some before) ⊎ IsAnothers runs m new.parts.mutexes before
  pub new_mutex : (length new.parts.mutexes ≡ length old.parts.mutexes) ⊎ AddsFreeMutex old.parts.mutexes new.parts.mutexes
  -- where a line is on the wire each stands, or was free and is reacquired; and none is added
  pub line_mutexes : (l m : ℕ) (pipe : Pipe) (before : Mutex) → slice_get old.parts.pipes c ≡ Some pipe → has_line pipe.wire l ≡ true → slice_get old.parts.mutexes m ≡ Some before
      → (slice_get new.parts.mutexes m ≡ Some before)
      ⊎ IsReacquired m old.parts.tasks new.parts.mutexes before
  pub line_count : (l : ℕ) (pipe : Pipe) → slice_get old.parts.pipes c ≡ Some pipe → has_line pipe.wire l ≡ true → length new.parts.mutexes ≡ length old.parts.mutexes
  -- each semaphore, flag group, event, timer and action stands, or has a reason to change; where a line is on the wire no call is one
  pub objects : ObjectsChangeOnly runs c old.memory old.parts new.parts
  pub line_objects : (l : ℕ) (pipe : Pipe) → slice_get old.parts.pipes c ≡ Some pipe → has_line pipe.wire l ≡ true → ObjectsChangeOnly None c old.memory old.parts new.parts
