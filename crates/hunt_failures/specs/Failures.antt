-- When a machine has failed.
use Rattle.std.specs.Prelude.{◌≡◌, ℕ, ◌+◌, ◌-◌, ◌<◌, ◌≢◌, ◌⊎◌, ◌==◌, ◌&&◌, if◌then◌else◌, nat_lt, List, [], ◌∷◌, Option, Some, None, Bool, true, false, not, is_some, slice_get, length}
use Rattle.evm_core.specs.Views.{counts_at, device_word}
use Rattle.evm_exec.specs.Registers.{register_of}
use Rattle.evm_exec.specs.declared.hart.Hart.{Hart}
use Rattle.evm_lines.specs.Lines.{has_line, has_none}
use Rattle.evm_model.specs.Calls.{call_of}
use Rattle.evm_model.specs.Current.{current}
use Rattle.evm_model.specs.Errnos.{refusal_answer}
use Rattle.evm_model.specs.Event.{Event as Happening}
use Rattle.evm_model.specs.Good.{is_ready, is_waiting}
use Rattle.evm_model.specs.Harts.{A0, A7}
use Rattle.evm_model.specs.Mutexes.{owner}
use Rattle.evm_model.specs.Pipes.{Pipe}
use Rattle.evm_model.specs.Ranks.{is_in_ready, is_oob_ready, rank}
use Rattle.evm_model.specs.Refusals.{is_stopped}
use Rattle.evm_model.specs.State.{State}
use Rattle.evm_model.specs.Tasks.{is_live, is_weak}
use Rattle.evm_model.specs.Waits.{awaits_line}
use Rattle.evm_model.specs.declared.call.Call.{Call}
use Rattle.evm_model.specs.declared.call.Call.TheVariants.{Exit as Ends, Detach, SwitchInBand, TimerWait}
use Rattle.evm_model.specs.declared.counts.Counts.{Counts}
use Rattle.evm_model.specs.declared.errno.Errno.{Errno}
use Rattle.evm_model.specs.declared.errno.Errno.TheVariants as errors
use Rattle.evm_model.specs.declared.event.Answer.{Answer}
use Rattle.evm_model.specs.declared.event.Answer.TheVariants.{Ran}
use Rattle.evm_model.specs.declared.event.Event.TheVariants.{Step}
use Rattle.evm_model.specs.declared.mutex.Mutex.{Mutex}
use Rattle.evm_model.specs.declared.notice.Notice.{Notice}
use Rattle.evm_model.specs.declared.notice.NoticeKind.{NoticeKind}
use Rattle.evm_model.specs.declared.notice.NoticeKind.TheVariants as notices
use Rattle.evm_model.specs.declared.task.Task.{Task}
use Rattle.evm_model.specs.declared.task.TaskState.{TaskState}
use Rattle.evm_model.specs.declared.task.TaskState.TheVariants.{InReady, OobReady, Waits, Exit, Faulted}
use Rattle.evm_model.specs.declared.task.Wait.{Wait}
use Rattle.evm_model.specs.declared.task.Wait.TheVariants.{Line, Lock, Reacquire, Semaphore, Event, Flags, Sleep, Timer as Expiry}
use Rattle.evm_model.specs.declared.timer.Timer.{Timer}
use Rattle.evm_ram.specs.Ram.{bytes_at}
use Rattle.hunt_failures.specs.declared.expiries.TheConstants.{FIRST_ERROR}
use Rattle.hunt_failures.specs.declared.failure.Failure.{Failure}
use Rattle.hunt_failures.specs.declared.failure.Failure.TheVariants as failures
use Rattle.hunt_failures.specs.declared.wanted.Errors.{Errors}
use Rattle.hunt_failures.specs.declared.wanted.Wanted.{Wanted}

-- the processor that a Step is of
abbrev pub step_of : Happening → Option ℕ
step_of (Step c) = Some c
step_of _ = None

-- ---- a processor stopped
-- a schedule has no command of a debugger, so a processor that is stopped came to an EBREAK
abbrev pub stopped_at : ℕ → State → Bool
stopped_at c s = is_stopped (slice_get s.board.parts.processors c)

-- ---- a task faulted
abbrev pub is_faulted : TaskState → Bool
is_faulted (Faulted fault) = true
is_faulted _ = false

abbrev pub is_faulted_task : Option Task → Bool
is_faulted_task None = false
is_faulted_task (Some task) = is_faulted task.state

-- task t ended by a fault
abbrev pub faulted_at : ℕ → State → Bool
faulted_at t s = is_faulted_task (slice_get s.board.parts.tasks t)

-- ---- a deadlock
-- a timer that is off, which only a task sets
abbrev pub is_off : Option Timer → Bool
is_off None = true
is_off (Some timer) = timer.due == 0

-- A wait that nothing but another task ends, where these lines may be raised from outside: a line may have an action, which puts
-- a semaphore or posts a flag.
abbrev pub only_tasks_end : List ℕ → List Timer → Wait → Bool
only_tasks_end lines timers (Lock m) = true
only_tasks_end lines timers (Reacquire m answer) = true
only_tasks_end lines timers (Event e) = true
only_tasks_end lines timers (Semaphore s) = has_none lines
only_tasks_end lines timers (Flags f) = has_none lines
only_tasks_end lines timers (Line l) = not (l == 0) && not (has_line lines l)
only_tasks_end lines timers Sleep = false
only_tasks_end lines timers (Expiry n) = is_off (slice_get timers n)

abbrev pub is_stuck_state : List ℕ → List Timer → TaskState → Bool
is_stuck_state lines timers Exit = true
is_stuck_state lines timers (Faulted fault) = true
is_stuck_state lines timers (Waits wait) = only_tasks_end lines timers wait
is_stuck_state lines timers _ = false

-- a task that has ended, or waits without a deadline for another task
abbrev pub is_stuck : List ℕ → List Timer → Task → Bool
is_stuck lines timers task = task.deadline == 0 && is_stuck_state lines timers task.state

abbrev pub is_stuck_task : List ℕ → List Timer → Option Task → Bool
is_stuck_task lines timers None = true
is_stuck_task lines timers (Some task) = is_stuck lines timers task

abbrev pub is_waiting_task : Option Task → Bool
is_waiting_task None = false
is_waiting_task (Some task) = is_waiting task.state

abbrev pub is_quiet_pipe : Option Pipe → Bool
is_quiet_pipe None = true
is_quiet_pipe (Some pipe) = has_none pipe.wire

abbrev pub is_zero : Option ℕ → Bool
is_zero None = true
is_zero (Some n) = n == 0

-- each task has ended or waits for another, and one waits: no line is on a wire, and the pins, device 2, count no ticks
pub record IsDeadlock (lines : List ℕ) (s : State) : Type 0 where
  pub each : (t : ℕ) → t < length s.board.parts.tasks → is_stuck_task lines s.board.parts.timers (slice_get s.board.parts.tasks t) ≡ true
  pub one : (t : ℕ) × (is_waiting_task (slice_get s.board.parts.tasks t) ≡ true)
  pub wires : (c : ℕ) → c < length s.board.parts.processors → is_quiet_pipe (slice_get s.board.parts.pipes c) ≡ true
  pub pins : is_zero (device_word 2 2 s.board.memory.devices) ≡ true

-- ---- a notice
abbrev pub is_notice_of : ℕ → NoticeKind → Option Notice → Type 0
is_notice_of t kind None = ⊥
is_notice_of t kind (Some notice) = (notice.task ≡ t) × (notice.kind ≡ kind)

-- the event left notices, the last of which is of this kind for task t
abbrev pub IsNoticed : ℕ → NoticeKind → State → State → Type 0
IsNoticed t kind before s = (s.board.parts.notices.total ≢ before.board.parts.notices.total)
    × is_notice_of t kind (slice_get s.board.parts.notices.kept (length s.board.parts.notices.kept - 1))

-- ---- a call that was refused
-- the four bytes of an ECALL
abbrev pub is_ecall : Option (List ℕ) → Bool
is_ecall (Some (a ∷ b ∷ c ∷ d ∷ [])) = a == 115 && b == 0 && c == 0 && d == 0
is_ecall _ = false

abbrev pub is_at_pc : ℕ → Option Hart → Bool
is_at_pc pc None = false
is_at_pc pc (Some hart) = hart.pc == pc

-- the next instruction of task t is the ECALL at this address
abbrev pub IsAtCall : ℕ → ℕ → State → Type 0
IsAtCall t pc s = (is_at_pc pc (slice_get s.board.parts.harts t) ≡ true) × (is_ecall (bytes_at s.board.memory.ram pc 4) ≡ true)

-- a hart behind the ECALL at this address, with an error in a0
abbrev pub is_answered : ℕ → Errno → Option Hart → Bool
is_answered pc e None = false
is_answered pc e (Some hart) = hart.pc == pc + 4 && register_of hart.regs A0 == refusal_answer e

-- task t was at an ECALL, and is behind it with this error
abbrev pub IsRefused : ℕ → Errno → State → State → Type 0
IsRefused t e before s = (pc : ℕ) × IsAtCall t pc before × (is_answered pc e (slice_get s.board.parts.harts t) ≡ true)

-- task t was the current one of the processor that stepped
abbrev pub IsCaller : ℕ → State → Happening → Type 0
IsCaller t before event = (c : ℕ) × (step_of event ≡ Some c) × (current c before.board.parts ≡ Some t)

-- ---- a mutex whose owner ended
abbrev pub is_ended_task : Option Task → Bool
is_ended_task None = false
is_ended_task (Some task) = not (is_live task.state)

-- task t has ended
abbrev pub ended_at : ℕ → State → Bool
ended_at t s = is_ended_task (slice_get s.board.parts.tasks t)

abbrev pub live_of : Option ℕ → List Task → Option ℕ
live_of None tasks = None
live_of (Some t) tasks = if is_ended_task (slice_get tasks t) then None else Some t

-- the task that has mutex m, if it has not ended
abbrev pub live_owner : ℕ → State → Option ℕ
live_owner m s = live_of (owner s.board.parts.mutexes m) s.board.parts.tasks

-- a task, and not t
abbrev pub is_another : ℕ → Option ℕ → Bool
is_another t None = false
is_another t (Some u) = not (u == t)

-- task t has ended, and another has mutex m
abbrev pub is_left : ℕ → ℕ → State → Bool
is_left t m s = ended_at t s && is_another t (owner s.board.parts.mutexes m)

-- task t had mutex m and has ended since, and another task has the mutex
abbrev pub IsAbandoned : ℕ → ℕ → State → State → Type 0
IsAbandoned t m before s = (live_owner m before ≡ Some t) × (is_left t m s ≡ true)

-- ---- a task that is demoted
-- the call whose number a hart has in a7
abbrev pub call_in : Option Hart → Option Call
call_in None = None
call_in (Some hart) = call_of (register_of hart.regs A7)

-- the calls by which a task goes in-band itself
abbrev pub goes_in_band : Option Call → Bool
goes_in_band (Some Ends) = true
goes_in_band (Some Detach) = true
goes_in_band (Some SwitchInBand) = true
goes_in_band _ = false

abbrev pub is_weak_task : Option Task → Bool
is_weak_task None = false
is_weak_task (Some task) = is_weak task.class

abbrev pub is_out_of_band : Option Task → Bool
is_out_of_band None = false
is_out_of_band (Some task) = is_oob_ready task.state

abbrev pub is_in_band_task : Option Task → Bool
is_in_band_task None = false
is_in_band_task (Some task) = is_in_ready task.state

abbrev pub is_at_ecall : Option Hart → List ℕ → Bool
is_at_ecall None ram = false
is_at_ecall (Some hart) ram = is_ecall (bytes_at ram hart.pc 4)

-- the next instruction of task t is a call by which it goes in-band itself; a weak task does so by any call
abbrev pub leaves : ℕ → State → Bool
leaves t s =
    is_at_ecall (slice_get s.board.parts.harts t) s.board.memory.ram
    && (if is_weak_task (slice_get s.board.parts.tasks t) then true else goes_in_band (call_in (slice_get s.board.parts.harts t)))

-- task t is out-of-band, and its next instruction is no call by which it goes in-band itself
abbrev pub is_to_stay : ℕ → State → Bool
is_to_stay t s = is_out_of_band (slice_get s.board.parts.tasks t) && not (leaves t s)

-- task t, which the processor that stepped ran and which was to stay out-of-band, is in-band
abbrev pub IsDemoted : ℕ → State → Happening → State → Type 0
IsDemoted t before event s = IsCaller t before event × (is_to_stay t before ≡ true) × (is_in_band_task (slice_get s.board.parts.tasks t) ≡ true)

-- ---- a wait for a timer that is answered with more than one expiry
abbrev pub awaits_expiry : TaskState → Bool
awaits_expiry (Waits (Expiry n)) = true
awaits_expiry _ = false

abbrev pub awaits_timer : Option Task → Bool
awaits_timer None = false
awaits_timer (Some task) = awaits_expiry task.state

abbrev pub is_ready_task : Option Task → Bool
is_ready_task None = false
is_ready_task (Some task) = is_ready task.state

-- more than one, and no error
abbrev pub is_many : ℕ → Bool
is_many answer = nat_lt 1 answer && nat_lt answer FIRST_ERROR

abbrev pub tells_many : Option Hart → Bool
tells_many None = false
tells_many (Some hart) = is_many (register_of hart.regs A0)

-- task t is ready, with more than one expiry as its answer
abbrev pub is_late : ℕ → State → Bool
is_late t s = is_ready_task (slice_get s.board.parts.tasks t) && tells_many (slice_get s.board.parts.harts t)

-- task t waited for a timer, and was answered more than one expiry
abbrev pub IsWokenLate : ℕ → State → State → Type 0
IsWokenLate t before s = (awaits_timer (slice_get before.board.parts.tasks t) ≡ true) × (is_late t s ≡ true)

abbrev pub is_timer_wait : Option Call → Bool
is_timer_wait (Some TimerWait) = true
is_timer_wait _ = false

-- a hart behind the ECALL at this address
abbrev pub is_behind : ℕ → Option Hart → Bool
is_behind pc None = false
is_behind pc (Some hart) = hart.pc == pc + 4

-- the call at this address waited for a timer, and was answered more than one expiry at once
abbrev pub is_answered_late : ℕ → Option Call → Option Hart → Bool
is_answered_late pc call hart = is_timer_wait call && (is_behind pc hart && tells_many hart)

-- task t was about to wait for a timer, and was answered more than one expiry at once
abbrev pub IsAnsweredLate : ℕ → State → Happening → State → Type 0
IsAnsweredLate t before event s =
    IsCaller t before event × (pc : ℕ) × IsAtCall t pc before × (is_answered_late pc (call_in (slice_get before.board.parts.harts t)) (slice_get s.board.parts.harts t) ≡ true)

abbrev pub IsOverrun : ℕ → State → Happening → State → Type 0
IsOverrun t before event s = IsWokenLate t before s ⊎ IsAnsweredLate t before event s

-- ---- a line that is lost
abbrev pub plays : Option Counts → ℕ
plays None = 0
plays (Some counts) = counts.in_band.played

-- line l was played so often in-band on processor c, and no task waits for it there
abbrev pub IsUnawaited : ℕ → ℕ → ℕ → State → Type 0
IsUnawaited c l played s = (plays (counts_at c l s.board.parts) ≡ played)
    × ((t : ℕ) → t < length s.board.parts.tasks → awaits_line c l (slice_get s.board.parts.tasks t) ≡ false)

-- line l was played in-band on processor c, where no task waited for it
abbrev pub IsLost : ℕ → ℕ → State → State → Type 0
IsLost c l before s = (played : ℕ) × IsUnawaited c l played before × (played < plays (counts_at c l s.board.parts))

-- ---- what has gone on for long: how long is counted over the run
abbrev pub is_held : Option Mutex → Bool
is_held None = false
is_held (Some mutex) = is_some mutex.owner

-- a task is ready and isn't current, or waits for a mutex or a semaphore
abbrev pub is_kept : Bool → TaskState → Bool
is_kept is_current InReady = not is_current
is_kept is_current OobReady = not is_current
is_kept is_current (Waits (Lock m)) = true
is_kept is_current (Waits (Reacquire m answer)) = true
is_kept is_current (Waits (Semaphore s)) = true
is_kept is_current _ = false

abbrev pub is_task : ℕ → Option ℕ → Bool
is_task t None = false
is_task t (Some u) = u == t

-- task t is kept from running
abbrev pub is_kept_task : ℕ → Option Task → State → Bool
is_kept_task t None s = false
is_kept_task t (Some task) s = is_kept (is_task t (current task.cpu s.board.parts)) task.state

-- processor c runs a task of a lower rank than task t's
pub record RunsLower (c t : ℕ) (s : State) : Type 0 where
  pub lower : ℕ
  pub runs : current c s.board.parts ≡ Some lower
  pub below : rank s.board.parts.mutexes s.board.parts.tasks lower < rank s.board.parts.mutexes s.board.parts.tasks t

-- task t is kept from running while a task of a lower rank runs
pub record IsKeptBack (t : ℕ) (s : State) : Type 0 where
  pub kept : is_kept_task t (slice_get s.board.parts.tasks t) s ≡ true
  pub cpu : ℕ
  pub lower : RunsLower cpu t s

-- a task is ready, or waits without a deadline for another
abbrev pub is_passed_over : List ℕ → List Timer → Option Task → Bool
is_passed_over lines timers None = false
is_passed_over lines timers (Some task) = if is_ready task.state then true else is_waiting task.state && is_stuck lines timers task

-- task t, which is ready or waits for another, did not run, and another did
pub record IsPassedOver (lines : List ℕ) (t : ℕ) (answer : Answer) (s : State) : Type 0 where
  pub passed : is_passed_over lines s.board.parts.timers (slice_get s.board.parts.tasks t) ≡ true
  pub runner : ℕ
  pub runs : answer ≡ Ran runner
  pub other : runner ≢ t

-- an event, which led from one state to another with an answer, has made a machine fail; these lines may be raised from outside
abbrev pub Fails : List ℕ → Failure → State → Happening → Answer → State → Type 0
Fails lines (failures.Ebreak c) before event answer s = (step_of event ≡ Some c) × (stopped_at c s ≡ true)
Fails lines (failures.Fault t) before event answer s = (is_some (step_of event) ≡ true) × (answer ≡ Ran t) × (faulted_at t s ≡ true)
Fails lines failures.Deadlock before event answer s = IsDeadlock lines s
Fails lines (failures.Notice t kind) before event answer s = IsNoticed t kind before s
Fails lines (failures.Refused t e) before event answer s = IsCaller t before event × IsRefused t e before s
Fails lines (failures.Abandoned t m) before event answer s = (is_some (step_of event) ≡ true) × IsAbandoned t m before s
Fails lines (failures.Demoted t) before event answer s = IsDemoted t before event s
Fails lines (failures.Overrun t) before event answer s = (is_some (step_of event) ≡ true) × IsOverrun t before event s
Fails lines (failures.Lost c l) before event answer s = IsLost c l before s
Fails lines (failures.Held m) before event answer s = is_held (slice_get s.board.parts.mutexes m) ≡ true
Fails lines (failures.KeptBack t) before event answer s = IsKeptBack t s
Fails lines (failures.Stuck t) before event answer s = IsPassedOver lines t answer s

-- ---- what is looked for
abbrev pub error_in : Errors → Errno → Bool
error_in set errors.NotPermitted = set.eperm
error_in set errors.NoSuchTask = set.esrch
error_in set errors.TryAgain = set.eagain
error_in set errors.NoNumber = set.enomem
error_in set errors.Busy = set.ebusy
error_in set errors.Invalid = set.einval
error_in set errors.Deadlock = set.edeadlk
error_in set errors.NoSuchCall = set.enosys
error_in set errors.TimedOut = set.etimedout

abbrev pub has_error : Option Errors → Errno → Bool
has_error None e = false
has_error (Some set) e = error_in set e

abbrev pub has_kind : Wanted → NoticeKind → Bool
has_kind wanted notices.DemotedByCall = wanted.demoted_by_call
has_kind wanted notices.DemotedByFault = wanted.demoted_by_fault
has_kind wanted notices.Deadlock = wanted.never_ends
has_kind wanted notices.NotOwner = wanted.not_owner
has_kind wanted notices.Overran = wanted.watchdog

-- the calls that tasks make are looked at
abbrev pub looks_at_calls : Wanted → Bool
looks_at_calls wanted = if is_some wanted.errors then true else wanted.overrun

-- A failure that is looked for and that one event shows: for how long a mutex is held, or a task is kept back or passed over is counted by the
-- code, and of lines that are lost it looks at the least.
abbrev pub is_wanted : Wanted → Failure → Bool
is_wanted wanted (failures.Ebreak c) = wanted.ebreak
is_wanted wanted (failures.Fault t) = wanted.fault
is_wanted wanted failures.Deadlock = wanted.deadlock
is_wanted wanted (failures.Notice t kind) = has_kind wanted kind
is_wanted wanted (failures.Refused t e) = has_error wanted.errors e
is_wanted wanted (failures.Abandoned t m) = wanted.abandoned
is_wanted wanted (failures.Demoted t) = wanted.demotion
is_wanted wanted (failures.Overrun t) = wanted.overrun
is_wanted wanted _ = false

-- an event has made a machine fail in a way that is looked for
abbrev pub FailsAsWanted : Wanted → State → Happening → Answer → State → Type 0
FailsAsWanted wanted before event answer s = (failure : Failure) × (is_wanted wanted failure ≡ true) × Fails wanted.lines failure before event answer s

-- what was seen of an event: a failure, or that it made none that is looked for
abbrev pub IsSeen : Wanted → State → Happening → Answer → State → Option Failure → Type 0
IsSeen wanted before event answer s None = FailsAsWanted wanted before event answer s → ⊥
IsSeen wanted before event answer s (Some failure) = Fails wanted.lines failure before event answer s
