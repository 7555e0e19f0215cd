-- The calls: their numbers and stages, and the ECALL.
use Rattle.std.specs.Prelude.{ℕ, List, [], ◌∷◌, Option, Some, None, Bool, true, false, not, ◌&&◌, ◌==◌, if◌then◌else◌, slice_get}
use Rattle.evm_exec.specs.Registers.{register_of}
use Rattle.evm_exec.specs.declared.hart.Hart.{Hart}
use Rattle.evm_model.specs.Actions.{set_line}
use Rattle.evm_model.specs.Current.{is_oob}
use Rattle.evm_model.specs.Deadlines.{sleep_until}
use Rattle.evm_model.specs.Events.{new_event, event_wait, signal, broadcast}
use Rattle.evm_model.specs.Flags.{new_flags, flags_wait, flags_post}
use Rattle.evm_model.specs.Harts.{A7, advance, answer, argument}
use Rattle.evm_model.specs.InBandCalls.{exit, putc, yield_now, spawn, wait_line, attach_task, detach}
use Rattle.evm_model.specs.Locks.{new_mutex, lock, try_lock, unlock}
use Rattle.evm_model.specs.Mutexes.{owns_any}
use Rattle.evm_model.specs.Notices.{notify}
use Rattle.evm_model.specs.OobCalls.{stall, switch_oob, switch_in_band, set_sched, set_mode, yield_oob, clock, state_bits, migrate}
use Rattle.evm_model.specs.Profiles.{offered}
use Rattle.evm_model.specs.Ranks.{is_oob_ready}
use Rattle.evm_model.specs.Semaphores.{new_semaphore, sem_get, sem_try_get, sem_put}
use Rattle.evm_model.specs.Stages.{refused, may_promote}
use Rattle.evm_model.specs.State.{Parts, on_hart}
use Rattle.evm_model.specs.Tasks.{demote, promote, is_weak}
use Rattle.evm_model.specs.Timers.{new_timer, timer_set, timer_wait}
use Rattle.evm_model.specs.declared.call.Call.{Call}
use Rattle.evm_model.specs.declared.call.Call.TheVariants.{Exit as Ends, Putc, Yield, Spawn, Stall, Unstall, WaitLine, Attach, Detach, NewMutex, NewSemaphore, NewEvent, NewFlags, NewTimer, SetLine, SwitchOob, SwitchInBand, SetSched, SetMode, Lock, TryLock, Unlock, SemGet, SemTryGet, SemPut, EventWait, Signal, Broadcast, FlagsWait, FlagsPost, SleepUntil, TimerSet, TimerWait, YieldOob, StallOob, UnstallOob, Clock, StateBits, Migrate}
use Rattle.evm_model.specs.declared.call.Outcome.{Outcome}
use Rattle.evm_model.specs.declared.call.Outcome.TheVariants.{Returns, Blocks, Exits}
use Rattle.evm_model.specs.declared.errno.Errno.TheVariants.{NotPermitted, NoSuchCall}
use Rattle.evm_model.specs.declared.notice.NoticeKind.TheVariants.{DemotedByCall}
use Rattle.evm_model.specs.declared.stage.Stage.{Stage}
use Rattle.evm_model.specs.declared.stage.Stage.TheVariants.{OutOfBand, InBand}
use Rattle.evm_model.specs.declared.task.Task.{Task}

-- the number of each call, and the stage that it is of; None where it is of either
abbrev pub call_row : Call → ℕ × Option Stage
call_row Ends = (0, Some InBand)
call_row Putc = (1, Some InBand)
call_row Yield = (2, Some InBand)
call_row Spawn = (3, Some InBand)
call_row Stall = (4, Some InBand)
call_row Unstall = (5, Some InBand)
call_row WaitLine = (6, Some InBand)
call_row Attach = (7, Some InBand)
call_row Detach = (8, Some InBand)
call_row NewMutex = (9, Some InBand)
call_row NewSemaphore = (10, Some InBand)
call_row NewEvent = (11, Some InBand)
call_row NewFlags = (12, Some InBand)
call_row NewTimer = (13, Some InBand)
call_row SetLine = (14, Some InBand)
call_row SwitchOob = (32, Some OutOfBand)
call_row SwitchInBand = (33, Some OutOfBand)
call_row SetSched = (34, Some OutOfBand)
call_row SetMode = (35, Some OutOfBand)
call_row Lock = (36, Some OutOfBand)
call_row TryLock = (37, Some OutOfBand)
call_row Unlock = (38, Some OutOfBand)
call_row SemGet = (39, Some OutOfBand)
call_row SemTryGet = (40, Some OutOfBand)
call_row SemPut = (41, None)
call_row EventWait = (42, Some OutOfBand)
call_row Signal = (43, Some OutOfBand)
call_row Broadcast = (44, Some OutOfBand)
call_row FlagsWait = (45, Some OutOfBand)
call_row FlagsPost = (46, None)
call_row SleepUntil = (47, Some OutOfBand)
call_row TimerSet = (48, Some OutOfBand)
call_row TimerWait = (49, Some OutOfBand)
call_row YieldOob = (50, Some OutOfBand)
call_row StallOob = (51, Some OutOfBand)
call_row UnstallOob = (52, Some OutOfBand)
call_row Clock = (53, None)
call_row StateBits = (54, None)
call_row Migrate = (55, Some OutOfBand)

abbrev pub call_number : Call → ℕ
call_number call = (call_row call).0

abbrev pub call_stage : Call → Option Stage
call_stage call = (call_row call).1

abbrev pub all_calls : List Call
all_calls =
    Ends ∷ Putc ∷ Yield ∷ Spawn ∷ Stall ∷ Unstall ∷ WaitLine ∷ Attach ∷ Detach ∷ NewMutex ∷ NewSemaphore ∷ NewEvent ∷ NewFlags ∷ NewTimer ∷ SetLine ∷ SwitchOob
    ∷ SwitchInBand ∷ SetSched ∷ SetMode ∷ Lock ∷ TryLock ∷ Unlock ∷ SemGet ∷ SemTryGet ∷ SemPut ∷ EventWait ∷ Signal ∷ Broadcast
    ∷ FlagsWait ∷ FlagsPost ∷ SleepUntil ∷ TimerSet ∷ TimerWait ∷ YieldOob ∷ StallOob ∷ UnstallOob ∷ Clock ∷ StateBits ∷ Migrate ∷ []

-- the first of the calls that has the number
abbrev pub numbered : ℕ → List Call → Option Call
numbered n [] = None
numbered n (call ∷ calls) = if n == call_number call then Some call else numbered n calls

-- the call of a number
abbrev pub call_of : ℕ → Option Call
call_of n = numbered n all_calls

-- what a call does for task t of processor c, which has this hart
abbrev pub perform : Call → Hart → ℕ → ℕ → Parts → Parts × Outcome
perform Ends hart c t p = exit c t p
perform Putc hart c t p = putc (argument 0 hart) p
perform Yield hart c t p = yield_now c t p
perform Spawn hart c t p = spawn (argument 0 hart) (argument 1 hart) (argument 2 hart) p
perform Stall hart c t p = stall InBand true c p
perform Unstall hart c t p = stall InBand false c p
perform WaitLine hart c t p = wait_line c t (argument 0 hart) p
perform Attach hart c t p = attach_task t (argument 0 hart) (argument 1 hart) p
perform Detach hart c t p = detach t p
perform NewMutex hart c t p = new_mutex (argument 0 hart) (argument 1 hart) p
perform NewSemaphore hart c t p = new_semaphore (argument 0 hart) p
perform NewEvent hart c t p = new_event p
perform NewFlags hart c t p = new_flags p
perform NewTimer hart c t p = new_timer p
perform SetLine hart c t p = set_line (argument 0 hart) (argument 1 hart) (argument 2 hart) p
perform SwitchOob hart c t p = switch_oob p
perform SwitchInBand hart c t p = switch_in_band c t p
perform SetSched hart c t p = set_sched (argument 0 hart) (argument 1 hart) (argument 2 hart) p
perform SetMode hart c t p = set_mode t (argument 0 hart) p
perform Lock hart c t p = lock c t (argument 0 hart) (argument 1 hart) p
perform TryLock hart c t p = try_lock t (argument 0 hart) p
perform Unlock hart c t p = unlock t (argument 0 hart) p
perform SemGet hart c t p = sem_get c t (argument 0 hart) (argument 1 hart) p
perform SemTryGet hart c t p = sem_try_get (argument 0 hart) p
perform SemPut hart c t p = sem_put (argument 0 hart) p
perform EventWait hart c t p = event_wait c t (argument 0 hart) (argument 1 hart) (argument 2 hart) p
perform Signal hart c t p = signal (argument 0 hart) p
perform Broadcast hart c t p = broadcast (argument 0 hart) p
perform FlagsWait hart c t p = flags_wait c t (argument 0 hart) (argument 1 hart) p
perform FlagsPost hart c t p = flags_post (argument 0 hart) (argument 1 hart) p
perform SleepUntil hart c t p = sleep_until c t (argument 0 hart) p
perform TimerSet hart c t p = timer_set c (argument 0 hart) (argument 1 hart) (argument 2 hart) p
perform TimerWait hart c t p = timer_wait c t (argument 0 hart) p
perform YieldOob hart c t p = yield_oob t p
perform StallOob hart c t p = stall OutOfBand true c p
perform UnstallOob hart c t p = stall OutOfBand false c p
perform Clock hart c t p = clock p
perform StateBits hart c t p = state_bits c t p
perform Migrate hart c t p = migrate c t (argument 0 hart) p

abbrev pub is_weak_oob : Option Task → Bool
is_weak_oob None = false
is_weak_oob (Some task) = is_oob_ready task.state && is_weak task.class

-- a weak task that owns no mutex stays out-of-band only until its call is answered
unfoldable pub return_weak : ℕ → ℕ → Parts → Parts
return_weak c t p = if is_weak_oob (slice_get p.tasks t) && not (owns_any t p.mutexes) then demote c t p else p

-- a call is answered, or its task waits, or has left
abbrev pub answered : Outcome → ℕ → ℕ → Parts → Parts
answered (Returns value) c t p = return_weak c t (on_hart t (answer value) p)
answered Blocks c t p = on_hart t advance p
answered Exits c t p = p

abbrev pub finish_call : ℕ → ℕ → Parts × Outcome → Parts
finish_call c t done = answered done.1 c t done.0

-- a task that may goes out-of-band, its pc unchanged, so that it makes its call again there
unfoldable pub ask_oob : ℕ → ℕ → Parts → Parts
ask_oob c t p = if may_promote c t p then promote c t p else finish_call c t (refused NotPermitted p)

-- a call of the other stage changes the task's stage first, in-band with a notice; one of either stage never does
abbrev pub call_on : Option Stage → Call → Hart → ℕ → ℕ → Parts → Parts
call_on None call hart c t p = finish_call c t (perform call hart c t p)
call_on (Some InBand) call hart c t p =
    if is_oob (Some t) p.tasks then notify DemotedByCall t (demote c t p) else finish_call c t (perform call hart c t p)
call_on (Some OutOfBand) call hart c t p =
    if is_oob (Some t) p.tasks then finish_call c t (perform call hart c t p) else ask_oob c t p

abbrev pub call_known : Option Call → Hart → ℕ → ℕ → Parts → Parts
call_known None hart c t p = finish_call c t (refused NoSuchCall p)
call_known (Some call) hart c t p = call_on (call_stage call) call hart c t p

abbrev pub call_of_hart : Option Hart → ℕ → ℕ → Parts → Parts
call_of_hart None c t p = p
call_of_hart (Some hart) c t p = call_known (offered p.profile (call_of (register_of hart.regs A7))) hart c t p

-- task t of processor c calls a kernel
unfoldable pub call : ℕ → ℕ → Parts → Parts
call c t p = call_of_hart (slice_get p.harts t) c t p
