-- An ECALL that names no time looks at no clock.
use Rattle.std.proofs.Common.{◌≡◌, ℕ, Bool, true, false, not, ◌&&◌, Option, Some, None, refl, arith}
use Rattle.std.specs.Prelude.{slice_get, nat_lt, ◌==◌, if◌then◌else◌}
use Rattle.std.proofs.lemmas.Bool.Decides.{nat_tests}
use Rattle.evm_exec.specs.Registers.{register_of}
use Rattle.evm_exec.specs.declared.hart.Hart.{Hart}
use Rattle.evm_model.specs.Calls.{answered, ask_oob, call, call_known, call_of, call_of_hart, call_on, call_stage, finish_call, is_weak_oob, perform, return_weak}
use Rattle.evm_model.specs.Current.{is_oob}
use Rattle.evm_model.specs.Harts.{A7, answer, argument}
use Rattle.evm_model.specs.Mutexes.{owns_any}
use Rattle.evm_model.specs.Notices.{notify}
use Rattle.evm_model.specs.Profiles.{offered}
use Rattle.evm_model.specs.Stages.{refused, may_promote}
use Rattle.evm_model.specs.State.{Parts, on_hart}
use Rattle.evm_model.specs.declared.call.Call.{Call}
use Rattle.evm_model.specs.declared.call.Call.TheVariants.{Exit, Putc, Yield, Spawn, Stall, Unstall, WaitLine, Attach, Detach, NewMutex, NewSemaphore, NewEvent, NewFlags, NewTimer, SetLine, SwitchOob, SwitchInBand, SetSched, SetMode, Lock, TryLock, Unlock, SemGet, SemTryGet, SemPut, EventWait, Signal, Broadcast, FlagsWait, FlagsPost, SleepUntil, TimerSet, TimerWait, YieldOob, StallOob, UnstallOob, Clock, StateBits, Migrate}
use Rattle.evm_model.specs.declared.call.Outcome.{Outcome}
use Rattle.evm_model.specs.declared.call.Outcome.TheVariants.{Returns, Blocks, Exits}
use Rattle.evm_model.specs.declared.errno.Errno.TheVariants.{NotPermitted, NoSuchCall}
use Rattle.evm_model.specs.declared.limits.TheConstants.{MIGRATION_PROFILE}
use Rattle.evm_model.specs.declared.notice.NoticeKind.TheVariants.{DemotedByCall}
use Rattle.evm_model.specs.declared.profile.Profile.{Profile}
use Rattle.evm_model.specs.declared.stage.Stage.{Stage}
use Rattle.evm_model.specs.declared.stage.Stage.TheVariants.{OutOfBand, InBand}
use Rattle.law_runs.specs.Timeless.{timeless, HasNoTimes, is_timed_call, is_timed_of, is_timed}
use Rattle.law_runs.proofs.Alike.Timeless.{Clockless, ClocklessDone, at_once, onward, clockless_if, clockless_notify}
use Rattle.law_runs.proofs.Alike.TimelessCalls.{done_exit, done_putc, done_yield, done_spawn, done_wait_line, done_attach, done_detach, done_set_line, done_stall, done_switch_oob, done_switch_in_band, done_set_sched, done_set_mode, done_yield_oob, done_state_bits, done_migrate}
use Rattle.law_runs.proofs.Alike.TimelessObjects.{done_new_mutex, done_lock, done_try_lock, done_unlock, done_new_semaphore, done_sem_get, done_sem_try_get, done_new_flags, done_flags_wait, done_flags_post, done_new_timer, done_timer_set, done_timer_wait, done_event_wait, done_new_event, done_signal, done_broadcast}
use Rattle.law_runs.proofs.Alike.TimelessTasks.{done_sem_put, clockless_demote, clockless_promote}

no_time : (n : ℕ) → not (n == 0) ≡ false → n ≡ 0
no_time n e = grind (arith, nat_tests)

-- ---- a call is answered
module _ (p : Parts) (h : HasNoTimes p) where
  clockless_return : (c t : ℕ) → Clockless (return_weak c t p) (return_weak c t (timeless p))
  unfolding return_weak
  clockless_return c t = clockless_if (is_weak_oob (slice_get p.tasks t) && not (owns_any t p.mutexes)) (clockless_demote p h c t) (at_once h)

clockless_answer : (p : Parts) → HasNoTimes p → (outcome : Outcome) (c t : ℕ) → Clockless (answered outcome c t p) (answered outcome c t (timeless p))
clockless_answer p h (Returns value) c t = clockless_return (on_hart t (answer value) p) h c t
clockless_answer p h Blocks c t = at_once h
clockless_answer p h Exits c t = at_once h

clockless_finish : {x y : Parts × Outcome} → ClocklessDone x y → (c t : ℕ) → Clockless (finish_call c t x) (finish_call c t y)
clockless_finish {x = x} d c t = rw d.1 (onward (answered x.1 c t) d.0 (λ q k. clockless_answer q k x.1 c t))

-- ---- a call that names no time
module _ (p : Parts) (h : HasNoTimes p) where
  perform_by : (call : Call) (hart : Hart) (c t : ℕ) → is_timed_call call hart ≡ false → ClocklessDone (perform call hart c t p) (perform call hart c t (timeless p))
  perform_by Exit hart c t e = done_exit p h c t
  perform_by Putc hart c t e = done_putc p h (argument 0 hart)
  perform_by Yield hart c t e = done_yield p h c t
  perform_by Spawn hart c t e = done_spawn p h (argument 0 hart) (argument 1 hart) (argument 2 hart)
  perform_by Stall hart c t e = done_stall p h InBand true c
  perform_by Unstall hart c t e = done_stall p h InBand false c
  perform_by WaitLine hart c t e = done_wait_line p h c t (argument 0 hart)
  perform_by Attach hart c t e = done_attach p h t (argument 0 hart) (argument 1 hart)
  perform_by Detach hart c t e = done_detach p h t
  perform_by NewMutex hart c t e = done_new_mutex p h (argument 0 hart) (argument 1 hart)
  perform_by NewSemaphore hart c t e = done_new_semaphore p h (argument 0 hart)
  perform_by NewEvent hart c t e = done_new_event p h
  perform_by NewFlags hart c t e = done_new_flags p h
  perform_by NewTimer hart c t e = done_new_timer p h
  perform_by SetLine hart c t e = done_set_line p h (argument 0 hart) (argument 1 hart) (argument 2 hart)
  perform_by SwitchOob hart c t e = done_switch_oob p h
  perform_by SwitchInBand hart c t e = done_switch_in_band p h c t
  perform_by SetSched hart c t e = done_set_sched p h (argument 0 hart) (argument 1 hart) (argument 2 hart)
  perform_by SetMode hart c t e = done_set_mode p h t (argument 0 hart)
  perform_by Lock hart c t e = rw (no_time (argument 1 hart) e) (done_lock p h c t (argument 0 hart))
  perform_by TryLock hart c t e = done_try_lock p h t (argument 0 hart)
  perform_by Unlock hart c t e = done_unlock p h t (argument 0 hart)
  perform_by SemGet hart c t e = rw (no_time (argument 1 hart) e) (done_sem_get p h c t (argument 0 hart))
  perform_by SemTryGet hart c t e = done_sem_try_get p h (argument 0 hart)
  perform_by SemPut hart c t e = done_sem_put p h (argument 0 hart)
  perform_by EventWait hart c t e = rw (no_time (argument 2 hart) e) (done_event_wait p h c t (argument 0 hart) (argument 1 hart))
  perform_by Signal hart c t e = done_signal p h (argument 0 hart)
  perform_by Broadcast hart c t e = done_broadcast p h (argument 0 hart)
  perform_by FlagsWait hart c t e = rw (no_time (argument 1 hart) e) (done_flags_wait p h c t (argument 0 hart))
  perform_by FlagsPost hart c t e = done_flags_post p h (argument 0 hart) (argument 1 hart)
  perform_by SleepUntil hart c t e = cc
  perform_by TimerSet hart c t e = rw (no_time (argument 1 hart) e) (done_timer_set p h c (argument 0 hart) (argument 2 hart))
  perform_by TimerWait hart c t e = done_timer_wait p h c t (argument 0 hart)
  perform_by YieldOob hart c t e = done_yield_oob p h t
  perform_by StallOob hart c t e = done_stall p h OutOfBand true c
  perform_by UnstallOob hart c t e = done_stall p h OutOfBand false c
  perform_by Clock hart c t e = cc
  perform_by StateBits hart c t e = done_state_bits p h c t
  perform_by Migrate hart c t e = done_migrate p h c t (argument 0 hart)

-- ---- the ECALL
timed_offered : (profile : Profile) (o : Option Call) (hart : Hart) → is_timed_of o hart ≡ false → is_timed_of (offered profile o) hart ≡ false
timed_offered profile (Some Migrate) hart e =
    elim (nat_lt profile.version MIGRATION_PROFILE) as (λ b. is_timed_of (if b then None else Some Migrate) hart ≡ false) [ true ↦ refl | false ↦ refl ]
timed_offered profile o hart e = e

-- whether there is a hart that asks for a call that reads the clock or names a time
abbrev pub is_timed_hart : Option Hart → Bool
is_timed_hart None = false
is_timed_hart (Some hart) = is_timed hart

module _ (p : Parts) (h : HasNoTimes p) where
  perform_on : (call : Call) (hart : Hart) (c t : ℕ) → is_timed_call call hart ≡ false → Clockless (finish_call c t (perform call hart c t p)) (finish_call c t (perform call hart c t (timeless p)))
  perform_on call hart c t e = clockless_finish (perform_by p h call hart c t e) c t

  clockless_refused : (c t : ℕ) → Clockless (finish_call c t (refused NotPermitted p)) (finish_call c t (refused NotPermitted (timeless p)))
  clockless_refused c t = clockless_finish {x = refused NotPermitted p} {y = refused NotPermitted (timeless p)} (at_once h, refl) c t

  clockless_ask : (c t : ℕ) → Clockless (ask_oob c t p) (ask_oob c t (timeless p))
  unfolding ask_oob
  clockless_ask c t = clockless_if (may_promote c t p) (clockless_promote p h c t) (clockless_refused c t)

  call_by : (stage : Option Stage) (call : Call) (hart : Hart) (c t : ℕ) → is_timed_call call hart ≡ false → Clockless (call_on stage call hart c t p) (call_on stage call hart c t (timeless p))
  call_by None call hart c t e = perform_on call hart c t e
  call_by (Some InBand) call hart c t e =
      clockless_if (is_oob (Some t) p.tasks) (onward (notify DemotedByCall t) (clockless_demote p h c t) (λ q k. clockless_notify q k DemotedByCall t)) (perform_on call hart c t e)
  call_by (Some OutOfBand) call hart c t e = clockless_if (is_oob (Some t) p.tasks) (perform_on call hart c t e) (clockless_ask c t)

  call_in : (o : Option Call) (hart : Hart) (c t : ℕ) → is_timed_of o hart ≡ false → Clockless (call_known o hart c t p) (call_known o hart c t (timeless p))
  call_in None hart c t e = clockless_finish {x = refused NoSuchCall p} {y = refused NoSuchCall (timeless p)} (at_once h, refl) c t
  call_in (Some call) hart c t e = call_by (call_stage call) call hart c t e

  call_with : (o : Option Hart) (c t : ℕ) → is_timed_hart o ≡ false → Clockless (call_of_hart o c t p) (call_of_hart o c t (timeless p))
  call_with None c t e = at_once h
  call_with (Some hart) c t e =
      call_in (offered p.profile (call_of (register_of hart.regs A7))) hart c t (timed_offered p.profile (call_of (register_of hart.regs A7)) hart e)

  pub clockless_call : (c t : ℕ) → is_timed_hart (slice_get p.harts t) ≡ false → Clockless (call c t p) (call c t (timeless p))
  unfolding call
  clockless_call c t e = call_with (slice_get p.harts t) c t e
