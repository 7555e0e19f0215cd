-- A call does the same where tasks are ahead, but not the one that calls.
use Rattle.std.proofs.Common.{◌≡◌, ℕ, true, false, Option, Some, None, refl, ap}
use Rattle.std.specs.Prelude.{slice_get}
use Rattle.evm_exec.specs.Registers.{register_of}
use Rattle.evm_exec.specs.declared.hart.Hart.{Hart}
use Rattle.evm_model.specs.Calls.{answered, ask_oob, call, call_known, call_of, call_of_hart, call_on, call_stage, finish_call, is_weak_oob, perform, return_weak}
use Rattle.evm_model.specs.Harts.{A7, advance, answer, argument}
use Rattle.evm_model.specs.Mutexes.{owns_any}
use Rattle.evm_model.specs.Profiles.{offered}
use Rattle.evm_model.specs.Stages.{refused}
use Rattle.evm_model.specs.State.{Parts}
use Rattle.evm_model.specs.declared.call.Call.{Call}
use Rattle.evm_model.specs.declared.call.Call.TheVariants.{Exit, Putc, Yield, Spawn, Stall, Unstall, WaitLine, Attach, Detach, NewMutex, NewSemaphore, NewEvent, NewFlags, NewTimer, SetLine, SwitchOob, SwitchInBand, SetSched, SetMode, Lock, TryLock, Unlock, SemGet, SemTryGet, SemPut, EventWait, Signal, Broadcast, FlagsWait, FlagsPost, SleepUntil, TimerSet, TimerWait, YieldOob, StallOob, UnstallOob, Clock, StateBits, Migrate}
use Rattle.evm_model.specs.declared.call.Outcome.{Outcome}
use Rattle.evm_model.specs.declared.call.Outcome.TheVariants.{Returns, Blocks, Exits}
use Rattle.evm_model.specs.declared.errno.Errno.TheVariants.{NotPermitted, NoSuchCall}
use Rattle.evm_model.specs.declared.notice.NoticeKind.TheVariants.{DemotedByCall}
use Rattle.evm_model.specs.declared.stage.Stage.{Stage}
use Rattle.evm_model.specs.declared.stage.Stage.TheVariants.{OutOfBand, InBand}
use Rattle.law_runs.specs.Ahead.{HeadStart, Ahead}
use Rattle.law_runs.proofs.Alike.AheadChanging.{AheadDone, ahead_hart, ahead_if}
use Rattle.law_runs.proofs.Alike.AheadEvents.{done_broadcast, done_event_wait, done_new_event, done_signal}
use Rattle.law_runs.proofs.Alike.AheadInBandCalls.{done_attach, done_detach, done_exit, done_putc, done_spawn, done_wait_line, done_yield}
use Rattle.law_runs.proofs.Alike.AheadLocks.{done_lock, done_new_mutex, done_try_lock, done_unlock}
use Rattle.law_runs.proofs.Alike.AheadObjects.{done_flags_post, done_flags_wait, done_new_flags, done_new_semaphore, done_new_timer, done_sem_get, done_sem_try_get, done_set_line, done_sleep, done_timer_set, done_timer_wait}
use Rattle.law_runs.proofs.Alike.AheadOobCalls.{done_clock, done_migrate, done_set_mode, done_set_sched, done_stall, done_state_bits, done_switch_in_band, done_switch_oob, done_yield_oob}
use Rattle.law_runs.proofs.Alike.AheadReading.{at_task, hart-same, is_oob-same, may_promote-same}
use Rattle.law_runs.proofs.Alike.AheadTasks.{done_sem_put, ahead_demote, ahead_notify, ahead_promote}

-- ---- a call is answered
return_by : {lead : HeadStart} {p q : Parts} → Ahead lead p q → (c t : ℕ) → Ahead lead (return_weak c t p) (return_weak c t q)
unfolding return_weak
return_by {p = p} {q = q} a c t =
    let weak : is_weak_oob (slice_get p.tasks t) ≡ is_weak_oob (slice_get q.tasks t) = at_task a is_weak_oob t in
    let owns : owns_any t p.mutexes ≡ owns_any t q.mutexes = ap (λ (x : Parts). owns_any t x.mutexes) a.same in
    ahead_if (rw (weak, owns) refl) (ahead_demote a c t) a

answer_by : {lead : HeadStart} {p q : Parts} → Ahead lead p q → (outcome : Outcome) (c t : ℕ) → lead.rows t ≡ 0 → Ahead lead (answered outcome c t p) (answered outcome c t q)
answer_by a (Returns value) c t z = return_by (ahead_hart a t (answer value) z) c t
answer_by a Blocks c t z = ahead_hart a t advance z
answer_by a Exits c t z = a

finish_by : {lead : HeadStart} {x y : Parts × Outcome} → AheadDone lead x y → (c t : ℕ) → lead.rows t ≡ 0 → Ahead lead (finish_call c t x) (finish_call c t y)
finish_by {y = y} d c t z = rw d.1 (answer_by d.0 y.1 c t z)

module _ {lead : HeadStart} {p q : Parts} (a : Ahead lead p q) where
  perform_by : (call : Call) (hart : Hart) (c t : ℕ) → lead.rows t ≡ 0 → AheadDone lead (perform call hart c t p) (perform call hart c t q)
  perform_by Exit hart c t z = done_exit a c t z
  perform_by Putc hart c t z = done_putc a (argument 0 hart)
  perform_by Yield hart c t z = done_yield a c t
  perform_by Spawn hart c t z = done_spawn a (argument 0 hart) (argument 1 hart) (argument 2 hart)
  perform_by Stall hart c t z = done_stall a InBand true c
  perform_by Unstall hart c t z = done_stall a InBand false c
  perform_by WaitLine hart c t z = done_wait_line a c t (argument 0 hart) z
  perform_by Attach hart c t z = done_attach a t (argument 0 hart) (argument 1 hart)
  perform_by Detach hart c t z = done_detach a t
  perform_by NewMutex hart c t z = done_new_mutex a (argument 0 hart) (argument 1 hart)
  perform_by NewSemaphore hart c t z = done_new_semaphore a (argument 0 hart)
  perform_by NewEvent hart c t z = done_new_event a
  perform_by NewFlags hart c t z = done_new_flags a
  perform_by NewTimer hart c t z = done_new_timer a
  perform_by SetLine hart c t z = done_set_line a (argument 0 hart) (argument 1 hart) (argument 2 hart)
  perform_by SwitchOob hart c t z = done_switch_oob a
  perform_by SwitchInBand hart c t z = done_switch_in_band a c t
  perform_by SetSched hart c t z = done_set_sched a (argument 0 hart) (argument 1 hart) (argument 2 hart)
  perform_by SetMode hart c t z = done_set_mode a t (argument 0 hart)
  perform_by Lock hart c t z = done_lock a c t (argument 0 hart) (argument 1 hart) z
  perform_by TryLock hart c t z = done_try_lock a t (argument 0 hart)
  perform_by Unlock hart c t z = done_unlock a t (argument 0 hart)
  perform_by SemGet hart c t z = done_sem_get a c t (argument 0 hart) (argument 1 hart) z
  perform_by SemTryGet hart c t z = done_sem_try_get a (argument 0 hart)
  perform_by SemPut hart c t z = done_sem_put a (argument 0 hart)
  perform_by EventWait hart c t z = done_event_wait a c t (argument 0 hart) (argument 1 hart) (argument 2 hart) z
  perform_by Signal hart c t z = done_signal a (argument 0 hart)
  perform_by Broadcast hart c t z = done_broadcast a (argument 0 hart)
  perform_by FlagsWait hart c t z = done_flags_wait a c t (argument 0 hart) (argument 1 hart) z
  perform_by FlagsPost hart c t z = done_flags_post a (argument 0 hart) (argument 1 hart)
  perform_by SleepUntil hart c t z = done_sleep a c t (argument 0 hart) z
  perform_by TimerSet hart c t z = done_timer_set a c (argument 0 hart) (argument 1 hart) (argument 2 hart)
  perform_by TimerWait hart c t z = done_timer_wait a c t (argument 0 hart) z
  perform_by YieldOob hart c t z = done_yield_oob a t
  perform_by StallOob hart c t z = done_stall a OutOfBand true c
  perform_by UnstallOob hart c t z = done_stall a OutOfBand false c
  perform_by Clock hart c t z = done_clock a
  perform_by StateBits hart c t z = done_state_bits a c t
  perform_by Migrate hart c t z = done_migrate a c t (argument 0 hart)

  -- ---- the ECALL
  perform_on : (call : Call) (hart : Hart) (c t : ℕ) → lead.rows t ≡ 0 → Ahead lead (finish_call c t (perform call hart c t p)) (finish_call c t (perform call hart c t q))
  perform_on call hart c t z = finish_by (perform_by call hart c t z) c t z

  ask_by : (c t : ℕ) → lead.rows t ≡ 0 → Ahead lead (ask_oob c t p) (ask_oob c t q)
  unfolding ask_oob
  ask_by c t z = ahead_if (may_promote-same a c t) (ahead_promote a c t) (finish_by {x = refused NotPermitted p} {y = refused NotPermitted q} (a, refl) c t z)

  call_by : (stage : Option Stage) (call : Call) (hart : Hart) (c t : ℕ) → lead.rows t ≡ 0 → Ahead lead (call_on stage call hart c t p) (call_on stage call hart c t q)
  call_by None call hart c t z = perform_on call hart c t z
  call_by (Some InBand) call hart c t z =
      ahead_if (is_oob-same a (Some t)) (ahead_notify (ahead_demote a c t) DemotedByCall t) (perform_on call hart c t z)
  call_by (Some OutOfBand) call hart c t z = ahead_if (is_oob-same a (Some t)) (perform_on call hart c t z) (ask_by c t z)

  call_in : (o : Option Call) (hart : Hart) (c t : ℕ) → lead.rows t ≡ 0 → Ahead lead (call_known o hart c t p) (call_known o hart c t q)
  call_in None hart c t z = finish_by {x = refused NoSuchCall p} {y = refused NoSuchCall q} (a, refl) c t z
  call_in (Some call) hart c t z = call_by (call_stage call) call hart c t z

  call_with : (o : Option Hart) (c t : ℕ) → lead.rows t ≡ 0 → Ahead lead (call_of_hart o c t p) (call_of_hart o c t q)
  call_with None c t z = a
  call_with (Some hart) c t z =
      let known : offered p.profile (call_of (register_of hart.regs A7)) ≡ offered q.profile (call_of (register_of hart.regs A7)) = ap (λ (x : Parts). offered x.profile (call_of (register_of hart.regs A7))) a.same in
      rw (← known) (call_in (offered p.profile (call_of (register_of hart.regs A7))) hart c t z)

pub ahead_call : {lead : HeadStart} {p q : Parts} → Ahead lead p q → (c t : ℕ) → lead.rows t ≡ 0 → Ahead lead (call c t p) (call c t q)
unfolding call
ahead_call {p = p} {q = q} a c t z =
    rw (← hart-same a t z) (call_with a (slice_get p.harts t) c t z)
