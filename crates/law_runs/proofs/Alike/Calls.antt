-- A call does alike to alike parts.
use Rattle.std.proofs.Common.{◌≡◌, ℕ, true, false, Option, Some, None, refl, ap}
use Rattle.std.specs.Prelude.{slice_get}
use Rattle.evm_exec.specs.Registers.{register_of}
use Rattle.evm_exec.specs.declared.hart.Hart.{Hart}
use Rattle.evm_model.specs.Calls.{answered, ask_oob, call, call_known, call_of, call_of_hart, call_on, call_stage, finish_call, is_weak_oob, perform, return_weak}
use Rattle.evm_model.specs.Harts.{A7, advance, answer, argument}
use Rattle.evm_model.specs.Mutexes.{owns_any}
use Rattle.evm_model.specs.Profiles.{offered}
use Rattle.evm_model.specs.Stages.{refused}
use Rattle.evm_model.specs.State.{Parts}
use Rattle.evm_model.specs.declared.call.Call.{Call}
use Rattle.evm_model.specs.declared.call.Call.TheVariants.{Exit, Putc, Yield, Spawn, Stall, Unstall, WaitLine, Attach, Detach, NewMutex, NewSemaphore, NewEvent, NewFlags, NewTimer, SetLine, SwitchOob, SwitchInBand, SetSched, SetMode, Lock, TryLock, Unlock, SemGet, SemTryGet, SemPut, EventWait, Signal, Broadcast, FlagsWait, FlagsPost, SleepUntil, TimerSet, TimerWait, YieldOob, StallOob, UnstallOob, Clock, StateBits, Migrate}
use Rattle.evm_model.specs.declared.call.Outcome.{Outcome}
use Rattle.evm_model.specs.declared.call.Outcome.TheVariants.{Returns, Blocks, Exits}
use Rattle.evm_model.specs.declared.errno.Errno.TheVariants.{NotPermitted, NoSuchCall}
use Rattle.evm_model.specs.declared.notice.NoticeKind.TheVariants.{DemotedByCall}
use Rattle.evm_model.specs.declared.stage.Stage.{Stage}
use Rattle.evm_model.specs.declared.stage.Stage.TheVariants.{OutOfBand, InBand}
use Rattle.law_runs.specs.Alike.{Alike}
use Rattle.law_runs.proofs.Alike.Changing.{AlikeDone, alike_hart, alike_if}
use Rattle.law_runs.proofs.Alike.Events.{done_broadcast, done_event_wait, done_new_event, done_signal}
use Rattle.law_runs.proofs.Alike.InBandCalls.{done_attach, done_detach, done_exit, done_putc, done_spawn, done_wait_line, done_yield}
use Rattle.law_runs.proofs.Alike.Locks.{done_lock, done_new_mutex, done_try_lock, done_unlock}
use Rattle.law_runs.proofs.Alike.Objects.{done_flags_post, done_flags_wait, done_new_flags, done_new_semaphore, done_new_timer, done_sem_get, done_sem_try_get, done_set_line, done_sleep, done_timer_set, done_timer_wait}
use Rattle.law_runs.proofs.Alike.OobCalls.{done_clock, done_migrate, done_set_mode, done_set_sched, done_stall, done_state_bits, done_switch_in_band, done_switch_oob, done_yield_oob}
use Rattle.law_runs.proofs.Alike.Reading.{at_task, is_oob-same, may_promote-same}
use Rattle.law_runs.proofs.Alike.Tasks.{done_sem_put, alike_demote, alike_notify, alike_promote}

-- ---- a call is answered
return_by : {p q : Parts} → Alike p q → (c t : ℕ) → Alike (return_weak c t p) (return_weak c t q)
unfolding return_weak
return_by {p = p} {q = q} a c t =
    let weak : is_weak_oob (slice_get p.tasks t) ≡ is_weak_oob (slice_get q.tasks t) = at_task is_weak_oob t (λ x. refl) a in
    let owns : owns_any t p.mutexes ≡ owns_any t q.mutexes = ap (λ (x : Parts). owns_any t x.mutexes) a.same in
    alike_if (rw (weak, owns) refl) (alike_demote a c t) a

answer_by : {p q : Parts} → Alike p q → (outcome : Outcome) (c t : ℕ) → Alike (answered outcome c t p) (answered outcome c t q)
answer_by a (Returns value) c t = return_by (alike_hart a t (answer value)) c t
answer_by a Blocks c t = alike_hart a t advance
answer_by a Exits c t = a

finish_by : {x y : Parts × Outcome} → AlikeDone x y → (c t : ℕ) → Alike (finish_call c t x) (finish_call c t y)
finish_by {y = y} d c t = rw d.1 (answer_by d.0 y.1 c t)

module _ {p q : Parts} (a : Alike p q) where
  perform_by : (call : Call) (hart : Hart) (c t : ℕ) → AlikeDone (perform call hart c t p) (perform call hart c t q)
  perform_by Exit hart c t = done_exit a c t
  perform_by Putc hart c t = done_putc a (argument 0 hart)
  perform_by Yield hart c t = done_yield a c t
  perform_by Spawn hart c t = done_spawn a (argument 0 hart) (argument 1 hart) (argument 2 hart)
  perform_by Stall hart c t = done_stall a InBand true c
  perform_by Unstall hart c t = done_stall a InBand false c
  perform_by WaitLine hart c t = done_wait_line a c t (argument 0 hart)
  perform_by Attach hart c t = done_attach a t (argument 0 hart) (argument 1 hart)
  perform_by Detach hart c t = done_detach a t
  perform_by NewMutex hart c t = done_new_mutex a (argument 0 hart) (argument 1 hart)
  perform_by NewSemaphore hart c t = done_new_semaphore a (argument 0 hart)
  perform_by NewEvent hart c t = done_new_event a
  perform_by NewFlags hart c t = done_new_flags a
  perform_by NewTimer hart c t = done_new_timer a
  perform_by SetLine hart c t = done_set_line a (argument 0 hart) (argument 1 hart) (argument 2 hart)
  perform_by SwitchOob hart c t = done_switch_oob a
  perform_by SwitchInBand hart c t = done_switch_in_band a c t
  perform_by SetSched hart c t = done_set_sched a (argument 0 hart) (argument 1 hart) (argument 2 hart)
  perform_by SetMode hart c t = done_set_mode a t (argument 0 hart)
  perform_by Lock hart c t = done_lock a c t (argument 0 hart) (argument 1 hart)
  perform_by TryLock hart c t = done_try_lock a t (argument 0 hart)
  perform_by Unlock hart c t = done_unlock a t (argument 0 hart)
  perform_by SemGet hart c t = done_sem_get a c t (argument 0 hart) (argument 1 hart)
  perform_by SemTryGet hart c t = done_sem_try_get a (argument 0 hart)
  perform_by SemPut hart c t = done_sem_put a (argument 0 hart)
  perform_by EventWait hart c t = done_event_wait a c t (argument 0 hart) (argument 1 hart) (argument 2 hart)
  perform_by Signal hart c t = done_signal a (argument 0 hart)
  perform_by Broadcast hart c t = done_broadcast a (argument 0 hart)
  perform_by FlagsWait hart c t = done_flags_wait a c t (argument 0 hart) (argument 1 hart)
  perform_by FlagsPost hart c t = done_flags_post a (argument 0 hart) (argument 1 hart)
  perform_by SleepUntil hart c t = done_sleep a c t (argument 0 hart)
  perform_by TimerSet hart c t = done_timer_set a c (argument 0 hart) (argument 1 hart) (argument 2 hart)
  perform_by TimerWait hart c t = done_timer_wait a c t (argument 0 hart)
  perform_by YieldOob hart c t = done_yield_oob a t
  perform_by StallOob hart c t = done_stall a OutOfBand true c
  perform_by UnstallOob hart c t = done_stall a OutOfBand false c
  perform_by Clock hart c t = done_clock a
  perform_by StateBits hart c t = done_state_bits a c t
  perform_by Migrate hart c t = done_migrate a c t (argument 0 hart)

  -- ---- the ECALL
  perform_on : (call : Call) (hart : Hart) (c t : ℕ) → Alike (finish_call c t (perform call hart c t p)) (finish_call c t (perform call hart c t q))
  perform_on call hart c t = finish_by (perform_by call hart c t) c t

  ask_by : (c t : ℕ) → Alike (ask_oob c t p) (ask_oob c t q)
  unfolding ask_oob
  ask_by c t = alike_if (may_promote-same a c t) (alike_promote a c t) (finish_by {x = refused NotPermitted p} {y = refused NotPermitted q} (a, refl) c t)

  call_by : (stage : Option Stage) (call : Call) (hart : Hart) (c t : ℕ) → Alike (call_on stage call hart c t p) (call_on stage call hart c t q)
  call_by None call hart c t = perform_on call hart c t
  call_by (Some InBand) call hart c t =
      alike_if (is_oob-same a (Some t)) (alike_notify (alike_demote a c t) DemotedByCall t) (perform_on call hart c t)
  call_by (Some OutOfBand) call hart c t = alike_if (is_oob-same a (Some t)) (perform_on call hart c t) (ask_by c t)

  call_in : (o : Option Call) (hart : Hart) (c t : ℕ) → Alike (call_known o hart c t p) (call_known o hart c t q)
  call_in None hart c t = finish_by {x = refused NoSuchCall p} {y = refused NoSuchCall q} (a, refl) c t
  call_in (Some call) hart c t = call_by (call_stage call) call hart c t

  call_with : (o : Option Hart) (c t : ℕ) → Alike (call_of_hart o c t p) (call_of_hart o c t q)
  call_with None c t = a
  call_with (Some hart) c t =
      let known : offered p.profile (call_of (register_of hart.regs A7)) ≡ offered q.profile (call_of (register_of hart.regs A7)) = ap (λ (x : Parts). offered x.profile (call_of (register_of hart.regs A7))) a.same in
      rw (← known) (call_in (offered p.profile (call_of (register_of hart.regs A7))) hart c t)

pub alike_call : {p q : Parts} → Alike p q → (c t : ℕ) → Alike (call c t p) (call c t q)
unfolding call
alike_call {p = p} {q = q} a c t =
    let there : slice_get p.harts t ≡ slice_get q.harts t = ap (λ (x : Parts). slice_get x.harts t) a.same in
    rw (← there) (call_with a (slice_get p.harts t) c t)
