-- What line 0 does on alike parts: deadlines end waits, timers expire, a slice is spent and the watchdog counts.
use Rattle.std.proofs.Common.{◌≡◌, ℕ, zero, suc, ◌+◌, ◌-◌, not, ◌&&◌, Option, Some, None, length, refl, ap}
use Rattle.std.specs.Prelude.{slice_get, nat_le, ◌==◌}
use Rattle.evm_model.specs.Current.{current, differs}
use Rattle.evm_model.specs.Deadlines.{next_due, end_wait_for, end_wait_in, end_wait_of, end_wait, end_next, end_rounds, end_waits}
use Rattle.evm_model.specs.Errnos.{refusal_answer}
use Rattle.evm_model.specs.Settle.{spend, play_tick}
use Rattle.evm_model.specs.State.{Parts}
use Rattle.evm_model.specs.Tasks.{spend_slice, spend_task}
use Rattle.evm_model.specs.Timers.{taken, is_due_timer, expired, expire_to, expire_known, expire, expire_below, expire_timers}
use Rattle.evm_model.specs.Waits.{first_waiter}
use Rattle.evm_model.specs.Watch.{or_zero, watch, overrun, watch_task, watch_was, rest_watch}
use Rattle.evm_model.specs.declared.errno.Errno.TheVariants.{TimedOut}
use Rattle.evm_model.specs.declared.limits.TheConstants.{SLICE}
use Rattle.evm_model.specs.declared.notice.NoticeKind.TheVariants.{Overran}
use Rattle.evm_model.specs.declared.stage.Stage.TheVariants.{InBand}
use Rattle.evm_model.specs.declared.task.Task.{Task}
use Rattle.evm_model.specs.declared.task.TaskState.{TaskState}
use Rattle.evm_model.specs.declared.task.TaskState.TheVariants.{InReady, Waits}
use Rattle.evm_model.specs.declared.task.Wait.{Wait}
use Rattle.evm_model.specs.declared.task.Wait.TheVariants.{Event, Sleep, Timer as For}
use Rattle.evm_model.specs.declared.timer.Timer.{Timer}
use Rattle.law_runs.specs.Alike.{Alike}
use Rattle.law_runs.proofs.Alike.Changing.{alike_if, alike_timer, alike_watch}
use Rattle.law_runs.proofs.Alike.Devices.{alike_arrive}
use Rattle.law_runs.proofs.Alike.Reading.{at_task, profile-same, ticks-same, timers-same, watches-same, task_count-same, is_oob-same, current-same, may_run_oob-same, first_waiter-same, next_due-same}
use Rattle.law_runs.proofs.Alike.Stamping.{alike_restamp}
use Rattle.law_runs.proofs.Alike.Tasks.{alike_state, alike_slice, alike_notify, alike_wake, alike_reacquire}

-- ---- deadlines
module _ {p q : Parts} (a : Alike p q) where
  alike_end_wait_for : (wait : Wait) (t : ℕ) → Alike (end_wait_for wait t p) (end_wait_for wait t q)
  alike_end_wait_for Sleep t = alike_wake a t 0
  alike_end_wait_for (Event e) t = alike_reacquire a e t (refusal_answer TimedOut)
  alike_end_wait_for _ t = alike_wake a t (refusal_answer TimedOut)

  alike_end_wait_in : (state : TaskState) (t : ℕ) → Alike (end_wait_in state t p) (end_wait_in state t q)
  alike_end_wait_in (Waits wait) t = alike_end_wait_for wait t
  alike_end_wait_in _ t = a

  alike_end_wait_of : (o : Option Task) (t : ℕ) → Alike (end_wait_of o t p) (end_wait_of o t q)
  alike_end_wait_of None t = a
  alike_end_wait_of (Some task) t = alike_end_wait_in task.state t

  alike_end_wait : (t : ℕ) → Alike (end_wait t p) (end_wait t q)
  unfolding end_wait
  alike_end_wait t = rw (at_task (λ o. end_wait_of o t p) t (λ x. refl) a) (alike_end_wait_of (slice_get q.tasks t) t)

  alike_end_next : (o : Option ℕ) → Alike (end_next o p) (end_next o q)
  alike_end_next None = a
  alike_end_next (Some t) = alike_end_wait t

alike_end_rounds : {p q : Parts} → Alike p q → (c n : ℕ) → Alike (end_rounds c n p) (end_rounds c n q)
unfolding end_rounds
alike_end_rounds a c zero = a
alike_end_rounds {p = p} {q = q} a c (suc n) =
    let rest : Alike (end_rounds c n p) (end_rounds c n q) = alike_end_rounds a c n in rw (next_due-same rest c) (alike_end_next rest (next_due c (end_rounds c n q)))

alike_end_waits : {p q : Parts} → Alike p q → (c : ℕ) → Alike (end_waits c p) (end_waits c q)
unfolding end_waits
alike_end_waits {q = q} a c = rw (task_count-same a) (alike_end_rounds a c (length q.tasks))

-- ---- timers
module _ {p q : Parts} (a : Alike p q) where
  alike_expire_to : (o : Option ℕ) (n : ℕ) (timer : Timer) → Alike (expire_to o n timer p) (expire_to o n timer q)
  alike_expire_to None n timer = alike_timer a n (λ _. timer)
  alike_expire_to (Some t) n timer = alike_wake (alike_timer a n (λ _. taken timer)) t timer.expiries

  alike_expire_known : (o : Option Timer) (c n : ℕ) → Alike (expire_known o c n p) (expire_known o c n q)
  alike_expire_known None c n = a
  alike_expire_known (Some timer) c n =
      alike_if (ap (λ now. is_due_timer c now timer) (ticks-same a))
      (rw (first_waiter-same a (For n), ap (λ now. expired now timer) (ticks-same a)) (alike_expire_to (first_waiter (For n) q) n (expired q.ticks timer))) a

  alike_expire : (c n : ℕ) → Alike (expire c n p) (expire c n q)
  unfolding expire
  alike_expire c n = rw (ap (λ timers. slice_get timers n) (timers-same a)) (alike_expire_known (slice_get q.timers n) c n)

alike_expire_below : {p q : Parts} → Alike p q → (c n : ℕ) → Alike (expire_below c n p) (expire_below c n q)
unfolding expire_below
alike_expire_below a c zero = a
alike_expire_below a c (suc n) = alike_expire (alike_expire_below a c n) c n

alike_expire_timers : {p q : Parts} → Alike p q → (c : ℕ) → Alike (expire_timers c p) (expire_timers c q)
unfolding expire_timers
alike_expire_timers {q = q} a c = rw (ap length (timers-same a)) (alike_expire_below a c (length q.timers))

-- ---- a slice
module _ {p q : Parts} (a : Alike p q) where
  alike_spend_slice : (t slice : ℕ) → Alike (spend_slice t slice p) (spend_slice t slice q)
  unfolding spend_slice
  alike_spend_slice t slice = alike_if refl (alike_restamp (alike_slice a t SLICE) t) (alike_slice a t (slice - 1))

  alike_spend_task : (o : Option Task) (t : ℕ) → Alike (spend_task o t p) (spend_task o t q)
  alike_spend_task None t = a
  alike_spend_task (Some task) t = alike_if refl (alike_spend_slice t task.slice) a

  alike_spend : (was : Option ℕ) → Alike (spend was p) (spend was q)
  unfolding spend
  alike_spend None = a
  alike_spend (Some t) = rw (at_task (λ o. spend_task o t p) t (λ x. refl) a) (alike_spend_task (slice_get q.tasks t) t)

  -- ---- the watchdog
  watch-same : (c : ℕ) → watch c p ≡ watch c q
  watch-same c = ap (λ watches. or_zero (slice_get watches c)) (watches-same a)

  alike_overrun : (c t : ℕ) → Alike (overrun c t p) (overrun c t q)
  unfolding overrun
  alike_overrun c t = alike_notify (alike_restamp (alike_state (alike_watch a c (λ _. 0)) t InReady) t) Overran t

  alike_watch_task : (c t : ℕ) → Alike (watch_task c t p) (watch_task c t q)
  alike_watch_task c t = alike_if (λ i. nat_le (profile-same a i).watchdog (watch-same c i + 1)) (alike_overrun c t) (alike_watch a c (λ n. n + 1))

  alike_watch_was : (was : Option ℕ) (c : ℕ) → Alike (watch_was was c p) (watch_was was c q)
  unfolding watch_was
  alike_watch_was None c = a
  alike_watch_was (Some t) c = alike_if (λ i. not ((profile-same a i).watchdog == 0) && may_run_oob-same a c t i) (alike_watch_task c t) a

  pub alike_rest_watch : (was : Option ℕ) (c : ℕ) → Alike (rest_watch was c p) (rest_watch was c q)
  unfolding rest_watch
  alike_rest_watch was c =
      alike_if (rw (current-same a c) (ap (λ b. b && not (differs (current c q) was)) (is_oob-same a (current c q)))) a (alike_watch a c (λ _. 0))

-- ---- a tick
pub alike_play_tick : {p q : Parts} → Alike p q → (was : Option ℕ) (c : ℕ) → Alike (play_tick was c p) (play_tick was c q)
unfolding play_tick
alike_play_tick a was c =
    alike_watch_was (alike_spend (alike_expire_timers (alike_end_waits (alike_arrive a c InBand 0) c) c) was) was c
