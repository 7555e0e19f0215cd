-- What line 0 does where tasks are ahead: deadlines end waits, timers expire, a slice is spent and the watchdog counts.
use Rattle.std.proofs.Common.{◌≡◌, ℕ, zero, suc, ◌+◌, ◌-◌, false, not, ◌&&◌, Option, Some, None, length, refl, ap}
use Rattle.std.specs.Prelude.{slice_get, nat_le, ◌==◌}
use Rattle.evm_model.specs.Current.{current, differs}
use Rattle.evm_model.specs.Deadlines.{next_due, end_wait_for, end_wait_in, end_wait_of, end_wait, end_next, end_rounds, end_waits}
use Rattle.evm_model.specs.Errnos.{refusal_answer}
use Rattle.evm_model.specs.Good.{is_ready}
use Rattle.evm_model.specs.Settle.{spend, play_tick}
use Rattle.evm_model.specs.State.{Parts}
use Rattle.evm_model.specs.Tasks.{spend_slice, spend_task}
use Rattle.evm_model.specs.Timers.{taken, is_due_timer, expired, expire_to, expire_known, expire, expire_below, expire_timers}
use Rattle.evm_model.specs.Waits.{first_waiter}
use Rattle.evm_model.specs.Watch.{or_zero, watch, overrun, watch_task, watch_was, rest_watch}
use Rattle.evm_model.specs.declared.errno.Errno.TheVariants.{TimedOut}
use Rattle.evm_model.specs.declared.limits.TheConstants.{SLICE}
use Rattle.evm_model.specs.declared.notice.NoticeKind.TheVariants.{Overran}
use Rattle.evm_model.specs.declared.stage.Stage.TheVariants.{InBand}
use Rattle.evm_model.specs.declared.task.Task.{Task}
use Rattle.evm_model.specs.declared.task.TaskState.{TaskState}
use Rattle.evm_model.specs.declared.task.TaskState.TheVariants.{InReady, Waits}
use Rattle.evm_model.specs.declared.task.Wait.{Wait}
use Rattle.evm_model.specs.declared.task.Wait.TheVariants.{Event, Sleep, Timer as For}
use Rattle.evm_model.specs.declared.timer.Timer.{Timer}
use Rattle.law_runs.specs.Ahead.{HeadStart, Ahead, has_ready_state}
use Rattle.law_runs.proofs.Alike.AheadChanging.{ahead_if, ahead_timer, ahead_watch}
use Rattle.law_runs.proofs.Alike.AheadDevices.{ahead_arrive}
use Rattle.law_runs.proofs.Alike.AheadReading.{at_task, profile-same, ticks-same, timers-same, watches-same, task_count-same, is_oob-same, current-same, may_run_oob-same, first_waiter-same, next_due-same}
use Rattle.law_runs.proofs.Alike.AheadStamping.{ahead_restamp}
use Rattle.law_runs.proofs.Alike.AheadTasks.{ahead_state, ahead_slice, ahead_notify, ahead_wake, ahead_reacquire}
use Rattle.law_runs.proofs.Alike.AheadWaiters.{IsStill, other-still, waiter-still}

-- ---- deadlines
module _ {lead : HeadStart} {p q : Parts} (a : Ahead lead p q) where
  ahead_end_wait_for : (wait : Wait) (t : ℕ) → lead.rows t ≡ 0 → Ahead lead (end_wait_for wait t p) (end_wait_for wait t q)
  ahead_end_wait_for Sleep t z = ahead_wake a t 0 z
  ahead_end_wait_for (Event e) t z = ahead_reacquire a e t (refusal_answer TimedOut) z
  ahead_end_wait_for _ t z = ahead_wake a t (refusal_answer TimedOut) z

  ahead_end_wait_in : (state : TaskState) (t : ℕ) → (is_ready state ≡ false → lead.rows t ≡ 0) → Ahead lead (end_wait_in state t p) (end_wait_in state t q)
  ahead_end_wait_in (Waits wait) t z = ahead_end_wait_for wait t (z refl)
  ahead_end_wait_in _ t z = a

  ahead_end_wait_of : (o : Option Task) (t : ℕ) → (has_ready_state o ≡ false → lead.rows t ≡ 0) → Ahead lead (end_wait_of o t p) (end_wait_of o t q)
  ahead_end_wait_of None t z = a
  ahead_end_wait_of (Some task) t z = ahead_end_wait_in task.state t z

  ahead_end_wait : (t : ℕ) → Ahead lead (end_wait t p) (end_wait t q)
  unfolding end_wait
  ahead_end_wait t = rw (at_task a (λ o. end_wait_of o t p) t) (ahead_end_wait_of (slice_get q.tasks t) t (other-still a t))

  ahead_end_next : (o : Option ℕ) → Ahead lead (end_next o p) (end_next o q)
  ahead_end_next None = a
  ahead_end_next (Some t) = ahead_end_wait t

ahead_end_rounds : {lead : HeadStart} {p q : Parts} → Ahead lead p q → (c n : ℕ) → Ahead lead (end_rounds c n p) (end_rounds c n q)
unfolding end_rounds
ahead_end_rounds a c zero = a
ahead_end_rounds {lead = lead} {p = p} {q = q} a c (suc n) =
    let rest : Ahead lead (end_rounds c n p) (end_rounds c n q) = ahead_end_rounds a c n in rw (next_due-same rest c) (ahead_end_next rest (next_due c (end_rounds c n q)))

ahead_end_waits : {lead : HeadStart} {p q : Parts} → Ahead lead p q → (c : ℕ) → Ahead lead (end_waits c p) (end_waits c q)
unfolding end_waits
ahead_end_waits {q = q} a c = rw (task_count-same a) (ahead_end_rounds a c (length q.tasks))

-- ---- timers
module _ {lead : HeadStart} {p q : Parts} (a : Ahead lead p q) where
  ahead_expire_to : (o : Option ℕ) (n : ℕ) (timer : Timer) → IsStill lead o → Ahead lead (expire_to o n timer p) (expire_to o n timer q)
  ahead_expire_to None n timer z = ahead_timer a n (λ _. timer)
  ahead_expire_to (Some t) n timer z = ahead_wake (ahead_timer a n (λ _. taken timer)) t timer.expiries (z t refl)

  ahead_expire_known : (o : Option Timer) (c n : ℕ) → Ahead lead (expire_known o c n p) (expire_known o c n q)
  ahead_expire_known None c n = a
  ahead_expire_known (Some timer) c n =
      ahead_if (ap (λ now. is_due_timer c now timer) (ticks-same a))
      (rw (first_waiter-same a (For n), ap (λ now. expired now timer) (ticks-same a)) (ahead_expire_to (first_waiter (For n) q) n (expired q.ticks timer) (waiter-still a (For n)))) a

  ahead_expire : (c n : ℕ) → Ahead lead (expire c n p) (expire c n q)
  unfolding expire
  ahead_expire c n = rw (ap (λ timers. slice_get timers n) (timers-same a)) (ahead_expire_known (slice_get q.timers n) c n)

ahead_expire_below : {lead : HeadStart} {p q : Parts} → Ahead lead p q → (c n : ℕ) → Ahead lead (expire_below c n p) (expire_below c n q)
unfolding expire_below
ahead_expire_below a c zero = a
ahead_expire_below a c (suc n) = ahead_expire (ahead_expire_below a c n) c n

ahead_expire_timers : {lead : HeadStart} {p q : Parts} → Ahead lead p q → (c : ℕ) → Ahead lead (expire_timers c p) (expire_timers c q)
unfolding expire_timers
ahead_expire_timers {q = q} a c = rw (ap length (timers-same a)) (ahead_expire_below a c (length q.timers))

-- ---- a slice
module _ {lead : HeadStart} {p q : Parts} (a : Ahead lead p q) where
  ahead_spend_slice : (t slice : ℕ) → Ahead lead (spend_slice t slice p) (spend_slice t slice q)
  unfolding spend_slice
  ahead_spend_slice t slice = ahead_if refl (ahead_restamp (ahead_slice a t SLICE) t) (ahead_slice a t (slice - 1))

  ahead_spend_task : (o : Option Task) (t : ℕ) → Ahead lead (spend_task o t p) (spend_task o t q)
  ahead_spend_task None t = a
  ahead_spend_task (Some task) t = ahead_if refl (ahead_spend_slice t task.slice) a

  ahead_spend : (was : Option ℕ) → Ahead lead (spend was p) (spend was q)
  unfolding spend
  ahead_spend None = a
  ahead_spend (Some t) = rw (at_task a (λ o. spend_task o t p) t) (ahead_spend_task (slice_get q.tasks t) t)

  -- ---- the watchdog
  watch-same : (c : ℕ) → watch c p ≡ watch c q
  watch-same c = ap (λ watches. or_zero (slice_get watches c)) (watches-same a)

  ahead_overrun : (c t : ℕ) → Ahead lead (overrun c t p) (overrun c t q)
  unfolding overrun
  ahead_overrun c t = ahead_notify (ahead_restamp (ahead_state (ahead_watch a c (λ _. 0)) t InReady refl) t) Overran t

  ahead_watch_task : (c t : ℕ) → Ahead lead (watch_task c t p) (watch_task c t q)
  ahead_watch_task c t = ahead_if (λ i. nat_le (profile-same a i).watchdog (watch-same c i + 1)) (ahead_overrun c t) (ahead_watch a c (λ n. n + 1))

  ahead_watch_was : (was : Option ℕ) (c : ℕ) → Ahead lead (watch_was was c p) (watch_was was c q)
  unfolding watch_was
  ahead_watch_was None c = a
  ahead_watch_was (Some t) c = ahead_if (λ i. not ((profile-same a i).watchdog == 0) && may_run_oob-same a c t i) (ahead_watch_task c t) a

  pub ahead_rest_watch : (was : Option ℕ) (c : ℕ) → Ahead lead (rest_watch was c p) (rest_watch was c q)
  unfolding rest_watch
  ahead_rest_watch was c =
      ahead_if (rw (current-same a c) (ap (λ b. b && not (differs (current c q) was)) (is_oob-same a (current c q)))) a (ahead_watch a c (λ _. 0))

-- ---- a tick
pub ahead_play_tick : {lead : HeadStart} {p q : Parts} → Ahead lead p q → (was : Option ℕ) (c : ℕ) → Ahead lead (play_tick was c p) (play_tick was c q)
unfolding play_tick
ahead_play_tick a was c =
    ahead_watch_was (ahead_spend (ahead_expire_timers (ahead_end_waits (ahead_arrive a c InBand 0) c) c) was) was c
