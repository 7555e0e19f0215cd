-- Settling looks at no clock where no time is named: nothing is due.
use Rattle.std.proofs.Common.{◌≡◌, ℕ, zero, suc, ◌+◌, ◌-◌, ◌^◌, List, [], ◌∷◌, Bool, false, not, ◌&&◌, Option, Some, None, length, refl, ap, ◌∙◌}
use Rattle.std.specs.Prelude.{slice_get, nat_le, nat_lt, ◌==◌}
use Rattle.evm_model.specs.Actions.{act, action_at}
use Rattle.evm_model.specs.Current.{current, is_oob, differs}
use Rattle.evm_model.specs.Deadlines.{deadline, deadline_of, is_due_task, is_due, next_due, end_next, end_rounds, end_waits}
use Rattle.evm_model.specs.Notices.{notify}
use Rattle.evm_model.specs.Pipes.{Pipe, arrive, play}
use Rattle.evm_model.specs.Ranks.{first, is_oob_ready, may_run_oob}
use Rattle.evm_model.specs.Settle.{spend, play_tick, play_oob, play_in_band, play_oob_lines, play_in_band_lines, run_best, settle_oob_pipe, settle_oob, run_in_band, play_in_band_pipe, turn_in_band, settle_in_band, settle, nudge, settle_and_nudge}
use Rattle.evm_model.specs.State.{Parts, on_pipe, on_watch}
use Rattle.evm_model.specs.Tasks.{restamp, is_round_robin, spend_slice, spend_task}
use Rattle.evm_model.specs.Timers.{is_due_timer, expire_known, expire, expire_below, expire_timers}
use Rattle.evm_model.specs.Waits.{awaits_line, wake_waiter, wake_below}
use Rattle.evm_model.specs.Watch.{watch, overrun, watch_task, watch_was, rest_watch}
use Rattle.evm_model.specs.declared.action.Action.{Action}
use Rattle.evm_model.specs.declared.action.Action.TheVariants.{Nothing, Puts, Posts}
use Rattle.evm_model.specs.declared.limits.TheConstants.{FLAG_BITS, SLICE}
use Rattle.evm_model.specs.declared.notice.NoticeKind.TheVariants.{Overran}
use Rattle.evm_model.specs.declared.stage.Stage.TheVariants.{OutOfBand, InBand}
use Rattle.evm_model.specs.declared.task.Task.{Task}
use Rattle.evm_model.specs.declared.task.TaskState.TheVariants.{InReady}
use Rattle.evm_model.specs.declared.timer.Timer.{Timer}
use Rattle.law_runs.specs.Timeless.{timeless, expiry_of, HasNoTimes}
use Rattle.law_runs.proofs.Alike.Timeless.{Clockless, at_once, onward, clockless_if, clockless_notify}
use Rattle.law_runs.proofs.Alike.TimelessTasks.{clockless_restamp, clockless_state, clockless_slice, clockless_wake, done_sem_put, clockless_post}

-- ---- nothing is due
first_none : (member : ℕ → Bool) (rank stamp : ℕ → ℕ) (n : ℕ) → ((t : ℕ) → member t ≡ false) → first member rank stamp n ≡ None
unfolding first
first_none member rank stamp zero e = refl
first_none member rank stamp (suc n) e = rw (e n) (first_none member rank stamp n e)

not_due_task : (c now : ℕ) (o : Option Task) → deadline_of o ≡ 0 → is_due_task c now o ≡ false
not_due_task c now None e = refl
not_due_task c now (Some task) e = ap (λ n. not (n == 0) && (nat_le n now && task.cpu == c)) e

not_due_timer : (c now : ℕ) (timer : Timer) → timer.due ≡ 0 → is_due_timer c now timer ≡ false
not_due_timer c now timer e = ap (λ n. not (n == 0) && (nat_le n now && timer.cpu == c)) e

module _ (p : Parts) (h : HasNoTimes p) where
  none_next : (c : ℕ) → next_due c p ≡ None
  unfolding next_due
  none_next c = first_none (is_due c p.ticks p.tasks) (λ _. 0) (deadline p.tasks) (length p.tasks) (λ t. not_due_task c p.ticks (slice_get p.tasks t) (h.no_deadline t))

  no_wait_ends : (c n : ℕ) → end_rounds c n p ≡ p
  unfolding end_rounds
  no_wait_ends c zero = refl
  no_wait_ends c (suc n) = ap (λ x. end_next (next_due c x) x) (no_wait_ends c n) ∙ ap (λ o. end_next o p) (none_next c)

  not_expired : (o : Option Timer) (c n : ℕ) → expiry_of o ≡ 0 → expire_known o c n p ≡ p
  not_expired None c n e = refl
  not_expired (Some timer) c n e = rw (not_due_timer c p.ticks timer e) refl

  none_expires : (c n : ℕ) → expire_below c n p ≡ p
  unfolding expire_below expire
  none_expires c zero = refl
  none_expires c (suc n) = ap (expire c n) (none_expires c n) ∙ not_expired (slice_get p.timers n) c n (h.no_timer n)

  nothing_due : (c : ℕ) → expire_timers c (end_waits c p) ≡ p
  unfolding expire_timers end_waits
  nothing_due c = ap (expire_timers c) (no_wait_ends c (length p.tasks)) ∙ none_expires c (length p.timers)

-- ---- a tick
module _ (p : Parts) (h : HasNoTimes p) where
  clockless_spend_slice : (t slice : ℕ) → Clockless (spend_slice t slice p) (spend_slice t slice (timeless p))
  unfolding spend_slice
  clockless_spend_slice t slice = clockless_if (nat_le slice 1) (onward (restamp t) (clockless_slice p h t SLICE) (λ q k. clockless_restamp q k t)) (clockless_slice p h t (slice - 1))

  clockless_spend_task : (o : Option Task) (t : ℕ) → Clockless (spend_task o t p) (spend_task o t (timeless p))
  clockless_spend_task None t = at_once h
  clockless_spend_task (Some task) t = clockless_if (is_oob_ready task.state && is_round_robin task.class) (clockless_spend_slice t task.slice) (at_once h)

  clockless_spend : (was : Option ℕ) → Clockless (spend was p) (spend was (timeless p))
  unfolding spend
  clockless_spend None = at_once h
  clockless_spend (Some t) = clockless_spend_task (slice_get p.tasks t) t

  clockless_overrun : (c t : ℕ) → Clockless (overrun c t p) (overrun c t (timeless p))
  unfolding overrun
  clockless_overrun c t =
      onward (notify Overran t) (onward (restamp t) (clockless_state (on_watch c (λ _. 0) p) h t InReady) (λ q k. clockless_restamp q k t)) (λ q k. clockless_notify q k Overran t)

  clockless_watch_task : (c t : ℕ) → Clockless (watch_task c t p) (watch_task c t (timeless p))
  clockless_watch_task c t = clockless_if (nat_le p.profile.watchdog (watch c p + 1)) (clockless_overrun c t) (at_once h)

  clockless_watch : (was : Option ℕ) (c : ℕ) → Clockless (watch_was was c p) (watch_was was c (timeless p))
  unfolding watch_was
  clockless_watch None c = at_once h
  clockless_watch (Some t) c = clockless_if (not (p.profile.watchdog == 0) && may_run_oob c p.tasks t) (clockless_watch_task c t) (at_once h)

  clockless_rest : (was : Option ℕ) (c : ℕ) → Clockless (rest_watch was c p) (rest_watch was c (timeless p))
  unfolding rest_watch
  clockless_rest was c = clockless_if (is_oob (current c p) p.tasks && not (differs (current c p) was)) (at_once h) (at_once h)

clockless_play_tick : (p : Parts) → HasNoTimes p → (was : Option ℕ) (c : ℕ) → Clockless (play_tick was c p) (play_tick was c (timeless p))
unfolding play_tick
clockless_play_tick p h was c =
    let q : Parts = on_pipe c (arrive InBand 0) p in
    rw (nothing_due q h c, nothing_due (timeless q) h c) (onward (watch_was was c) (clockless_spend q h was) (λ r k. clockless_watch r k was c))

-- ---- lines are played
module _ (p : Parts) (h : HasNoTimes p) where
  clockless_act : (action : Action) (l : ℕ) → Clockless (act action l p) (act action l (timeless p))
  unfolding act
  clockless_act Nothing l = at_once h
  clockless_act (Puts s) l = (done_sem_put p h s).0
  clockless_act (Posts f) l = clockless_if (nat_lt l FLAG_BITS) (clockless_post p h f (2 ^ l)) (at_once h)

  clockless_wake_waiter : (c l t : ℕ) → Clockless (wake_waiter c l t p) (wake_waiter c l t (timeless p))
  clockless_wake_waiter c l t = clockless_if (awaits_line c l (slice_get p.tasks t)) (clockless_wake p h t 0) (at_once h)

module _ (p : Parts) (h : HasNoTimes p) where
  clockless_play_oob : (was : Option ℕ) (c l : ℕ) → Clockless (play_oob was c l p) (play_oob was c l (timeless p))
  unfolding play_oob
  clockless_play_oob was c l = let q : Parts = on_pipe c (play OutOfBand l) p in clockless_if (l == 0) (clockless_play_tick q h was c) (clockless_act q h (action_at l p) l)

  clockless_wake_below : (c l t : ℕ) → Clockless (wake_below c l t p) (wake_below c l t (timeless p))
  unfolding wake_below
  clockless_wake_below c l zero = at_once h
  clockless_wake_below c l (suc t) = onward (wake_waiter c l t) (clockless_wake_below c l t) (λ q k. clockless_wake_waiter q k c l t)

clockless_play_in_band : (p : Parts) → HasNoTimes p → (c l : ℕ) → Clockless (play_in_band c l p) (play_in_band c l (timeless p))
unfolding play_in_band
clockless_play_in_band p h c l = clockless_wake_below (on_pipe c (play InBand l) p) h c l (length p.tasks)

clockless_oob_lines : (was : Option ℕ) (c : ℕ) (lines : List ℕ) {x y : Parts} → Clockless x y → Clockless (play_oob_lines was c lines x) (play_oob_lines was c lines y)
unfolding play_oob_lines
clockless_oob_lines was c [] s = s
clockless_oob_lines was c (l ∷ lines) s = clockless_oob_lines was c lines (onward (play_oob was c l) s (λ p h. clockless_play_oob p h was c l))

clockless_in_band_lines : (c : ℕ) (lines : List ℕ) {x y : Parts} → Clockless x y → Clockless (play_in_band_lines c lines x) (play_in_band_lines c lines y)
unfolding play_in_band_lines
clockless_in_band_lines c [] s = s
clockless_in_band_lines c (l ∷ lines) s = clockless_in_band_lines c lines (onward (play_in_band c l) s (λ p h. clockless_play_in_band p h c l))

-- ---- a processor settles
module _ (p : Parts) (h : HasNoTimes p) where
  clockless_oob_pipe : (o : Option Pipe) (was : Option ℕ) (c : ℕ) → Clockless (settle_oob_pipe o was c p) (settle_oob_pipe o was c (timeless p))
  clockless_oob_pipe None was c = at_once h
  clockless_oob_pipe (Some pipe) was c = clockless_if pipe.oob.stalled (at_once h) (onward (run_best c) (clockless_oob_lines was c pipe.oob.lines (at_once h)) (λ q k. at_once k))

  clockless_settle_oob : (was : Option ℕ) (c : ℕ) → Clockless (settle_oob was c p) (settle_oob was c (timeless p))
  unfolding settle_oob
  clockless_settle_oob was c = clockless_oob_pipe (slice_get p.pipes c) was c

  clockless_in_band_pipe : (o : Option Pipe) (c : ℕ) → Clockless (play_in_band_pipe o c p) (play_in_band_pipe o c (timeless p))
  clockless_in_band_pipe None c = at_once h
  clockless_in_band_pipe (Some pipe) c = clockless_if pipe.in_band.stalled (at_once h) (clockless_in_band_lines c pipe.in_band.lines (at_once h))

  clockless_turn : (c : ℕ) → Clockless (turn_in_band c p) (turn_in_band c (timeless p))
  unfolding turn_in_band
  clockless_turn c = onward (run_in_band c) (clockless_in_band_pipe (slice_get p.pipes c) c) (λ q k. at_once k)

  clockless_settle_in_band : (c : ℕ) → Clockless (settle_in_band c p) (settle_in_band c (timeless p))
  unfolding settle_in_band
  clockless_settle_in_band c = clockless_if (is_oob (current c p) p.tasks) (at_once h) (clockless_turn c)

  clockless_nudge : (c : ℕ) → Clockless (nudge c p) (nudge c (timeless p))
  unfolding nudge
  clockless_nudge c = at_once h

module _ (p : Parts) (h : HasNoTimes p) where
  clockless_settle : (was : Option ℕ) (c : ℕ) → Clockless (settle was c p) (settle was c (timeless p))
  unfolding settle
  clockless_settle was c = onward (rest_watch was c) (onward (settle_in_band c) (clockless_settle_oob p h was c) (λ q k. clockless_settle_in_band q k c)) (λ q k. clockless_rest q k was c)

  pub clockless_settle_and_nudge : (was : Option ℕ) (c : ℕ) → Clockless (settle_and_nudge was c p) (settle_and_nudge was c (timeless p))
  unfolding settle_and_nudge
  clockless_settle_and_nudge was c = onward (nudge c) (clockless_settle was c) (λ q k. clockless_nudge q k c)
