-- Each call on a timer leaves the state good but for what its processor settles.
use Rattle.std.proofs.Common.{ℕ, List, Option, Some, None, length, refl}
use Rattle.std.specs.Prelude.{slice_get, nat_lt, nat_le, ◌==◌}
use Rattle.evm_model.specs.Good.{IsOwn}
use Rattle.evm_model.specs.State.{Parts}
use Rattle.evm_model.specs.Timers.{add_timer, new_timer, timer_set_known, timer_set, timer_wait_known, timer_wait}
use Rattle.evm_model.specs.declared.call.Outcome.{Outcome}
use Rattle.evm_model.specs.declared.limits.TheConstants.{TIMER_LIMIT, TIMER_SPAN_LIMIT}
use Rattle.evm_model.specs.declared.task.Wait.TheVariants.{Timer as For}
use Rattle.evm_model.specs.declared.timer.Timer.{Timer}
use Rattle.law_rules.proofs.Done.{IsDone, either, others-done, rests-done}
use Rattle.law_rules.proofs.Firsts.{IsOobOwn}
use Rattle.law_rules.proofs.Settling.{GoodBut}

module _ (c t : ℕ) (k : Parts) (g : GoodBut c k) (o : IsOwn c t k.tasks) where
  same : (outcome : Outcome) → IsDone c t (k, outcome)
  same outcome = record { but = g; own = λ v n. o }

  changed : (timers : List Timer) (outcome : Outcome) → IsDone c t (record k { timers = timers }, outcome)
  changed timers outcome = others-done c t k k.semaphores k.flags timers k.actions k.console outcome g o

  pub new_timer-done : IsDone c t (new_timer k)
  unfolding new_timer add_timer
  new_timer-done = either c t (nat_le TIMER_LIMIT (length k.timers)) _ _ (λ e. same _) (λ e. changed _ _)

  set_known-done : (x : Option Timer) (n first period : ℕ) → IsDone c t (timer_set_known x c n first period k)
  set_known-done None n first period = same _
  set_known-done (Some timer) n first period =
      either c t (nat_lt TIMER_SPAN_LIMIT first) _ _ (λ e. same _) (λ e. either c t (nat_lt TIMER_SPAN_LIMIT period) _ _ (λ e. same _) (λ e. changed _ _))

  pub timer_set-done : (n first period : ℕ) → IsDone c t (timer_set c n first period k)
  unfolding timer_set
  timer_set-done n first period = set_known-done (slice_get k.timers n) n first period

  known-done : (x : Option Timer) (n : ℕ) → IsOobOwn c t k.tasks → IsDone c t (timer_wait_known x c t n k)
  known-done None n w = same _
  known-done (Some timer) n w =
      either c t (nat_lt 0 timer.expiries) _ _ (λ e. changed _ _) (λ e. either c t (timer.due == 0) _ _ (λ e. same _) (λ e. rests-done c t k g o w (For n) 0 refl refl))

  pub timer_wait-done : (n : ℕ) → IsOobOwn c t k.tasks → IsDone c t (timer_wait c t n k)
  unfolding timer_wait
  timer_wait-done n w = known-done (slice_get k.timers n) n w
