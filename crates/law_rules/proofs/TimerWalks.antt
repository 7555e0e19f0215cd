-- One lemma a call on a timer: the call is a walk; and so is how timers expire.
use Rattle.std.proofs.Common.{◌≡◌, ℕ, zero, suc, ◌+◌, ◌<◌, ◌≤◌, true, false, Option, Some, None, length, refl, ap, ◌∙◌, arith}
use Rattle.std.specs.Prelude.{slice_get, option_map, nat_lt, nat_le, ◌==◌}
use Rattle.std.proofs.lemmas.Bool.Decides.{nat_tests}
use Rattle.evm_exec.specs.declared.hart.Hart.{Hart}
use Rattle.evm_model.specs.Harts.{argument}
use Rattle.evm_model.specs.Stages.{is_stalled, wait_refusal}
use Rattle.evm_model.specs.State.{Parts, on_timer}
use Rattle.evm_model.specs.Timers.{add_timer, new_timer, timer_set_known, timer_set, taken, timer_wait_known, timer_wait, is_due_timer, expired, expire_to, expire_known, expire, expire_below, expire_timers}
use Rattle.evm_model.specs.Waits.{first_waiter}
use Rattle.evm_model.specs.declared.limits.TheConstants.{TIMER_LIMIT, TIMER_SPAN_LIMIT}
use Rattle.evm_model.specs.declared.stage.Stage.TheVariants.{OutOfBand}
use Rattle.evm_model.specs.declared.task.Wait.TheVariants.{Timer as For}
use Rattle.evm_model.specs.declared.timer.Timer.{Timer}
use Rattle.evm_model.proofs.Lists.{change-here}
use Rattle.law_rules.proofs.LockWalks.{either, up, same, waits_unless}
use Rattle.law_rules.proofs.Waiters.{IsWaiter, first_is, wait_is}
use Rattle.law_rules.proofs.Walk.{Actor, Untouched, Makes, expired_for, wakes, sets_timer, takes_expiries, expires, adds_timer, Walk, quietly, stamped, slack, walk_if}

-- ---- timers expire
module _ (a : Actor) (old : Parts) (n s i : ℕ) (k : Parts) (w : Walk a old n s k) where
  one_more : Walk a old n (s + 1) k
  one_more = slack a old n n s (s + 1) k (λ g. omega arith) (λ g. omega arith) w

  expires_to : (o : Option ℕ) (timer : Timer) → slice_get k.timers i ≡ Some timer → is_due_timer a.cpu k.ticks timer ≡ true → first_waiter (For i) k ≡ o → Walk a old n (s + 1) (expire_to o i (expired k.ticks timer) k)
  expires_to None timer there due first = quietly a old n (s + 1) k _ (expires i timer false k there due) one_more
  expires_to (Some u) timer there due first =
      let emptied : Parts = on_timer i (λ _. taken (expired k.ticks timer)) k in
      let waiter : IsWaiter (For i) u k = first_is (For i) u k first in
      let now : slice_get emptied.timers i ≡ Some (taken (expired k.ticks timer)) = change-here (λ (_ : Timer). taken (expired k.ticks timer)) k.timers i ∙ ap (option_map (λ (_ : Timer). taken (expired k.ticks timer))) there in
      stamped a old n s emptied _
      (wakes u (expired k.ticks timer).expiries waiter.task (For i) emptied waiter.there (wait_is (For i) waiter.task.state refl waiter.on) (expired_for i timer due now))
      (quietly a old n s k emptied (expires i timer true k there due) w)

  expires_known : (o : Option Timer) → slice_get k.timers i ≡ o → Walk a old n (s + 1) (expire_known o a.cpu i k)
  expires_known None there = one_more
  expires_known (Some timer) there =
      walk_if a old n (s + 1) (is_due_timer a.cpu k.ticks timer) _ k (λ due. expires_to (first_waiter (For i) k) timer there due refl) (λ e. one_more)

  expires_one : Walk a old n (s + 1) (expire a.cpu i k)
  unfolding expire
  expires_one = expires_known (slice_get k.timers i) refl

module _ (a : Actor) (old : Parts) (n : ℕ) where
  expires_below : (i s : ℕ) (k : Parts) → Walk a old n s k → Walk a old n (s + i) (expire_below a.cpu i k)
  unfolding expire_below
  expires_below zero s k w = slack a old n n s (s + 0) k (λ p. omega arith) (λ p. omega arith) w
  expires_below (suc i) s k w =
      let before : Parts = expire_below a.cpu i k in
      let more : s + suc i ≡ s + i + 1 = omega arith in
      rw more (expires_one a old n (s + i) i before (expires_below i s k w))

  pub expires_all : (s : ℕ) (k : Parts) → Walk a old n s k → Walk a old n (s + length k.timers) (expire_timers a.cpu k)
  unfolding expire_timers
  expires_all s k w = expires_below (length k.timers) s k w

-- ---- the calls
module _ (a : Actor) (old k : Parts) (t : ℕ) (own : a.task ≡ Some t) (fresh : Untouched old k) (w : Walk a old 0 0 k) where
  none : Walk a old 1 64 k
  none = same a old k t own fresh w

  pub makes_timer : Walk a old 1 64 (new_timer k).0
  unfolding new_timer add_timer
  makes_timer =
      either a old (nat_le TIMER_LIMIT (length k.timers)) _ _ (λ e. none)
      (λ e. let room : length k.timers < TIMER_LIMIT = grind (arith, nat_tests) in
      up a old k t own fresh w 0 0 _ (omega arith) (omega arith) (quietly a old 0 0 k _ (adds_timer t k own fresh room) w))

  module _ (x : Hart) where
    sets_known : (o : Option Timer) → Makes a old 48 x → Walk a old 1 64 (timer_set_known o a.cpu (argument 0 x) (argument 1 x) (argument 2 x) k).0
    sets_known None call = none
    sets_known (Some timer) call =
        either a old (nat_lt TIMER_SPAN_LIMIT (argument 1 x)) _ _ (λ e. none) (λ small. either a old (nat_lt TIMER_SPAN_LIMIT (argument 2 x)) _ _ (λ e. none)
        (λ short. let first : argument 1 x ≤ TIMER_SPAN_LIMIT = grind (arith, nat_tests) in
        let period : argument 2 x ≤ TIMER_SPAN_LIMIT = grind (arith, nat_tests) in
        up a old k t own fresh w 0 0 _ (omega arith) (omega arith) (quietly a old 0 0 k _ (sets_timer (argument 0 x) (argument 1 x) (argument 2 x) x k call refl first period fresh) w)))

    pub sets : Makes a old 48 x → Walk a old 1 64 (timer_set a.cpu (argument 0 x) (argument 1 x) (argument 2 x) k).0
    unfolding timer_set
    sets call = sets_known (slice_get k.timers (argument 0 x)) call

    waits_known : (o : Option Timer) → Makes a old 49 x → Walk a old 1 64 (timer_wait_known o a.cpu t (argument 0 x) k).0
    waits_known None call = none
    waits_known (Some timer) call =
        either a old (nat_lt 0 timer.expiries) _ _
        (λ e. up a old k t own fresh w 0 0 _ (omega arith) (omega arith) (quietly a old 0 0 k _ (takes_expiries (argument 0 x) x k call refl fresh) w))
        (λ e. either a old (timer.due == 0) _ _ (λ e. none) (λ e. waits_unless a old k t own fresh w (wait_refusal (is_stalled OutOfBand a.cpu k) None k.ticks 0) (For (argument 0 x)) 0 refl))

    pub waits_timer : Makes a old 49 x → Walk a old 1 64 (timer_wait a.cpu t (argument 0 x) k).0
    unfolding timer_wait
    waits_timer call = waits_known (slice_get k.timers (argument 0 x)) call
