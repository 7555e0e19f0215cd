-- What is done to one task is a walk.
use Rattle.std.proofs.Common.{◌≡◌, ℕ, zero, suc, ◌+◌, Option, Some, None, Bool, true, false, inl, inr, refl, arith}
use Rattle.std.specs.Prelude.{slice_get, not, nat_le, ◌&&◌, ◌==◌}
use Rattle.std.proofs.lemmas.Bool.Decides.{eqb_tells, nat_tests}
use Rattle.evm_model.specs.Good.{event_of}
use Rattle.evm_model.specs.Pipes.{set_stall}
use Rattle.evm_model.specs.Notices.{asks_for, notify}
use Rattle.evm_model.specs.Ranks.{is_oob_ready, may_run_oob}
use Rattle.evm_model.specs.Settle.{current, is_oob, differs, spend}
use Rattle.evm_model.specs.State.{Parts, on_pipe, on_watch}
use Rattle.evm_model.specs.Tasks.{restamp, set_state, leave_in_band, demote, promote, is_round_robin, spend_slice, spend_task}
use Rattle.evm_model.specs.Waits.{begin_wait, wake, wake_below, is_wait_for, awaits_line}
use Rattle.evm_model.specs.Watch.{watch, overrun, watch_task, watch_was, rest_watch}
use Rattle.evm_model.specs.declared.notice.NoticeKind.TheVariants.{Overran}
use Rattle.evm_model.specs.declared.stage.Stage.{Stage}
use Rattle.evm_model.specs.declared.stage.Stage.TheVariants.{OutOfBand}
use Rattle.evm_model.specs.declared.task.Task.{Task}
use Rattle.evm_model.specs.declared.task.TaskState.{TaskState}
use Rattle.evm_model.specs.declared.task.TaskState.TheVariants.{InReady, OobReady, Waits}
use Rattle.evm_model.specs.declared.task.Wait.{Wait}
use Rattle.evm_model.specs.declared.task.Wait.TheVariants.{Line}
use Rattle.law_rules.proofs.Waiters.{wait_is}
use Rattle.law_rules.proofs.Walk.{Actor, stalls, IsOldTask, IsWatched, IsCalm, played, turns, spends, overruns, alarms, watches, wakes, marks, moves, Walk, quietly, stamped, slack, walk_if}

-- ---- the acting processor
module _ (a : Actor) (old : Parts) (n s : ℕ) (k : Parts) (w : Walk a old n s k) where
  pub stalls_stage : (stage : Stage) (b : Bool) → Walk a old n s (on_pipe a.cpu (set_stall stage b) k)
  stalls_stage stage b = quietly a old n s k _ (moves 0 (set_stall stage b) k (λ are p e. stalls stage b p)) w

  pub leaves : Walk a old n s (leave_in_band a.cpu k)
  unfolding leave_in_band
  leaves = quietly a old n s k _ (marks (λ p. record p { in_band_task = None }) k (λ p. refl)) w

-- ---- the acting task
module _ (a : Actor) (old : Parts) (n s t : ℕ) (k : Parts) (own : a.task ≡ Some t) (there : IsOldTask old k t) (w : Walk a old n s k) where
  pub goes_to : (state : TaskState) → event_of state ≡ None → Walk a old n (s + 1) (restamp t (set_state t state k))
  unfolding set_state
  goes_to state none = stamped a old n s k _ (turns t (λ task. record task { state = state }) k own (λ x. (refl, refl)) (λ x. inl none) there) w

  pub begins_wait : (wait : Wait) (deadline : ℕ) → event_of (Waits wait) ≡ None → Walk a old n (s + 1) (begin_wait t wait deadline k)
  unfolding begin_wait
  begins_wait wait deadline none = stamped a old n s k _ (turns t (λ task. record task { state = Waits wait; deadline = deadline }) k own (λ x. (refl, refl)) (λ x. inl none) there) w

  pub promotes : Walk a old n (s + 1) (promote a.cpu t k)
  unfolding promote
  promotes = leaves a old n (s + 1) _ (goes_to OobReady refl)

pub demotes : (a : Actor) (old : Parts) (n s t : ℕ) (k : Parts) → a.task ≡ Some t → IsOldTask old k t → Walk a old n s k → Walk a old n (s + 1) (demote a.cpu t k)
unfolding demote
demotes a old n s t k own there w = goes_to a old n s t (on_pipe a.cpu (set_stall OutOfBand false) k) own there (stalls_stage a old n s k w OutOfBand false) InReady refl

-- ---- a tick of a slice
module _ (a : Actor) (old : Parts) (n s : ℕ) (k : Parts) (w : Walk a old n s k) where
  one_more : Walk a old n (s + 1) k
  one_more = slack a old n n s (s + 1) k (λ g. omega arith) (λ g. omega arith) w

  spends_task : (o : Option Task) (t : ℕ) → current a.cpu old ≡ Some t → slice_get k.tasks t ≡ o → Walk a old n (s + 1) (spend_task o t k)
  spends_task None t runs e = one_more
  spends_task (Some x) t runs e =
      walk_if a old n (s + 1) (is_oob_ready x.state && is_round_robin x.class) (spend_slice t x.slice k) k (λ on. stamped a old n s k _ (spends t x k runs e on) w) (λ off. one_more)

  pub spends_of : (was : Option ℕ) → current a.cpu old ≡ was → Walk a old n (s + 1) (spend was k)
  unfolding spend
  spends_of None runs = one_more
  spends_of (Some t) runs = spends_task (slice_get k.tasks t) t runs refl

both : (p q : Bool) → (p && q) ≡ true → (p ≡ true) × (q ≡ true)
both true q h = (refl, h)
both false q h = cc

-- ---- the watchdog
module _ (a : Actor) (old : Parts) (n s : ℕ) (k : Parts) (chooses : a.chooses ≡ true) (w : Walk a old n s k) where
  slow : Walk a old n (s + 1) k
  slow = slack a old n n s (s + 1) k (λ g. omega arith) (λ g. omega arith) w

  overruns_once : (t : ℕ) → IsWatched a old t k → may_run_oob a.cpu k.tasks t ≡ true → (IsCalm a.cpu old → k.notices ≡ old.notices) → Walk a old n (s + 1) (overrun a.cpu t k)
  unfolding overrun notify restamp set_state
  overruns_once t its on fresh =
      let rested : Parts = on_watch a.cpu (λ _. 0) k in
      let its_rested : IsWatched a old t rested = record { runs = its.runs; chooses = its.chooses; guarded = its.guarded } in
      let gone : Parts = restamp t (set_state t InReady rested) in
      let its_gone : IsWatched a old t gone = record { runs = its.runs; chooses = its.chooses; guarded = its.guarded } in
      let walked : Walk a old n (s + 1) gone = stamped a old n s rested gone (overruns t rested its_rested on) (quietly a old n s k rested (watches (λ _. 0) k) w) in
      walk_if a old n (s + 1) (asks_for Overran (slice_get gone.tasks t)) _ gone (λ e. quietly a old n (s + 1) gone _ (alarms t gone its_gone fresh) walked) (λ e. walked)

  watches_task : (t : ℕ) → IsWatched a old t k → may_run_oob a.cpu k.tasks t ≡ true → (IsCalm a.cpu old → k.notices ≡ old.notices) → Walk a old n (s + 1) (watch_task a.cpu t k)
  watches_task t its on fresh =
      walk_if a old n (s + 1) (nat_le k.profile.watchdog (watch a.cpu k + 1)) _ _ (λ late. overruns_once t its on fresh)
      (λ less. slack a old n n s (s + 1) _ (λ g. omega arith) (λ g. omega arith) (quietly a old n s k _ (watches (λ m. m + 1) k) w))

  not_none : (m : ℕ) → not (m == 0) ≡ true → m ≡ 0 → ⊥
  not_none m e none = grind (arith, nat_tests)

  -- a notice only where there is none yet, if the task runs still
  pub watches_was : (was : Option ℕ) → current a.cpu old ≡ was → ((t : ℕ) → was ≡ Some t → may_run_oob a.cpu k.tasks t ≡ true → IsCalm a.cpu old → k.notices ≡ old.notices)
      → Walk a old n (s + 1) (watch_was was a.cpu k)
  unfolding watch_was
  watches_was None runs fresh = slow
  watches_was (Some t) runs fresh =
      walk_if a old n (s + 1) (not (k.profile.watchdog == 0) && may_run_oob a.cpu k.tasks t) _ k
      (λ on. let b = both (not (k.profile.watchdog == 0)) (may_run_oob a.cpu k.tasks t) on in
      watches_task t (record { runs = runs; chooses = chooses; guarded = not_none k.profile.watchdog b.0 }) b.1 (fresh t refl b.1))
      (λ off. slow)

  pub rests_watch : (was : Option ℕ) → Walk a old n s (rest_watch was a.cpu k)
  unfolding rest_watch
  rests_watch was = walk_if a old n s (is_oob (current a.cpu k) k.tasks && not (differs (current a.cpu k) was)) k _ (λ stays. w) (λ goes. quietly a old n s k _ (watches (λ _. 0) k) w)

-- ---- wakes
number_is : (m n : ℕ) → (m == n) ≡ true → m ≡ n
number_is m n e = elim (eqb_tells m n) [ inl g ↦ g.1 | inr g ↦ cc ]

-- the line is played where its waiter is
line_wakes : (a : Actor) (old : Parts) (n s l t : ℕ) (k : Parts) (o : Option Task) → slice_get k.tasks t ≡ o → awaits_line a.cpu l o ≡ true → Walk a old n s k → Walk a old n (s + 1) (wake t 0 k)
line_wakes a old n s l t k None there on w = cc
line_wakes a old n s l t k (Some task) there on w =
    let b = both (is_wait_for (Line l) task.state) (task.cpu == a.cpu) on in
    stamped a old n s k _ (wakes t 0 task (Line l) k there (wait_is (Line l) task.state refl b.0) (played l (number_is task.cpu a.cpu b.1))) w

pub wakes_below : (a : Actor) (old : Parts) (n s l m : ℕ) (k : Parts) → Walk a old n s k → Walk a old n (s + m) (wake_below a.cpu l m k)
unfolding wake_below
wakes_below a old n s l zero k w = slack a old n n s (s + 0) k (λ g. omega arith) (λ g. omega arith) w
wakes_below a old n s l (suc t) k w =
    let before : Parts = wake_below a.cpu l t k in
    let so_far : Walk a old n (s + t) before = wakes_below a old n s l t k w in
    let more : s + suc t ≡ s + t + 1 = omega arith in
    rw more (walk_if a old n (s + t + 1) (awaits_line a.cpu l (slice_get before.tasks t)) (wake t 0 before) before
    (λ on. line_wakes a old n (s + t) l t before (slice_get before.tasks t) refl on so_far)
    (λ off. slack a old n n (s + t) (s + t + 1) before (λ g. omega arith) (λ g. omega arith) so_far))
