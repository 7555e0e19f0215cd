-- The waits whose deadlines have come end: a walk; and so is the sleep.
use Rattle.std.proofs.Common.{◌≡◌, ℕ, zero, suc, ◌+◌, true, false, Option, Some, None, length, refl, arith}
use Rattle.std.specs.Prelude.{slice_get, nat_le, not, ◌==◌, ◌&&◌}
use Rattle.std.proofs.lemmas.Bool.Decides.{nat_tests}
use Rattle.evm_model.specs.Deadlines.{sleep_until, deadline, is_due_task, is_due, next_due, end_wait_for, end_wait_in, end_wait_of, end_wait, end_next, end_rounds, end_waits}
use Rattle.evm_model.specs.Stages.{is_stalled, wait_refusal}
use Rattle.evm_model.specs.State.{Parts}
use Rattle.evm_model.specs.declared.stage.Stage.TheVariants.{OutOfBand}
use Rattle.evm_model.specs.declared.task.Task.{Task}
use Rattle.evm_model.specs.declared.task.TaskState.{TaskState}
use Rattle.evm_model.specs.declared.task.TaskState.TheVariants.{Waits}
use Rattle.evm_model.specs.declared.task.Wait.{Wait}
use Rattle.evm_model.specs.declared.task.Wait.TheVariants.{Line, Lock, Reacquire, Semaphore, Event, Flags, Sleep, Timer}
use Rattle.law_rules.proofs.EventWalks.{ends_event}
use Rattle.law_rules.proofs.LockWalks.{either, same, waits_unless}
use Rattle.law_rules.proofs.Waiters.{first-member}
use Rattle.law_rules.proofs.Walk.{Actor, Untouched, IsLate, late, is_event, late_answer, timed_out, wakes, Walk, stamped, slack}

-- ---- who is due
late_if : (a : Actor) (k : Parts) (x : Task) → (not (x.deadline == 0) && (nat_le x.deadline k.ticks && x.cpu == a.cpu)) ≡ true → IsLate a x k
late_if a k x h = record {
  set = λ e. grind (arith, nat_tests);
  come = grind (arith, nat_tests);
  home = grind (arith, nat_tests);
}

module _ (a : Actor) (old : Parts) (n s : ℕ) (k : Parts) (w : Walk a old n s k) where
  one_more : Walk a old n (s + 1) k
  one_more = slack a old n n s (s + 1) k (λ g. omega arith) (λ g. omega arith) w

  module _ (t : ℕ) (x : Task) (there : slice_get k.tasks t ≡ Some x) (is : IsLate a x k) where
    ends_plain : (wait : Wait) → is_event wait ≡ false → x.state ≡ Waits wait → Walk a old n (s + 1) (end_wait_for wait t k)
    ends_plain Sleep plain on = stamped a old n s k _ (wakes t (late_answer Sleep) x Sleep k there on (timed_out Sleep refl is)) w
    ends_plain (Line l) plain on = stamped a old n s k _ (wakes t (late_answer (Line l)) x (Line l) k there on (timed_out (Line l) refl is)) w
    ends_plain (Lock m) plain on = stamped a old n s k _ (wakes t (late_answer (Lock m)) x (Lock m) k there on (timed_out (Lock m) refl is)) w
    ends_plain (Reacquire m answer) plain on = stamped a old n s k _ (wakes t (late_answer (Reacquire m answer)) x (Reacquire m answer) k there on (timed_out (Reacquire m answer) refl is)) w
    ends_plain (Semaphore m) plain on = stamped a old n s k _ (wakes t (late_answer (Semaphore m)) x (Semaphore m) k there on (timed_out (Semaphore m) refl is)) w
    ends_plain (Flags f) plain on = stamped a old n s k _ (wakes t (late_answer (Flags f)) x (Flags f) k there on (timed_out (Flags f) refl is)) w
    ends_plain (Timer m) plain on = stamped a old n s k _ (wakes t (late_answer (Timer m)) x (Timer m) k there on (timed_out (Timer m) refl is)) w
    ends_plain (Event e) plain on = cc

    ends_for : (wait : Wait) → x.state ≡ Waits wait → Walk a old n (s + 1) (end_wait_for wait t k)
    ends_for (Event e) on = ends_event a old n s t e _ x k there on (late is) w
    ends_for wait on = ends_plain wait refl on

    ends_in : (state : TaskState) → x.state ≡ state → Walk a old n (s + 1) (end_wait_in state t k)
    ends_in (Waits wait) on = ends_for wait on
    ends_in _ on = one_more

  ends_of : (o : Option Task) (t : ℕ) → slice_get k.tasks t ≡ o → is_due_task a.cpu k.ticks o ≡ true → Walk a old n (s + 1) (end_wait_of o t k)
  ends_of None t there due = cc
  ends_of (Some x) t there due = ends_in t x there (late_if a k x due) x.state refl

  ends_next : (o : Option ℕ) → next_due a.cpu k ≡ o → Walk a old n (s + 1) (end_next o k)
  unfolding next_due end_wait
  ends_next None is = one_more
  ends_next (Some t) is = ends_of (slice_get k.tasks t) t refl (first-member (is_due a.cpu k.ticks k.tasks) (λ _. 0) (deadline k.tasks) (length k.tasks) t is).1

module _ (a : Actor) (old : Parts) (n : ℕ) where
  ends_rounds : (rounds s : ℕ) (k : Parts) → Walk a old n s k → Walk a old n (s + rounds) (end_rounds a.cpu rounds k)
  unfolding end_rounds
  ends_rounds zero s k w = slack a old n n s (s + 0) k (λ p. omega arith) (λ p. omega arith) w
  ends_rounds (suc rounds) s k w =
      let before : Parts = end_rounds a.cpu rounds k in
      let more : s + suc rounds ≡ s + rounds + 1 = omega arith in
      rw more (ends_next a old n (s + rounds) before (ends_rounds rounds s k w) (next_due a.cpu before) refl)

  pub ends_waits : (s : ℕ) (k : Parts) → Walk a old n s k → Walk a old n (s + length k.tasks) (end_waits a.cpu k)
  unfolding end_waits
  ends_waits s k w = ends_rounds (length k.tasks) s k w

-- ---- the call
module _ (a : Actor) (old k : Parts) (t : ℕ) (own : a.task ≡ Some t) (fresh : Untouched old k) (w : Walk a old 0 0 k) where
  pub sleeps : (until : ℕ) → Walk a old 1 64 (sleep_until a.cpu t until k).0
  unfolding sleep_until
  sleeps until =
      either a old (nat_le until k.ticks) _ _ (λ e. same a old k t own fresh w)
      (λ e. waits_unless a old k t own fresh w (wait_refusal (is_stalled OutOfBand a.cpu k) None k.ticks until) Sleep until refl)
