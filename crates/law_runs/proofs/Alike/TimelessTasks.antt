-- What is done to one task, to a mutex and to those that wait looks at no clock, and names no time.
use Rattle.std.proofs.Common.{ℕ, zero, suc, false, Option, Some, None, length, refl}
use Rattle.std.specs.Prelude.{slice_get, bit_or, nat_le}
use Rattle.evm_model.specs.Boosts.{is_number}
use Rattle.evm_model.specs.Events.{reacquire_from, reacquire_of, bound, reacquire}
use Rattle.evm_model.specs.Flags.{post_to, post_known, post}
use Rattle.evm_model.specs.Mutexes.{owner, owns_any, held_by}
use Rattle.evm_model.specs.Passing.{hand_over_to, hand_over, hand_over_if, hand_over_below, end_task}
use Rattle.evm_model.specs.Pipes.{set_stall}
use Rattle.evm_model.specs.Semaphores.{sem_put_to, sem_put_known, sem_put}
use Rattle.evm_model.specs.State.{Parts, no_mode, on_pipe, on_mutex, on_flags}
use Rattle.evm_model.specs.Tasks.{restamp, set_state, leave_in_band, demote, promote, set_policy, clear_policy, set_mode_bits, set_slice}
use Rattle.evm_model.specs.Waits.{begin_wait, first_waiter, kept_of, woken, wake}
use Rattle.evm_model.specs.declared.limits.TheConstants.{SLICE, SEMAPHORE_COUNT_LIMIT}
use Rattle.evm_model.specs.declared.stage.Stage.TheVariants.{OutOfBand, InBand}
use Rattle.evm_model.specs.declared.task.Class.{Class}
use Rattle.evm_model.specs.declared.task.Class.TheVariants.{Unattached}
use Rattle.evm_model.specs.declared.task.TaskState.{TaskState}
use Rattle.evm_model.specs.declared.task.TaskState.TheVariants.{InReady, OobReady, Waits}
use Rattle.evm_model.specs.declared.task.Wait.{Wait}
use Rattle.evm_model.specs.declared.task.Wait.TheVariants.{Lock, Reacquire, Semaphore, Flags}
use Rattle.law_runs.specs.Timeless.{timeless, HasNoTimes}
use Rattle.law_runs.proofs.Alike.Timeless.{Clockless, ClocklessDone, at_once, onward, clockless_if, done_if, no_times_task}

-- ---- one task
module _ (p : Parts) (h : HasNoTimes p) where
  pub clockless_restamp : (t : ℕ) → Clockless (restamp t p) (restamp t (timeless p))
  unfolding restamp
  clockless_restamp t = at_once (no_times_task h t (λ task. record task { stamp = p.stamps }) (λ x e. e))

  pub clockless_state : (t : ℕ) (state : TaskState) → Clockless (set_state t state p) (set_state t state (timeless p))
  unfolding set_state
  clockless_state t state = at_once (no_times_task h t (λ task. record task { state = state }) (λ x e. e))

  pub clockless_policy : (t : ℕ) (class : Class) (priority : ℕ) → Clockless (set_policy t class priority p) (set_policy t class priority (timeless p))
  unfolding set_policy
  clockless_policy t class priority = at_once (no_times_task h t (λ task. record task { class = class; priority = priority; slice = SLICE }) (λ x e. e))

  pub clockless_no_policy : (t : ℕ) → Clockless (clear_policy t p) (clear_policy t (timeless p))
  unfolding clear_policy
  clockless_no_policy t = at_once (no_times_task h t (λ task. record task { class = Unattached; priority = 0; mode = no_mode }) (λ x e. e))

  pub clockless_mode : (t bits : ℕ) → Clockless (set_mode_bits t bits p) (set_mode_bits t bits (timeless p))
  unfolding set_mode_bits
  clockless_mode t bits = at_once (no_times_task h t (λ task. record task { mode = record { bits = bits } }) (λ x e. e))

  pub clockless_slice : (t slice : ℕ) → Clockless (set_slice t slice p) (set_slice t slice (timeless p))
  unfolding set_slice
  clockless_slice t slice = at_once (no_times_task h t (λ task. record task { slice = slice }) (λ x e. e))

-- ---- its stage, and its wait
module _ (p : Parts) (h : HasNoTimes p) where
  pub clockless_demote : (c t : ℕ) → Clockless (demote c t p) (demote c t (timeless p))
  unfolding demote
  clockless_demote c t = onward (restamp t) (clockless_state (on_pipe c (set_stall OutOfBand false) p) h t InReady) (λ q k. clockless_restamp q k t)

  pub clockless_promote : (c t : ℕ) → Clockless (promote c t p) (promote c t (timeless p))
  unfolding promote leave_in_band
  clockless_promote c t = onward (leave_in_band c) (onward (restamp t) (clockless_state p h t OobReady) (λ q k. clockless_restamp q k t)) (λ q k. at_once k)

  -- without a deadline
  pub clockless_begin_wait : (t : ℕ) (wait : Wait) → Clockless (begin_wait t wait 0 p) (begin_wait t wait 0 (timeless p))
  unfolding begin_wait restamp
  clockless_begin_wait t wait =
      at_once (no_times_task (no_times_task h t (λ task. record task { state = Waits wait; deadline = 0 }) (λ x e. refl)) t (λ task. record task { stamp = p.stamps }) (λ x e. e))

  pub clockless_wake : (t value : ℕ) → Clockless (wake t value p) (wake t value (timeless p))
  unfolding wake restamp
  clockless_wake t value =
      at_once (no_times_task (no_times_task h t (woken (owns_any t p.mutexes)) (λ x e. refl)) t (λ task. record task { stamp = p.stamps }) (λ x e. e))

-- ---- a mutex passes on
module _ (p : Parts) (h : HasNoTimes p) where
  clockless_hand_over_to : (o : Option ℕ) (m : ℕ) → Clockless (hand_over_to o m p) (hand_over_to o m (timeless p))
  clockless_hand_over_to None m = at_once h
  clockless_hand_over_to (Some t) m = clockless_wake (on_mutex m (held_by t 1) p) h t (kept_of (slice_get p.tasks t))

  pub clockless_hand_over : (m : ℕ) → Clockless (hand_over m p) (hand_over m (timeless p))
  unfolding hand_over first_waiter
  clockless_hand_over m = clockless_hand_over_to (first_waiter (Lock m) p) m

  clockless_hand_over_if : (t m : ℕ) → Clockless (hand_over_if t m p) (hand_over_if t m (timeless p))
  clockless_hand_over_if t m = clockless_if (is_number (owner p.mutexes m) t) (clockless_hand_over m) (at_once h)

module _ (p : Parts) (h : HasNoTimes p) where
  clockless_hand_over_below : (t m : ℕ) → Clockless (hand_over_below t m p) (hand_over_below t m (timeless p))
  unfolding hand_over_below
  clockless_hand_over_below t zero = at_once h
  clockless_hand_over_below t (suc m) = onward (hand_over_if t m) (clockless_hand_over_below t m) (λ q k. clockless_hand_over_if q k t m)

  pub clockless_end_task : (c t : ℕ) (state : TaskState) → Clockless (end_task c t state p) (end_task c t state (timeless p))
  unfolding end_task leave_in_band
  clockless_end_task c t state =
      onward (λ q. set_state t state (leave_in_band c (on_pipe c (set_stall InBand false) q))) (clockless_hand_over_below t (length p.mutexes))
      (λ q k. clockless_state (leave_in_band c (on_pipe c (set_stall InBand false) q)) k t state)

-- ---- a task that waited for an event reacquires its mutex
module _ (p : Parts) (h : HasNoTimes p) where
  clockless_reacquire_from : (o : Option ℕ) (t m answer : ℕ) → Clockless (reacquire_from o t m answer p) (reacquire_from o t m answer (timeless p))
  clockless_reacquire_from None t m answer = clockless_wake (on_mutex m (held_by t 1) p) h t answer
  clockless_reacquire_from (Some u) t m answer = clockless_begin_wait p h t (Reacquire m answer)

  clockless_reacquire_of : (o : Option ℕ) (t answer : ℕ) → Clockless (reacquire_of o t answer p) (reacquire_of o t answer (timeless p))
  clockless_reacquire_of None t answer = at_once h
  clockless_reacquire_of (Some m) t answer = clockless_reacquire_from (owner p.mutexes m) t m answer

  pub clockless_reacquire : (e t answer : ℕ) → Clockless (reacquire e t answer p) (reacquire e t answer (timeless p))
  unfolding reacquire
  clockless_reacquire e t answer = clockless_reacquire_of (bound e p) t answer

  -- ---- one is put into a semaphore
  done_sem_put_to : (o : Option ℕ) (s count : ℕ) → ClocklessDone (sem_put_to o s count p) (sem_put_to o s count (timeless p))
  done_sem_put_to None s count = done_if (nat_le SEMAPHORE_COUNT_LIMIT count) (at_once h, refl) (at_once h, refl)
  done_sem_put_to (Some t) s count = (clockless_wake p h t 0, refl)

  done_sem_put_known : (o : Option ℕ) (s : ℕ) → ClocklessDone (sem_put_known o s p) (sem_put_known o s (timeless p))
  unfolding first_waiter
  done_sem_put_known None s = (at_once h, refl)
  done_sem_put_known (Some count) s = done_sem_put_to (first_waiter (Semaphore s) p) s count

  pub done_sem_put : (s : ℕ) → ClocklessDone (sem_put s p) (sem_put s (timeless p))
  unfolding sem_put
  done_sem_put s = done_sem_put_known (slice_get p.semaphores s) s

  -- ---- bits are posted to a flag group
  clockless_post_to : (o : Option ℕ) (f word : ℕ) → Clockless (post_to o f word p) (post_to o f word (timeless p))
  clockless_post_to None f word = at_once h
  clockless_post_to (Some t) f word = clockless_wake (on_flags f (λ _. 0) p) h t word

  clockless_post_known : (o : Option ℕ) (f bits : ℕ) → Clockless (post_known o f bits p) (post_known o f bits (timeless p))
  unfolding first_waiter
  clockless_post_known None f bits = at_once h
  clockless_post_known (Some word) f bits = clockless_post_to (first_waiter (Flags f) p) f (bit_or word bits)

  pub clockless_post : (f bits : ℕ) → Clockless (post f bits p) (post f bits (timeless p))
  unfolding post
  clockless_post f bits = clockless_post_known (slice_get p.flags f) f bits
