-- Each call on an event does alike to alike parts.
use Rattle.std.proofs.Common.{◌≡◌, ℕ, zero, suc, [], ◌∷◌, ◌++◌, Option, Some, None, length, refl, ap}
use Rattle.std.specs.Prelude.{nat_le, slice_get}
use Rattle.evm_model.specs.Events.{add_event, begin_event_wait, bound, broadcast, event_wait, event_wait_known, event_wait_unless, event_wait_with, has_other, holding_refusal, new_event, signal, signal_first, signal_known, signal_rounds, signal_to}
use Rattle.evm_model.specs.State.{Parts}
use Rattle.evm_model.specs.declared.call.Outcome.TheVariants.{Returns}
use Rattle.evm_model.specs.declared.errno.Errno.{Errno}
use Rattle.evm_model.specs.declared.limits.TheConstants.{EVENT_LIMIT}
use Rattle.evm_model.specs.declared.mutex.Mutex.{Mutex}
use Rattle.evm_model.specs.declared.stage.Stage.TheVariants.{OutOfBand}
use Rattle.evm_model.specs.declared.task.Wait.TheVariants.{Event}
use Rattle.evm_model.specs.Waits.{first_waiter}
use Rattle.law_runs.specs.Alike.{Alike}
use Rattle.law_runs.proofs.Alike.Changing.{AlikeDone, alike_event, done_if}
use Rattle.law_runs.proofs.Alike.Reading.{first_waiter-same, task_count-same}
use Rattle.law_runs.proofs.Alike.Tasks.{alike_begin_wait, alike_hand_over, alike_reacquire, wait_refusal-same}

-- ---- calls 43 and 44
signal_by : {p q : Parts} → Alike p q → (o : Option ℕ) (e : ℕ) → Alike (signal_to o e p) (signal_to o e q)
signal_by a None e = a
signal_by a (Some t) e = alike_reacquire a e t 0

signal_once : {p q : Parts} → Alike p q → (e : ℕ) → Alike (signal_first e p) (signal_first e q)
unfolding signal_first
signal_once {q = q} a e = rw (first_waiter-same a (Event e)) (signal_by a (first_waiter (Event e) q) e)

signal_often : {p q : Parts} → Alike p q → (e rounds : ℕ) → Alike (signal_rounds e rounds p) (signal_rounds e rounds q)
unfolding signal_rounds
signal_often a e zero = a
signal_often a e (suc n) = signal_once (signal_often a e n) e

module _ {p q : Parts} (a : Alike p q) where
  -- ---- call 11
  alike_add_event : Alike (add_event p) (add_event q)
  unfolding add_event
  alike_add_event = record { same = ap (λ (x : Parts). record x { events = x.events ++ None ∷ [] }) a.same; order = a.order; below = a.below; other_below = a.other_below }

  pub done_new_event : AlikeDone (new_event p) (new_event q)
  unfolding new_event
  done_new_event =
      let size : length p.events ≡ length q.events = ap (λ (x : Parts). length x.events) a.same in
      done_if (ap (nat_le EVENT_LIMIT) size) (a, refl) (alike_add_event, ap Returns size)

  -- ---- call 42
  other-same : (e m : ℕ) → has_other e m p ≡ has_other e m q
  other-same e m = rw (first_waiter-same a (Event e), ap (λ (x : Parts). bound e x) a.same) refl

  holding-same : (t m : ℕ) (mutex : Mutex) → holding_refusal t m mutex p ≡ holding_refusal t m mutex q
  holding-same t m mutex = ap (λ (x : Parts). holding_refusal t m mutex x) a.same

  alike_begin : (t e m deadline : ℕ) → Alike (begin_event_wait t e m deadline p) (begin_event_wait t e m deadline q)
  unfolding begin_event_wait
  alike_begin t e m deadline = alike_begin_wait (alike_hand_over (alike_event a e (λ _. Some m)) m) t (Event e) deadline

  wait_by : (o : Option Errno) (t e m deadline : ℕ) → AlikeDone (event_wait_unless o t e m deadline p) (event_wait_unless o t e m deadline q)
  wait_by (Some error) t e m deadline = (a, refl)
  wait_by None t e m deadline = (alike_begin t e m deadline, refl)

  wait_unless : (o o' : Option Errno) (t e m deadline : ℕ) → o ≡ o' → AlikeDone (event_wait_unless o t e m deadline p) (event_wait_unless o' t e m deadline q)
  wait_unless o o' t e m deadline same = rw (← same) (wait_by o t e m deadline)

  wait_with : (o : Option Mutex) (c t e m deadline : ℕ) → AlikeDone (event_wait_with o c t e m deadline p) (event_wait_with o c t e m deadline q)
  wait_with None c t e m deadline = (a, refl)
  wait_with (Some mutex) c t e m deadline =
      done_if (other-same e m) (a, refl) (wait_unless _ _ t e m deadline (wait_refusal-same a OutOfBand c _ _ deadline (holding-same t m mutex)))

  wait_in : (o : Option (Option ℕ)) (c t e m deadline : ℕ) → AlikeDone (event_wait_known o c t e m deadline p) (event_wait_known o c t e m deadline q)
  wait_in None c t e m deadline = (a, refl)
  wait_in (Some mutex) c t e m deadline =
      let there : slice_get p.mutexes m ≡ slice_get q.mutexes m = ap (λ (x : Parts). slice_get x.mutexes m) a.same in
      rw (← there) (wait_with (slice_get p.mutexes m) c t e m deadline)

  event-same : (e : ℕ) → slice_get p.events e ≡ slice_get q.events e
  event-same e = ap (λ (x : Parts). slice_get x.events e) a.same

  pub done_event_wait : (c t e m deadline : ℕ) → AlikeDone (event_wait c t e m deadline p) (event_wait c t e m deadline q)
  unfolding event_wait
  done_event_wait c t e m deadline = rw (← event-same e) (wait_in (slice_get p.events e) c t e m deadline)

  -- ---- calls 43 and 44
  signal_in : (o : Option (Option ℕ)) (e rounds : ℕ) → AlikeDone (signal_known o e rounds p) (signal_known o e rounds q)
  signal_in None e rounds = (a, refl)
  signal_in (Some mutex) e rounds = (signal_often a e rounds, refl)

  signal_at : (o o' : Option (Option ℕ)) (e m n : ℕ) → o ≡ o' → m ≡ n → AlikeDone (signal_known o e m p) (signal_known o' e n q)
  signal_at o o' e m n same count = rw (← same, ← count) (signal_in o e m)

  pub done_signal : (e : ℕ) → AlikeDone (signal e p) (signal e q)
  unfolding signal
  done_signal e = signal_at _ _ e 1 1 (event-same e) refl

  pub done_broadcast : (e : ℕ) → AlikeDone (broadcast e p) (broadcast e q)
  unfolding broadcast
  done_broadcast e = signal_at _ _ e _ _ (event-same e) (task_count-same a)
