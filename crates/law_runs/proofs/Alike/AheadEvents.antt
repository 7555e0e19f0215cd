-- Each call on an event does the same where tasks are ahead.
use Rattle.std.proofs.Common.{◌≡◌, ℕ, zero, suc, [], ◌∷◌, ◌++◌, Option, Some, None, length, refl, ap}
use Rattle.std.specs.Prelude.{nat_le, slice_get}
use Rattle.evm_model.specs.Events.{add_event, begin_event_wait, bound, broadcast, event_wait, event_wait_known, event_wait_unless, event_wait_with, has_other, holding_refusal, new_event, signal, signal_first, signal_known, signal_rounds, signal_to}
use Rattle.evm_model.specs.State.{Parts}
use Rattle.evm_model.specs.declared.call.Outcome.TheVariants.{Returns}
use Rattle.evm_model.specs.declared.errno.Errno.{Errno}
use Rattle.evm_model.specs.declared.limits.TheConstants.{EVENT_LIMIT}
use Rattle.evm_model.specs.declared.mutex.Mutex.{Mutex}
use Rattle.evm_model.specs.declared.stage.Stage.TheVariants.{OutOfBand}
use Rattle.evm_model.specs.declared.task.Wait.TheVariants.{Event}
use Rattle.evm_model.specs.Waits.{first_waiter}
use Rattle.law_runs.specs.Ahead.{HeadStart, Ahead}
use Rattle.law_runs.proofs.Alike.AheadChanging.{AheadDone, ahead_by, ahead_event, done_if}
use Rattle.law_runs.proofs.Alike.AheadReading.{first_waiter-same, task_count-same}
use Rattle.law_runs.proofs.Alike.AheadTasks.{ahead_begin_wait, ahead_hand_over, ahead_reacquire, wait_refusal-same}
use Rattle.law_runs.proofs.Alike.AheadWaiters.{IsStill, waiter-still}

-- ---- calls 43 and 44
signal_by : {lead : HeadStart} {p q : Parts} → Ahead lead p q → (o : Option ℕ) (e : ℕ) → IsStill lead o → Ahead lead (signal_to o e p) (signal_to o e q)
signal_by a None e z = a
signal_by a (Some t) e z = ahead_reacquire a e t 0 (z t refl)

signal_once : {lead : HeadStart} {p q : Parts} → Ahead lead p q → (e : ℕ) → Ahead lead (signal_first e p) (signal_first e q)
unfolding signal_first
signal_once {q = q} a e = rw (first_waiter-same a (Event e)) (signal_by a (first_waiter (Event e) q) e (waiter-still a (Event e)))

signal_often : {lead : HeadStart} {p q : Parts} → Ahead lead p q → (e rounds : ℕ) → Ahead lead (signal_rounds e rounds p) (signal_rounds e rounds q)
unfolding signal_rounds
signal_often a e zero = a
signal_often a e (suc n) = signal_once (signal_often a e n) e

module _ {lead : HeadStart} {p q : Parts} (a : Ahead lead p q) where
  -- ---- call 11
  ahead_add_event : Ahead lead (add_event p) (add_event q)
  unfolding add_event
  ahead_add_event = ahead_by a (λ (x : Parts). record x { events = x.events ++ None ∷ [] }) (λ k. refl) (λ k. refl) (λ k. refl)

  pub done_new_event : AheadDone lead (new_event p) (new_event q)
  unfolding new_event
  done_new_event =
      let size : length p.events ≡ length q.events = ap (λ (x : Parts). length x.events) a.same in
      done_if (ap (nat_le EVENT_LIMIT) size) (a, refl) (ahead_add_event, ap Returns size)

  -- ---- call 42
  other-same : (e m : ℕ) → has_other e m p ≡ has_other e m q
  other-same e m = rw (first_waiter-same a (Event e), ap (λ (x : Parts). bound e x) a.same) refl

  holding-same : (t m : ℕ) (mutex : Mutex) → holding_refusal t m mutex p ≡ holding_refusal t m mutex q
  holding-same t m mutex = ap (λ (x : Parts). holding_refusal t m mutex x) a.same

  ahead_begin : (t e m deadline : ℕ) → lead.rows t ≡ 0 → Ahead lead (begin_event_wait t e m deadline p) (begin_event_wait t e m deadline q)
  unfolding begin_event_wait
  ahead_begin t e m deadline z = ahead_begin_wait (ahead_hand_over (ahead_event a e (λ _. Some m)) m) t (Event e) deadline z

  wait_by : (o : Option Errno) (t e m deadline : ℕ) → lead.rows t ≡ 0 → AheadDone lead (event_wait_unless o t e m deadline p) (event_wait_unless o t e m deadline q)
  wait_by (Some error) t e m deadline z = (a, refl)
  wait_by None t e m deadline z = (ahead_begin t e m deadline z, refl)

  wait_unless : (o o' : Option Errno) (t e m deadline : ℕ) → lead.rows t ≡ 0 → o ≡ o' → AheadDone lead (event_wait_unless o t e m deadline p) (event_wait_unless o' t e m deadline q)
  wait_unless o o' t e m deadline z same = rw (← same) (wait_by o t e m deadline z)

  wait_with : (o : Option Mutex) (c t e m deadline : ℕ) → lead.rows t ≡ 0 → AheadDone lead (event_wait_with o c t e m deadline p) (event_wait_with o c t e m deadline q)
  wait_with None c t e m deadline z = (a, refl)
  wait_with (Some mutex) c t e m deadline z =
      done_if (other-same e m) (a, refl) (wait_unless _ _ t e m deadline z (wait_refusal-same a OutOfBand c _ _ deadline (holding-same t m mutex)))

  wait_in : (o : Option (Option ℕ)) (c t e m deadline : ℕ) → lead.rows t ≡ 0 → AheadDone lead (event_wait_known o c t e m deadline p) (event_wait_known o c t e m deadline q)
  wait_in None c t e m deadline z = (a, refl)
  wait_in (Some mutex) c t e m deadline z =
      let there : slice_get p.mutexes m ≡ slice_get q.mutexes m = ap (λ (x : Parts). slice_get x.mutexes m) a.same in
      rw (← there) (wait_with (slice_get p.mutexes m) c t e m deadline z)

  event-same : (e : ℕ) → slice_get p.events e ≡ slice_get q.events e
  event-same e = ap (λ (x : Parts). slice_get x.events e) a.same

  pub done_event_wait : (c t e m deadline : ℕ) → lead.rows t ≡ 0 → AheadDone lead (event_wait c t e m deadline p) (event_wait c t e m deadline q)
  unfolding event_wait
  done_event_wait c t e m deadline z = rw (← event-same e) (wait_in (slice_get p.events e) c t e m deadline z)

  -- ---- calls 43 and 44
  signal_in : (o : Option (Option ℕ)) (e rounds : ℕ) → AheadDone lead (signal_known o e rounds p) (signal_known o e rounds q)
  signal_in None e rounds = (a, refl)
  signal_in (Some mutex) e rounds = (signal_often a e rounds, refl)

  signal_at : (o o' : Option (Option ℕ)) (e m n : ℕ) → o ≡ o' → m ≡ n → AheadDone lead (signal_known o e m p) (signal_known o' e n q)
  signal_at o o' e m n same count = rw (← same, ← count) (signal_in o e m)

  pub done_signal : (e : ℕ) → AheadDone lead (signal e p) (signal e q)
  unfolding signal
  done_signal e = signal_at _ _ e 1 1 (event-same e) refl

  pub done_broadcast : (e : ℕ) → AheadDone lead (broadcast e p) (broadcast e q)
  unfolding broadcast
  done_broadcast e = signal_at _ _ e _ _ (event-same e) (task_count-same a)
