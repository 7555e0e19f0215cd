-- What is done to one task, to a mutex and to those that wait, of alike parts.
use Rattle.std.proofs.Common.{◌≡◌, ℕ, zero, suc, ◌+◌, Bool, false, Option, Some, None, length, refl, ap}
use Rattle.std.specs.Prelude.{slice_get, bit_or}
use Rattle.evm_model.specs.Boosts.{is_number}
use Rattle.evm_model.specs.Events.{reacquire_from, reacquire_of, bound_of, bound, reacquire}
use Rattle.evm_model.specs.Flags.{post_to, post_known, post}
use Rattle.evm_model.specs.Harts.{A0, set_register}
use Rattle.evm_model.specs.Mutexes.{owner, owns_any, held_by, freed}
use Rattle.evm_model.specs.Notices.{asks_for, keep, notify, is_refused, notify_refused}
use Rattle.evm_model.specs.Passing.{hand_over_to, hand_over, hand_over_if, hand_over_below, end_task}
use Rattle.evm_model.specs.Pipes.{set_stall}
use Rattle.evm_model.specs.Semaphores.{sem_put_to, sem_put_known, sem_put}
use Rattle.evm_model.specs.Stages.{is_stalled, wait_refusal, wait_unless}
use Rattle.evm_model.specs.State.{Parts, no_mode, on_pipe}
use Rattle.evm_model.specs.Tasks.{set_state, leave_in_band, demote, promote, set_policy, clear_policy, set_mode_bits, set_slice}
use Rattle.evm_model.specs.Waits.{begin_wait, first_waiter, kept_of, woken, wake}
use Rattle.evm_model.specs.declared.call.Outcome.{Outcome}
use Rattle.evm_model.specs.declared.errno.Errno.{Errno}
use Rattle.evm_model.specs.declared.limits.TheConstants.{SLICE}
use Rattle.evm_model.specs.declared.notice.NoticeKind.{NoticeKind}
use Rattle.evm_model.specs.declared.stage.Stage.{Stage}
use Rattle.evm_model.specs.declared.stage.Stage.TheVariants.{OutOfBand, InBand}
use Rattle.evm_model.specs.declared.task.Class.{Class}
use Rattle.evm_model.specs.declared.task.Class.TheVariants.{Unattached}
use Rattle.evm_model.specs.declared.task.TaskState.{TaskState}
use Rattle.evm_model.specs.declared.task.TaskState.TheVariants.{InReady, OobReady, Waits}
use Rattle.evm_model.specs.declared.task.Wait.{Wait}
use Rattle.evm_model.specs.declared.task.Wait.TheVariants.{Lock, Reacquire, Semaphore, Flags}
use Rattle.law_runs.specs.Alike.{Alike}
use Rattle.law_runs.proofs.Alike.Changing.{AlikeDone, alike_if, done_if, alike_by, alike_hart, alike_processor, alike_mutex, alike_semaphore, alike_flags, alike_pipe, alike_task}
use Rattle.law_runs.proofs.Alike.Reading.{at_task, ticks-same, mutexes-same, semaphores-same, events-same, flags-same, owns_any-same, is_stalled-same, first_waiter-same}
use Rattle.law_runs.proofs.Alike.Stamping.{alike_restamp}

-- ---- one change
module _ {p q : Parts} (a : Alike p q) where
  pub alike_stall : (c : ℕ) (stage : Stage) (b : Bool) → Alike (on_pipe c (set_stall stage b) p) (on_pipe c (set_stall stage b) q)
  unfolding set_stall
  alike_stall c OutOfBand b = alike_pipe a c (set_stall OutOfBand b) (λ x. refl)
  alike_stall c InBand b = alike_pipe a c (set_stall InBand b) (λ x. refl)

  pub alike_state : (t : ℕ) (state : TaskState) → Alike (set_state t state p) (set_state t state q)
  unfolding set_state
  alike_state t state = alike_task a t (λ task. record task { state = state }) (λ x. refl) (λ x. refl)

  pub alike_leave : (c : ℕ) → Alike (leave_in_band c p) (leave_in_band c q)
  unfolding leave_in_band
  alike_leave c = alike_processor a c (λ processor. record processor { in_band_task = None })

  pub alike_policy : (t : ℕ) (class : Class) (priority : ℕ) → Alike (set_policy t class priority p) (set_policy t class priority q)
  unfolding set_policy
  alike_policy t class priority = alike_task a t (λ task. record task { class = class; priority = priority; slice = SLICE }) (λ x. refl) (λ x. refl)

  pub alike_no_policy : (t : ℕ) → Alike (clear_policy t p) (clear_policy t q)
  unfolding clear_policy
  alike_no_policy t = alike_task a t (λ task. record task { class = Unattached; priority = 0; mode = no_mode }) (λ x. refl) (λ x. refl)

  pub alike_mode : (t bits : ℕ) → Alike (set_mode_bits t bits p) (set_mode_bits t bits q)
  unfolding set_mode_bits
  alike_mode t bits = alike_task a t (λ task. record task { mode = record { bits = bits } }) (λ x. refl) (λ x. refl)

  pub alike_slice : (t slice : ℕ) → Alike (set_slice t slice p) (set_slice t slice q)
  unfolding set_slice
  alike_slice t slice = alike_task a t (λ task. record task { slice = slice }) (λ x. refl) (λ x. refl)

  pub alike_notify : (kind : NoticeKind) (t : ℕ) → Alike (notify kind t p) (notify kind t q)
  unfolding notify
  alike_notify kind t =
      alike_if (at_task (asks_for kind) t (λ x. refl) a)
      (alike_by a (λ k. record k { notices = keep (record { tick = k.ticks; task = t; kind = kind }) k.notices }) (λ k. refl) (λ k. refl) (λ k. refl)) a

-- ---- several changes
module _ {p q : Parts} (a : Alike p q) where
  pub alike_begin_wait : (t : ℕ) (wait : Wait) (deadline : ℕ) → Alike (begin_wait t wait deadline p) (begin_wait t wait deadline q)
  unfolding begin_wait
  alike_begin_wait t wait deadline = alike_restamp (alike_task a t (λ task. record task { state = Waits wait; deadline = deadline }) (λ x. refl) (λ x. refl)) t

  pub alike_wake : (t value : ℕ) → Alike (wake t value p) (wake t value q)
  unfolding wake
  alike_wake t value =
      rw (owns_any-same a t) (alike_restamp (alike_task (alike_hart a t (set_register A0 value)) t (woken (owns_any t q.mutexes)) (λ x. refl) (λ x. refl)) t)

  pub alike_demote : (c t : ℕ) → Alike (demote c t p) (demote c t q)
  unfolding demote
  alike_demote c t = alike_restamp (alike_state (alike_stall a c OutOfBand false) t InReady) t

  pub alike_promote : (c t : ℕ) → Alike (promote c t p) (promote c t q)
  unfolding promote
  alike_promote c t = alike_leave (alike_restamp (alike_state a t OobReady) t) c

  -- ---- an answer
  pub wait_refusal-same : (stage : Stage) (c : ℕ) (own other : Option Errno) (deadline : ℕ) → own ≡ other
      → wait_refusal (is_stalled stage c p) own p.ticks deadline ≡ wait_refusal (is_stalled stage c q) other q.ticks deadline
  wait_refusal-same stage c own other deadline e = λ i. wait_refusal (is_stalled-same a stage c i) (e i) (ticks-same a i) deadline

-- a task waits, unless the call is refused
module _ {p q : Parts} (a : Alike p q) where
  done_wait_unless : (o : Option Errno) (t : ℕ) (wait : Wait) (deadline : ℕ) → AlikeDone (wait_unless o t wait deadline p) (wait_unless o t wait deadline q)
  done_wait_unless None t wait deadline = (alike_begin_wait a t wait deadline, refl)
  done_wait_unless (Some e) t wait deadline = (a, refl)

  pub done_wait : (stage : Stage) (c : ℕ) (own other : Option Errno) (t : ℕ) (wait : Wait) (deadline : ℕ) → own ≡ other
      → AlikeDone (wait_unless (wait_refusal (is_stalled stage c p) own p.ticks deadline) t wait deadline p) (wait_unless (wait_refusal (is_stalled stage c q) other q.ticks deadline) t wait deadline q)
  done_wait stage c own other t wait deadline e = rw (wait_refusal-same a stage c own other deadline e) (done_wait_unless (wait_refusal (is_stalled stage c q) other q.ticks deadline) t wait deadline)

-- task t gets a notice if its call is refused with an error
pub done_notify : {x y : Parts × Outcome} → AlikeDone x y → (e : Errno) (kind : NoticeKind) (t : ℕ) → AlikeDone (notify_refused e kind t x) (notify_refused e kind t y)
done_notify d e kind t = done_if (ap (is_refused e) d.1) (alike_notify d.0 kind t, d.1) d

-- ---- a mutex passes on
module _ {p q : Parts} (a : Alike p q) where
  alike_hand_over_to : (o : Option ℕ) (m : ℕ) → Alike (hand_over_to o m p) (hand_over_to o m q)
  alike_hand_over_to None m = alike_mutex a m freed
  alike_hand_over_to (Some t) m = rw (at_task kept_of t (λ x. refl) a) (alike_wake (alike_mutex a m (held_by t 1)) t (kept_of (slice_get q.tasks t)))

  pub alike_hand_over : (m : ℕ) → Alike (hand_over m p) (hand_over m q)
  unfolding hand_over
  alike_hand_over m = rw (first_waiter-same a (Lock m)) (alike_hand_over_to (first_waiter (Lock m) q) m)

alike_hand_over_if : {p q : Parts} → Alike p q → (t m : ℕ) → Alike (hand_over_if t m p) (hand_over_if t m q)
alike_hand_over_if a t m = alike_if (ap (λ mutexes. is_number (owner mutexes m) t) (mutexes-same a)) (alike_hand_over a m) a

alike_hand_over_below : {p q : Parts} → Alike p q → (t n : ℕ) → Alike (hand_over_below t n p) (hand_over_below t n q)
unfolding hand_over_below
alike_hand_over_below a t zero = a
alike_hand_over_below a t (suc m) = alike_hand_over_if (alike_hand_over_below a t m) t m

pub alike_end_task : {p q : Parts} → Alike p q → (c t : ℕ) (state : TaskState) → Alike (end_task c t state p) (end_task c t state q)
unfolding end_task
alike_end_task {p = p} {q = q} a c t state =
    rw (ap length (mutexes-same a)) (alike_state (alike_leave (alike_stall (alike_hand_over_below a t (length q.mutexes)) c InBand false) c) t state)

-- ---- a task that waited for an event reacquires its mutex
module _ {p q : Parts} (a : Alike p q) where
  bound-same : (e : ℕ) → bound e p ≡ bound e q
  bound-same e = ap (λ events. bound_of (slice_get events e)) (events-same a)

  alike_reacquire_from : (o : Option ℕ) (t m answer : ℕ) → Alike (reacquire_from o t m answer p) (reacquire_from o t m answer q)
  alike_reacquire_from None t m answer = alike_wake (alike_mutex a m (held_by t 1)) t answer
  alike_reacquire_from (Some u) t m answer = alike_begin_wait a t (Reacquire m answer) 0

  alike_reacquire_of : (o : Option ℕ) (t answer : ℕ) → Alike (reacquire_of o t answer p) (reacquire_of o t answer q)
  alike_reacquire_of None t answer = a
  alike_reacquire_of (Some m) t answer = rw (ap (λ mutexes. owner mutexes m) (mutexes-same a)) (alike_reacquire_from (owner q.mutexes m) t m answer)

  pub alike_reacquire : (e t answer : ℕ) → Alike (reacquire e t answer p) (reacquire e t answer q)
  unfolding reacquire
  alike_reacquire e t answer = rw (bound-same e) (alike_reacquire_of (bound e q) t answer)

  -- ---- one is put into a semaphore
  done_sem_put_to : (o : Option ℕ) (s count : ℕ) → AlikeDone (sem_put_to o s count p) (sem_put_to o s count q)
  done_sem_put_to None s count = done_if refl (a, refl) (alike_semaphore a s (λ n. n + 1), refl)
  done_sem_put_to (Some t) s count = (alike_wake a t 0, refl)

  done_sem_put_known : (o : Option ℕ) (s : ℕ) → AlikeDone (sem_put_known o s p) (sem_put_known o s q)
  done_sem_put_known None s = (a, refl)
  done_sem_put_known (Some count) s = rw (first_waiter-same a (Semaphore s)) (done_sem_put_to (first_waiter (Semaphore s) q) s count)

  pub done_sem_put : (s : ℕ) → AlikeDone (sem_put s p) (sem_put s q)
  unfolding sem_put
  done_sem_put s = rw (ap (λ counts. slice_get counts s) (semaphores-same a)) (done_sem_put_known (slice_get q.semaphores s) s)

  -- ---- bits are posted to a flag group
  alike_post_to : (o : Option ℕ) (f word : ℕ) → Alike (post_to o f word p) (post_to o f word q)
  alike_post_to None f word = alike_flags a f (λ _. word)
  alike_post_to (Some t) f word = alike_wake (alike_flags a f (λ _. 0)) t word

  alike_post_known : (o : Option ℕ) (f bits : ℕ) → Alike (post_known o f bits p) (post_known o f bits q)
  alike_post_known None f bits = a
  alike_post_known (Some word) f bits = rw (first_waiter-same a (Flags f)) (alike_post_to (first_waiter (Flags f) q) f (bit_or word bits))

  pub alike_post : (f bits : ℕ) → Alike (post f bits p) (post f bits q)
  unfolding post
  alike_post f bits = rw (ap (λ words. slice_get words f) (flags-same a)) (alike_post_known (slice_get q.flags f) f bits)
