-- What is done to one task, to a mutex and to those that wait, where tasks are ahead.
use Rattle.std.proofs.Common.{◌≡◌, ℕ, zero, suc, ◌+◌, Bool, true, false, Option, Some, None, length, refl, ap}
use Rattle.std.specs.Prelude.{slice_get, bit_or}
use Rattle.evm_model.specs.Boosts.{is_number}
use Rattle.evm_model.specs.Events.{reacquire_from, reacquire_of, bound_of, bound, reacquire}
use Rattle.evm_model.specs.Flags.{post_to, post_known, post}
use Rattle.evm_model.specs.Harts.{A0, set_register}
use Rattle.evm_model.specs.Mutexes.{owner, owns_any, held_by, freed}
use Rattle.evm_model.specs.Notices.{asks_for, keep, notify, is_refused, notify_refused}
use Rattle.evm_model.specs.Passing.{hand_over_to, hand_over, hand_over_if, hand_over_below, end_task}
use Rattle.evm_model.specs.Good.{is_ready}
use Rattle.evm_model.specs.Pipes.{set_stall}
use Rattle.evm_model.specs.Semaphores.{sem_put_to, sem_put_known, sem_put}
use Rattle.evm_model.specs.Stages.{is_stalled, wait_refusal, wait_unless}
use Rattle.evm_model.specs.State.{Parts, no_mode, on_pipe}
use Rattle.evm_model.specs.Tasks.{set_state, leave_in_band, demote, promote, set_policy, clear_policy, set_mode_bits, set_slice}
use Rattle.evm_model.specs.Waits.{begin_wait, first_waiter, kept_of, woken, wake}
use Rattle.evm_model.specs.declared.call.Outcome.{Outcome}
use Rattle.evm_model.specs.declared.errno.Errno.{Errno}
use Rattle.evm_model.specs.declared.limits.TheConstants.{SLICE}
use Rattle.evm_model.specs.declared.notice.NoticeKind.{NoticeKind}
use Rattle.evm_model.specs.declared.stage.Stage.{Stage}
use Rattle.evm_model.specs.declared.stage.Stage.TheVariants.{OutOfBand, InBand}
use Rattle.evm_model.specs.declared.task.Class.{Class}
use Rattle.evm_model.specs.declared.task.Class.TheVariants.{Unattached}
use Rattle.evm_model.specs.declared.task.TaskState.{TaskState}
use Rattle.evm_model.specs.declared.task.TaskState.TheVariants.{InReady, OobReady, Waits}
use Rattle.evm_model.specs.declared.task.Wait.{Wait}
use Rattle.evm_model.specs.declared.task.Wait.TheVariants.{Lock, Reacquire, Semaphore, Flags}
use Rattle.law_runs.specs.Ahead.{HeadStart, Ahead}
use Rattle.law_runs.proofs.Alike.AheadChanging.{AheadDone, ahead_if, done_if, ahead_by, ahead_hart, ahead_processor, ahead_mutex, ahead_semaphore, ahead_flags, ahead_pipe, ahead_task, still_task}
use Rattle.law_runs.proofs.Alike.AheadReading.{at_task, ticks-same, mutexes-same, semaphores-same, events-same, flags-same, owns_any-same, is_stalled-same, first_waiter-same}
use Rattle.law_runs.proofs.Alike.AheadStamping.{ahead_restamp}
use Rattle.law_runs.proofs.Alike.AheadWaiters.{IsStill, waiter-still}

-- ---- one change
module _ {lead : HeadStart} {p q : Parts} (a : Ahead lead p q) where
  pub ahead_stall : (c : ℕ) (stage : Stage) (b : Bool) → Ahead lead (on_pipe c (set_stall stage b) p) (on_pipe c (set_stall stage b) q)
  unfolding set_stall
  ahead_stall c OutOfBand b = ahead_pipe a c (set_stall OutOfBand b)
  ahead_stall c InBand b = ahead_pipe a c (set_stall InBand b)

  -- a state in which a task is ready
  pub ahead_state : (t : ℕ) (state : TaskState) → is_ready state ≡ true → Ahead lead (set_state t state p) (set_state t state q)
  unfolding set_state
  ahead_state t state e = ahead_task a t (λ task. record task { state = state }) (λ x r. e)

  still_state : (t : ℕ) (state : TaskState) → lead.rows t ≡ 0 → Ahead lead (set_state t state p) (set_state t state q)
  unfolding set_state
  still_state t state z = still_task a t (λ task. record task { state = state }) z

  pub ahead_leave : (c : ℕ) → Ahead lead (leave_in_band c p) (leave_in_band c q)
  unfolding leave_in_band
  ahead_leave c = ahead_processor a c (λ processor. record processor { in_band_task = None })

  pub ahead_policy : (t : ℕ) (class : Class) (priority : ℕ) → Ahead lead (set_policy t class priority p) (set_policy t class priority q)
  unfolding set_policy
  ahead_policy t class priority = ahead_task a t (λ task. record task { class = class; priority = priority; slice = SLICE }) (λ x r. r)

  pub ahead_no_policy : (t : ℕ) → Ahead lead (clear_policy t p) (clear_policy t q)
  unfolding clear_policy
  ahead_no_policy t = ahead_task a t (λ task. record task { class = Unattached; priority = 0; mode = no_mode }) (λ x r. r)

  pub ahead_mode : (t bits : ℕ) → Ahead lead (set_mode_bits t bits p) (set_mode_bits t bits q)
  unfolding set_mode_bits
  ahead_mode t bits = ahead_task a t (λ task. record task { mode = record { bits = bits } }) (λ x r. r)

  pub ahead_slice : (t slice : ℕ) → Ahead lead (set_slice t slice p) (set_slice t slice q)
  unfolding set_slice
  ahead_slice t slice = ahead_task a t (λ task. record task { slice = slice }) (λ x r. r)

  pub ahead_notify : (kind : NoticeKind) (t : ℕ) → Ahead lead (notify kind t p) (notify kind t q)
  unfolding notify
  ahead_notify kind t =
      ahead_if (at_task a (asks_for kind) t)
      (ahead_by a (λ k. record k { notices = keep (record { tick = k.ticks; task = t; kind = kind }) k.notices }) (λ k. refl) (λ k. refl) (λ k. refl)) a

-- ---- several changes
module _ {lead : HeadStart} {p q : Parts} (a : Ahead lead p q) where
  pub ahead_begin_wait : (t : ℕ) (wait : Wait) (deadline : ℕ) → lead.rows t ≡ 0 → Ahead lead (begin_wait t wait deadline p) (begin_wait t wait deadline q)
  unfolding begin_wait
  ahead_begin_wait t wait deadline z = ahead_restamp (still_task a t (λ task. record task { state = Waits wait; deadline = deadline }) z) t

  pub ahead_wake : (t value : ℕ) → lead.rows t ≡ 0 → Ahead lead (wake t value p) (wake t value q)
  unfolding wake
  ahead_wake t value z =
      rw (owns_any-same a t) (ahead_restamp (still_task (ahead_hart a t (set_register A0 value) z) t (woken (owns_any t q.mutexes)) z) t)

  pub ahead_demote : (c t : ℕ) → Ahead lead (demote c t p) (demote c t q)
  unfolding demote
  ahead_demote c t = ahead_restamp (ahead_state (ahead_stall a c OutOfBand false) t InReady refl) t

  pub ahead_promote : (c t : ℕ) → Ahead lead (promote c t p) (promote c t q)
  unfolding promote
  ahead_promote c t = ahead_leave (ahead_restamp (ahead_state a t OobReady refl) t) c

  -- ---- an answer
  pub wait_refusal-same : (stage : Stage) (c : ℕ) (own other : Option Errno) (deadline : ℕ) → own ≡ other
      → wait_refusal (is_stalled stage c p) own p.ticks deadline ≡ wait_refusal (is_stalled stage c q) other q.ticks deadline
  wait_refusal-same stage c own other deadline e = λ i. wait_refusal (is_stalled-same a stage c i) (e i) (ticks-same a i) deadline

-- a task waits, unless the call is refused
module _ {lead : HeadStart} {p q : Parts} (a : Ahead lead p q) where
  done_wait_unless : (o : Option Errno) (t : ℕ) (wait : Wait) (deadline : ℕ) → lead.rows t ≡ 0 → AheadDone lead (wait_unless o t wait deadline p) (wait_unless o t wait deadline q)
  done_wait_unless None t wait deadline z = (ahead_begin_wait a t wait deadline z, refl)
  done_wait_unless (Some e) t wait deadline z = (a, refl)

  pub done_wait : (stage : Stage) (c : ℕ) (own other : Option Errno) (t : ℕ) (wait : Wait) (deadline : ℕ) → lead.rows t ≡ 0 → own ≡ other
      → AheadDone lead (wait_unless (wait_refusal (is_stalled stage c p) own p.ticks deadline) t wait deadline p) (wait_unless (wait_refusal (is_stalled stage c q) other q.ticks deadline) t wait deadline q)
  done_wait stage c own other t wait deadline z e = rw (wait_refusal-same a stage c own other deadline e) (done_wait_unless (wait_refusal (is_stalled stage c q) other q.ticks deadline) t wait deadline z)

-- task t gets a notice if its call is refused with an error
pub done_notify : {lead : HeadStart} {x y : Parts × Outcome} → AheadDone lead x y → (e : Errno) (kind : NoticeKind) (t : ℕ) → AheadDone lead (notify_refused e kind t x) (notify_refused e kind t y)
done_notify d e kind t = done_if (ap (is_refused e) d.1) (ahead_notify d.0 kind t, d.1) d

-- ---- a mutex passes on
module _ {lead : HeadStart} {p q : Parts} (a : Ahead lead p q) where
  ahead_hand_over_to : (o : Option ℕ) (m : ℕ) → IsStill lead o → Ahead lead (hand_over_to o m p) (hand_over_to o m q)
  ahead_hand_over_to None m z = ahead_mutex a m freed
  ahead_hand_over_to (Some t) m z = rw (at_task a kept_of t) (ahead_wake (ahead_mutex a m (held_by t 1)) t (kept_of (slice_get q.tasks t)) (z t refl))

  pub ahead_hand_over : (m : ℕ) → Ahead lead (hand_over m p) (hand_over m q)
  unfolding hand_over
  ahead_hand_over m = rw (first_waiter-same a (Lock m)) (ahead_hand_over_to (first_waiter (Lock m) q) m (waiter-still a (Lock m)))

ahead_hand_over_if : {lead : HeadStart} {p q : Parts} → Ahead lead p q → (t m : ℕ) → Ahead lead (hand_over_if t m p) (hand_over_if t m q)
ahead_hand_over_if a t m = ahead_if (ap (λ mutexes. is_number (owner mutexes m) t) (mutexes-same a)) (ahead_hand_over a m) a

ahead_hand_over_below : {lead : HeadStart} {p q : Parts} → Ahead lead p q → (t n : ℕ) → Ahead lead (hand_over_below t n p) (hand_over_below t n q)
unfolding hand_over_below
ahead_hand_over_below a t zero = a
ahead_hand_over_below a t (suc m) = ahead_hand_over_if (ahead_hand_over_below a t m) t m

pub ahead_end_task : {lead : HeadStart} {p q : Parts} → Ahead lead p q → (c t : ℕ) (state : TaskState) → lead.rows t ≡ 0 → Ahead lead (end_task c t state p) (end_task c t state q)
unfolding end_task
ahead_end_task {p = p} {q = q} a c t state z =
    rw (ap length (mutexes-same a)) (still_state (ahead_leave (ahead_stall (ahead_hand_over_below a t (length q.mutexes)) c InBand false) c) t state z)

-- ---- a task that waited for an event reacquires its mutex
module _ {lead : HeadStart} {p q : Parts} (a : Ahead lead p q) where
  bound-same : (e : ℕ) → bound e p ≡ bound e q
  bound-same e = ap (λ events. bound_of (slice_get events e)) (events-same a)

  ahead_reacquire_from : (o : Option ℕ) (t m answer : ℕ) → lead.rows t ≡ 0 → Ahead lead (reacquire_from o t m answer p) (reacquire_from o t m answer q)
  ahead_reacquire_from None t m answer z = ahead_wake (ahead_mutex a m (held_by t 1)) t answer z
  ahead_reacquire_from (Some u) t m answer z = ahead_begin_wait a t (Reacquire m answer) 0 z

  ahead_reacquire_of : (o : Option ℕ) (t answer : ℕ) → lead.rows t ≡ 0 → Ahead lead (reacquire_of o t answer p) (reacquire_of o t answer q)
  ahead_reacquire_of None t answer z = a
  ahead_reacquire_of (Some m) t answer z = rw (ap (λ mutexes. owner mutexes m) (mutexes-same a)) (ahead_reacquire_from (owner q.mutexes m) t m answer z)

  pub ahead_reacquire : (e t answer : ℕ) → lead.rows t ≡ 0 → Ahead lead (reacquire e t answer p) (reacquire e t answer q)
  unfolding reacquire
  ahead_reacquire e t answer z = rw (bound-same e) (ahead_reacquire_of (bound e q) t answer z)

  -- ---- one is put into a semaphore
  done_sem_put_to : (o : Option ℕ) (s count : ℕ) → IsStill lead o → AheadDone lead (sem_put_to o s count p) (sem_put_to o s count q)
  done_sem_put_to None s count z = done_if refl (a, refl) (ahead_semaphore a s (λ n. n + 1), refl)
  done_sem_put_to (Some t) s count z = (ahead_wake a t 0 (z t refl), refl)

  done_sem_put_known : (o : Option ℕ) (s : ℕ) → AheadDone lead (sem_put_known o s p) (sem_put_known o s q)
  done_sem_put_known None s = (a, refl)
  done_sem_put_known (Some count) s = rw (first_waiter-same a (Semaphore s)) (done_sem_put_to (first_waiter (Semaphore s) q) s count (waiter-still a (Semaphore s)))

  pub done_sem_put : (s : ℕ) → AheadDone lead (sem_put s p) (sem_put s q)
  unfolding sem_put
  done_sem_put s = rw (ap (λ counts. slice_get counts s) (semaphores-same a)) (done_sem_put_known (slice_get q.semaphores s) s)

  -- ---- bits are posted to a flag group
  ahead_post_to : (o : Option ℕ) (f word : ℕ) → IsStill lead o → Ahead lead (post_to o f word p) (post_to o f word q)
  ahead_post_to None f word z = ahead_flags a f (λ _. word)
  ahead_post_to (Some t) f word z = ahead_wake (ahead_flags a f (λ _. 0)) t word (z t refl)

  ahead_post_known : (o : Option ℕ) (f bits : ℕ) → Ahead lead (post_known o f bits p) (post_known o f bits q)
  ahead_post_known None f bits = a
  ahead_post_known (Some word) f bits = rw (first_waiter-same a (Flags f)) (ahead_post_to (first_waiter (Flags f) q) f (bit_or word bits) (waiter-still a (Flags f)))

  pub ahead_post : (f bits : ℕ) → Ahead lead (post f bits p) (post f bits q)
  unfolding post
  ahead_post f bits = rw (ap (λ words. slice_get words f) (flags-same a)) (ahead_post_known (slice_get q.flags f) f bits)
