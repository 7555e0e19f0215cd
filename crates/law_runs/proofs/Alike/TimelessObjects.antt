-- The calls on mutexes, semaphores, events, flag groups and timers look at no clock where they name no time.
use Rattle.std.proofs.Common.{ℕ, zero, suc, Option, Some, None, length, refl}
use Rattle.std.specs.Prelude.{slice_get, nat_le, nat_lt, ◌==◌}
use Rattle.evm_model.specs.Boosts.{is_number}
use Rattle.evm_model.specs.Events.{add_event, begin_event_wait, broadcast, event_wait, event_wait_known, event_wait_unless, event_wait_with, has_other, holding_refusal, new_event, signal, signal_first, signal_known, signal_rounds, signal_to}
use Rattle.evm_model.specs.Flags.{add_flags, flags_post, flags_post_known, flags_wait, flags_wait_known, new_flags}
use Rattle.evm_model.specs.Locks.{add_mutex, cycle_refusal, lock, lock_again, lock_known, lock_other, lock_owned, mutex_of, new_mutex, new_mutex_as, take_mutex, try_known, try_lock, try_owned, unlock, unlock_known, unlock_once}
use Rattle.evm_model.specs.Semaphores.{add_semaphore, new_semaphore, sem_get, sem_get_known, sem_try_get, sem_try_get_known}
use Rattle.evm_model.specs.Stages.{is_stalled, wait_refusal, wait_unless}
use Rattle.evm_model.specs.State.{Parts, on_event}
use Rattle.evm_model.specs.Timers.{add_timer, idle_timer, new_timer, set_timer, taken, timer_set, timer_set_known, timer_wait, timer_wait_known}
use Rattle.evm_model.specs.Waits.{begin_wait, first_waiter}
use Rattle.evm_model.specs.declared.errno.Errno.{Errno}
use Rattle.evm_model.specs.declared.errno.Errno.TheVariants.{NotPermitted, Deadlock}
use Rattle.evm_model.specs.declared.limits.TheConstants.{EVENT_LIMIT, FLAGS_LIMIT, FLAGS_WORD_LIMIT, MUTEX_LIMIT, SEMAPHORE_COUNT_LIMIT, SEMAPHORE_LIMIT, TIMER_LIMIT, TIMER_SPAN_LIMIT}
use Rattle.evm_model.specs.declared.mutex.Mutex.{Mutex}
use Rattle.evm_model.specs.declared.notice.NoticeKind.TheVariants.{Deadlock as Unending, NotOwner}
use Rattle.evm_model.specs.declared.stage.Stage.TheVariants.{OutOfBand}
use Rattle.evm_model.specs.declared.task.Wait.{Wait}
use Rattle.evm_model.specs.declared.task.Wait.TheVariants.{Lock, Semaphore, Event, Flags, Timer as For}
use Rattle.evm_model.specs.declared.timer.Timer.{Timer}
use Rattle.law_runs.specs.Timeless.{timeless, HasNoTimes}
use Rattle.law_runs.proofs.Alike.Timeless.{Clockless, ClocklessDone, at_once, onward, clockless_if, done_if, done_notify, no_times_timer, no_times_add_timer}
use Rattle.law_runs.proofs.Alike.TimelessTasks.{clockless_begin_wait, clockless_hand_over, clockless_reacquire, clockless_post}

-- a wait without a deadline, unless it is refused
module _ (p : Parts) (h : HasNoTimes p) where
  done_wait : (o : Option Errno) (t : ℕ) (wait : Wait) → ClocklessDone (wait_unless o t wait 0 p) (wait_unless o t wait 0 (timeless p))
  done_wait None t wait = (clockless_begin_wait p h t wait, refl)
  done_wait (Some e) t wait = (at_once h, refl)

-- ---- mutexes
module _ (p : Parts) (h : HasNoTimes p) where
  new_mutex_by : (o : Option Mutex) → ClocklessDone (new_mutex_as o p) (new_mutex_as o (timeless p))
  unfolding add_mutex
  new_mutex_by None = (at_once h, refl)
  new_mutex_by (Some mutex) = done_if (nat_le MUTEX_LIMIT (length p.mutexes)) (at_once h, refl) (at_once h, refl)

  pub done_new_mutex : (kind priority : ℕ) → ClocklessDone (new_mutex kind priority p) (new_mutex kind priority (timeless p))
  unfolding new_mutex
  done_new_mutex kind priority = new_mutex_by (mutex_of kind priority)

  again : (t m : ℕ) (mutex : Mutex) → ClocklessDone (lock_again t m mutex p) (lock_again t m mutex (timeless p))
  unfolding lock_again
  again t m mutex = done_if mutex.recursive (at_once h, refl) (at_once h, refl)

  other : (c t m u : ℕ) → ClocklessDone (lock_other c t m u 0 p) (lock_other c t m u 0 (timeless p))
  unfolding lock_other
  other c t m u = done_wait p h (wait_refusal (is_stalled OutOfBand c p) (cycle_refusal t u p) p.ticks 0) t (Lock m)

  lock_by : (o : Option ℕ) (c t m : ℕ) (mutex : Mutex) → ClocklessDone (lock_owned o c t m 0 mutex p) (lock_owned o c t m 0 mutex (timeless p))
  unfolding take_mutex
  lock_by None c t m mutex = (at_once h, refl)
  lock_by (Some u) c t m mutex = done_if (u == t) (again t m mutex) (other c t m u)

  lock_in : (o : Option Mutex) (c t m : ℕ) → ClocklessDone (lock_known o c t m 0 p) (lock_known o c t m 0 (timeless p))
  lock_in None c t m = (at_once h, refl)
  lock_in (Some mutex) c t m = lock_by mutex.owner c t m mutex

  pub done_lock : (c t m : ℕ) → ClocklessDone (lock c t m 0 p) (lock c t m 0 (timeless p))
  unfolding lock
  done_lock c t m = done_notify (lock_in (slice_get p.mutexes m) c t m) Deadlock Unending t

  try_by : (o : Option ℕ) (t m : ℕ) (mutex : Mutex) → ClocklessDone (try_owned o t m mutex p) (try_owned o t m mutex (timeless p))
  unfolding take_mutex
  try_by None t m mutex = (at_once h, refl)
  try_by (Some u) t m mutex = done_if (u == t) (again t m mutex) (at_once h, refl)

  try_in : (o : Option Mutex) (t m : ℕ) → ClocklessDone (try_known o t m p) (try_known o t m (timeless p))
  try_in None t m = (at_once h, refl)
  try_in (Some mutex) t m = try_by mutex.owner t m mutex

  pub done_try_lock : (t m : ℕ) → ClocklessDone (try_lock t m p) (try_lock t m (timeless p))
  unfolding try_lock
  done_try_lock t m = done_notify (try_in (slice_get p.mutexes m) t m) Deadlock Unending t

  unlock_by : (t m : ℕ) (mutex : Mutex) → Clockless (unlock_once t m mutex p) (unlock_once t m mutex (timeless p))
  unfolding unlock_once
  unlock_by t m mutex = clockless_if (nat_le mutex.count 1) (clockless_hand_over p h m) (at_once h)

  unlock_in : (o : Option Mutex) (t m : ℕ) → ClocklessDone (unlock_known o t m p) (unlock_known o t m (timeless p))
  unlock_in None t m = (at_once h, refl)
  unlock_in (Some mutex) t m = done_if (is_number mutex.owner t) (unlock_by t m mutex, refl) (at_once h, refl)

  pub done_unlock : (t m : ℕ) → ClocklessDone (unlock t m p) (unlock t m (timeless p))
  unfolding unlock
  done_unlock t m = done_notify (unlock_in (slice_get p.mutexes m) t m) NotPermitted NotOwner t

-- ---- semaphores
module _ (p : Parts) (h : HasNoTimes p) where
  pub done_new_semaphore : (count : ℕ) → ClocklessDone (new_semaphore count p) (new_semaphore count (timeless p))
  unfolding new_semaphore add_semaphore
  done_new_semaphore count =
      done_if (nat_lt SEMAPHORE_COUNT_LIMIT count) (at_once h, refl) (done_if (nat_le SEMAPHORE_LIMIT (length p.semaphores)) (at_once h, refl) (at_once h, refl))

  get_in : (o : Option ℕ) (c t s : ℕ) → ClocklessDone (sem_get_known o c t s 0 p) (sem_get_known o c t s 0 (timeless p))
  get_in None c t s = (at_once h, refl)
  get_in (Some count) c t s = done_if (count == 0) (done_wait p h (wait_refusal (is_stalled OutOfBand c p) None p.ticks 0) t (Semaphore s)) (at_once h, refl)

  pub done_sem_get : (c t s : ℕ) → ClocklessDone (sem_get c t s 0 p) (sem_get c t s 0 (timeless p))
  unfolding sem_get
  done_sem_get c t s = get_in (slice_get p.semaphores s) c t s

  try_get_in : (o : Option ℕ) (s : ℕ) → ClocklessDone (sem_try_get_known o s p) (sem_try_get_known o s (timeless p))
  try_get_in None s = (at_once h, refl)
  try_get_in (Some count) s = done_if (count == 0) (at_once h, refl) (at_once h, refl)

  pub done_sem_try_get : (s : ℕ) → ClocklessDone (sem_try_get s p) (sem_try_get s (timeless p))
  unfolding sem_try_get
  done_sem_try_get s = try_get_in (slice_get p.semaphores s) s

  -- ---- flag groups
  pub done_new_flags : ClocklessDone (new_flags p) (new_flags (timeless p))
  unfolding new_flags add_flags
  done_new_flags = done_if (nat_le FLAGS_LIMIT (length p.flags)) (at_once h, refl) (at_once h, refl)

  flags_wait_in : (o : Option ℕ) (c t f : ℕ) → ClocklessDone (flags_wait_known o c t f 0 p) (flags_wait_known o c t f 0 (timeless p))
  flags_wait_in None c t f = (at_once h, refl)
  flags_wait_in (Some word) c t f = done_if (word == 0) (done_wait p h (wait_refusal (is_stalled OutOfBand c p) None p.ticks 0) t (Flags f)) (at_once h, refl)

  pub done_flags_wait : (c t f : ℕ) → ClocklessDone (flags_wait c t f 0 p) (flags_wait c t f 0 (timeless p))
  unfolding flags_wait
  done_flags_wait c t f = flags_wait_in (slice_get p.flags f) c t f

  flags_post_in : (o : Option ℕ) (f bits : ℕ) → ClocklessDone (flags_post_known o f bits p) (flags_post_known o f bits (timeless p))
  flags_post_in None f bits = (at_once h, refl)
  flags_post_in (Some word) f bits = done_if (bits == 0) (at_once h, refl) (done_if (nat_lt FLAGS_WORD_LIMIT bits) (at_once h, refl) (clockless_post p h f bits, refl))

  pub done_flags_post : (f bits : ℕ) → ClocklessDone (flags_post f bits p) (flags_post f bits (timeless p))
  unfolding flags_post
  done_flags_post f bits = flags_post_in (slice_get p.flags f) f bits

  -- ---- timers
  pub done_new_timer : ClocklessDone (new_timer p) (new_timer (timeless p))
  unfolding new_timer add_timer
  done_new_timer = done_if (nat_le TIMER_LIMIT (length p.timers)) (at_once h, refl) (at_once (no_times_add_timer h idle_timer refl), refl)

  timer_set_in : (o : Option Timer) (c n period : ℕ) → ClocklessDone (timer_set_known o c n 0 period p) (timer_set_known o c n 0 period (timeless p))
  timer_set_in None c n period = (at_once h, refl)
  timer_set_in (Some timer) c n period =
      done_if (nat_lt TIMER_SPAN_LIMIT period) (at_once h, refl) (at_once (no_times_timer h n (λ _. set_timer c 0 period) (λ x e. refl)), refl)

  -- off
  pub done_timer_set : (c n period : ℕ) → ClocklessDone (timer_set c n 0 period p) (timer_set c n 0 period (timeless p))
  unfolding timer_set
  done_timer_set c n period = timer_set_in (slice_get p.timers n) c n period

  timer_wait_in : (o : Option Timer) (c t n : ℕ) → ClocklessDone (timer_wait_known o c t n p) (timer_wait_known o c t n (timeless p))
  timer_wait_in None c t n = (at_once h, refl)
  timer_wait_in (Some timer) c t n =
      done_if (nat_lt 0 timer.expiries) (at_once (no_times_timer h n taken (λ x e. e)), refl)
      (done_if (timer.due == 0) (at_once h, refl) (done_wait p h (wait_refusal (is_stalled OutOfBand c p) None p.ticks 0) t (For n)))

  pub done_timer_wait : (c t n : ℕ) → ClocklessDone (timer_wait c t n p) (timer_wait c t n (timeless p))
  unfolding timer_wait
  done_timer_wait c t n = timer_wait_in (slice_get p.timers n) c t n

-- ---- events
module _ (p : Parts) (h : HasNoTimes p) where
  signal_by : (o : Option ℕ) (e : ℕ) → Clockless (signal_to o e p) (signal_to o e (timeless p))
  signal_by None e = at_once h
  signal_by (Some t) e = clockless_reacquire p h e t 0

  clockless_signal : (e : ℕ) → Clockless (signal_first e p) (signal_first e (timeless p))
  unfolding signal_first first_waiter
  clockless_signal e = signal_by (first_waiter (Event e) p) e

  clockless_begin_event_wait : (t e m : ℕ) → Clockless (begin_event_wait t e m 0 p) (begin_event_wait t e m 0 (timeless p))
  unfolding begin_event_wait
  clockless_begin_event_wait t e m = onward (begin_wait t (Event e) 0) (clockless_hand_over (on_event e (λ _. Some m) p) h m) (λ q k. clockless_begin_wait q k t (Event e))

  event_wait_by : (o : Option Errno) (t e m : ℕ) → ClocklessDone (event_wait_unless o t e m 0 p) (event_wait_unless o t e m 0 (timeless p))
  event_wait_by (Some error) t e m = (at_once h, refl)
  event_wait_by None t e m = (clockless_begin_event_wait t e m, refl)

  event_wait_of : (o : Option Mutex) (c t e m : ℕ) → ClocklessDone (event_wait_with o c t e m 0 p) (event_wait_with o c t e m 0 (timeless p))
  unfolding first_waiter
  event_wait_of None c t e m = (at_once h, refl)
  event_wait_of (Some mutex) c t e m =
      done_if (has_other e m p) (at_once h, refl) (event_wait_by (wait_refusal (is_stalled OutOfBand c p) (holding_refusal t m mutex p) p.ticks 0) t e m)

  event_wait_in : (o : Option (Option ℕ)) (c t e m : ℕ) → ClocklessDone (event_wait_known o c t e m 0 p) (event_wait_known o c t e m 0 (timeless p))
  event_wait_in None c t e m = (at_once h, refl)
  event_wait_in (Some mutex) c t e m = event_wait_of (slice_get p.mutexes m) c t e m

  pub done_event_wait : (c t e m : ℕ) → ClocklessDone (event_wait c t e m 0 p) (event_wait c t e m 0 (timeless p))
  unfolding event_wait
  done_event_wait c t e m = event_wait_in (slice_get p.events e) c t e m

  pub done_new_event : ClocklessDone (new_event p) (new_event (timeless p))
  unfolding new_event add_event
  done_new_event = done_if (nat_le EVENT_LIMIT (length p.events)) (at_once h, refl) (at_once h, refl)

module _ (p : Parts) (h : HasNoTimes p) where
  clockless_signals : (e n : ℕ) → Clockless (signal_rounds e n p) (signal_rounds e n (timeless p))
  unfolding signal_rounds
  clockless_signals e zero = at_once h
  clockless_signals e (suc n) = onward (signal_first e) (clockless_signals e n) (λ q k. clockless_signal q k e)

  signal_in : (o : Option (Option ℕ)) (e rounds : ℕ) → ClocklessDone (signal_known o e rounds p) (signal_known o e rounds (timeless p))
  signal_in None e rounds = (at_once h, refl)
  signal_in (Some mutex) e rounds = (clockless_signals e rounds, refl)

  pub done_signal : (e : ℕ) → ClocklessDone (signal e p) (signal e (timeless p))
  unfolding signal
  done_signal e = signal_in (slice_get p.events e) e 1

  pub done_broadcast : (e : ℕ) → ClocklessDone (broadcast e p) (broadcast e (timeless p))
  unfolding broadcast
  done_broadcast e = signal_in (slice_get p.events e) e (length p.tasks)
