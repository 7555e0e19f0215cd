-- What calls on objects leave alone of their own task.
use Rattle.std.proofs.Common.{◌≡◌, ℕ, zero, suc, true, Option, Some, None, length, refl}
use Rattle.std.specs.Prelude.{slice_get, bit_or, nat_lt, nat_le, ◌==◌}
use Rattle.evm_model.specs.Good.{is_ready}
use Rattle.evm_model.specs.Harts.{answer}
use Rattle.evm_model.specs.Mutexes.{owner, held_by}
use Rattle.evm_model.specs.Passing.{hand_over}
use Rattle.evm_model.specs.Profiles.{line_count}
use Rattle.evm_model.specs.Semaphores.{add_semaphore, new_semaphore, sem_get_known, sem_get, sem_try_get_known, sem_try_get, sem_put_to, sem_put_known, sem_put}
use Rattle.evm_model.specs.Stages.{is_stalled, wait_refusal}
use Rattle.evm_model.specs.State.{Parts, on_mutex, on_event, on_flags}
use Rattle.evm_model.specs.Waits.{first_waiter}
use Rattle.evm_model.specs.declared.errno.Errno.{Errno}
use Rattle.evm_model.specs.declared.limits.TheConstants.{EVENT_LIMIT, FLAGS_LIMIT, FLAGS_WORD_LIMIT, SEMAPHORE_LIMIT, SEMAPHORE_COUNT_LIMIT, TIMER_LIMIT, TIMER_SPAN_LIMIT}
use Rattle.evm_model.specs.declared.mutex.Mutex.{Mutex}
use Rattle.evm_model.specs.declared.stage.Stage.TheVariants.{OutOfBand}
use Rattle.evm_model.specs.declared.task.Task.{Task}
use Rattle.evm_model.specs.declared.task.Wait.TheVariants.{Reacquire, Semaphore, Event, Flags, Sleep, Timer as For}
use Rattle.law_runs.specs.Own.{nothing, waiting}
use Rattle.evm_model.specs.Actions.{action_of, set_line_to, set_line}
use Rattle.evm_model.specs.Deadlines.{sleep_until}
use Rattle.evm_model.specs.Events.{add_event, new_event, bound, reacquire_from, reacquire_of, reacquire, has_other, holding_refusal, begin_event_wait, event_wait_unless, event_wait_with, event_wait_known, event_wait, signal_to, signal_first, signal_rounds, signal_known, signal, broadcast}
use Rattle.evm_model.specs.Flags.{add_flags, new_flags, flags_wait_known, flags_wait, post_to, post_known, post, flags_post_known, flags_post}
use Rattle.evm_model.specs.Timers.{add_timer, new_timer, timer_set_known, timer_set, timer_wait_known, timer_wait}
use Rattle.evm_model.specs.declared.action.Action.{Action}
use Rattle.evm_model.specs.declared.timer.Timer.{Timer}
use Rattle.law_runs.proofs.Owning.{Own, Apart, alone, same, either, another, wakes_another, waits_another, hands_over, waits_unless, waits_after}

module _ (t : ℕ) (task : Task) (k : Parts) (there : slice_get k.tasks t ≡ Some task) (ready : is_ready task.state ≡ true) where
  pub sets_up : (count : ℕ) → Own nothing t task k (new_semaphore count k).0
  unfolding new_semaphore add_semaphore
  sets_up count =
      either t task k there ready nothing (nat_lt SEMAPHORE_COUNT_LIMIT count) _ _ (same t task k there ready nothing) (either t task k there ready nothing (nat_le SEMAPHORE_LIMIT (length k.semaphores)) _ _ (same t task k there ready nothing) (alone t task k there ready nothing _ (record { task = refl; hart = refl })))

  gets_known : (o : Option ℕ) (c s deadline : ℕ) → Own waiting t task k (sem_get_known o c t s deadline k).0
  gets_known None c s deadline = same t task k there ready waiting
  gets_known (Some count) c s deadline =
      either t task k there ready waiting (count == 0) _ _ (waits_unless t task k there ready (wait_refusal (is_stalled OutOfBand c k) None k.ticks deadline) (Semaphore s) deadline) (alone t task k there ready waiting _ (record { task = refl; hart = refl }))

  pub gets : (c s deadline : ℕ) → Own waiting t task k (sem_get c t s deadline k).0
  unfolding sem_get
  gets c s deadline = gets_known (slice_get k.semaphores s) c s deadline

  tries_get_known : (o : Option ℕ) (s : ℕ) → Own nothing t task k (sem_try_get_known o s k).0
  tries_get_known None s = same t task k there ready nothing
  tries_get_known (Some count) s = either t task k there ready nothing (count == 0) _ _ (same t task k there ready nothing) (alone t task k there ready nothing _ (record { task = refl; hart = refl }))

  pub tries_get : (s : ℕ) → Own nothing t task k (sem_try_get s k).0
  unfolding sem_try_get
  tries_get s = tries_get_known (slice_get k.semaphores s) s

  puts_to : (o : Option ℕ) (s count : ℕ) → first_waiter (Semaphore s) k ≡ o → Own nothing t task k (sem_put_to o s count k).0
  puts_to None s count first = either t task k there ready nothing (nat_le SEMAPHORE_COUNT_LIMIT count) _ _ (same t task k there ready nothing) (alone t task k there ready nothing _ (record { task = refl; hart = refl }))
  puts_to (Some u) s count first = alone t task k there ready nothing _ (wakes_another t task k there ready u 0 k (another t task k there ready u (Semaphore s) k refl first) (record { task = refl; hart = refl }))

  puts_known : (o : Option ℕ) (s : ℕ) → Own nothing t task k (sem_put_known o s k).0
  puts_known None s = same t task k there ready nothing
  puts_known (Some count) s = puts_to (first_waiter (Semaphore s) k) s count refl

  pub puts : (s : ℕ) → Own nothing t task k (sem_put s k).0
  unfolding sem_put
  puts s = puts_known (slice_get k.semaphores s) s

  -- ---- flag groups
  pub adds_flags_group : Own nothing t task k (new_flags k).0
  unfolding new_flags add_flags
  adds_flags_group = either t task k there ready nothing (nat_le FLAGS_LIMIT (length k.flags)) _ _ (same t task k there ready nothing) (alone t task k there ready nothing _ (record { task = refl; hart = refl }))

  takes_known : (o : Option ℕ) (c f deadline : ℕ) → Own waiting t task k (flags_wait_known o c t f deadline k).0
  takes_known None c f deadline = same t task k there ready waiting
  takes_known (Some word) c f deadline =
      either t task k there ready waiting (word == 0) _ _ (waits_unless t task k there ready (wait_refusal (is_stalled OutOfBand c k) None k.ticks deadline) (Flags f) deadline) (alone t task k there ready waiting _ (record { task = refl; hart = refl }))

  pub takes_word : (c f deadline : ℕ) → Own waiting t task k (flags_wait c t f deadline k).0
  unfolding flags_wait
  takes_word c f deadline = takes_known (slice_get k.flags f) c f deadline

  posts_to : (o : Option ℕ) (f word : ℕ) → first_waiter (Flags f) k ≡ o → Apart t k (post_to o f word k)
  posts_to None f word first = record { task = refl; hart = refl }
  posts_to (Some u) f word first = wakes_another t task k there ready u word (on_flags f (λ old. 0) k) (another t task k there ready u (Flags f) k refl first) (record { task = refl; hart = refl })

  posts_word : (o : Option ℕ) (f bits : ℕ) → Apart t k (post_known o f bits k)
  posts_word None f bits = record { task = refl; hart = refl }
  posts_word (Some word) f bits = posts_to (first_waiter (Flags f) k) f (bit_or word bits) refl

  posts_bits : (f bits : ℕ) → Apart t k (post f bits k)
  unfolding post
  posts_bits f bits = posts_word (slice_get k.flags f) f bits

  posts_known : (o : Option ℕ) (f bits : ℕ) → Own nothing t task k (flags_post_known o f bits k).0
  posts_known None f bits = same t task k there ready nothing
  posts_known (Some word) f bits =
      either t task k there ready nothing (bits == 0) _ _ (same t task k there ready nothing) (either t task k there ready nothing (nat_lt FLAGS_WORD_LIMIT bits) _ _ (same t task k there ready nothing) (alone t task k there ready nothing (post f bits k) (posts_bits f bits)))

  pub posts : (f bits : ℕ) → Own nothing t task k (flags_post f bits k).0
  unfolding flags_post
  posts f bits = posts_known (slice_get k.flags f) f bits

  -- ---- timers, and the sleep
  pub adds_a_timer : Own nothing t task k (new_timer k).0
  unfolding new_timer add_timer
  adds_a_timer = either t task k there ready nothing (nat_le TIMER_LIMIT (length k.timers)) _ _ (same t task k there ready nothing) (alone t task k there ready nothing _ (record { task = refl; hart = refl }))

  sets_known : (o : Option Timer) (c n first period : ℕ) → Own nothing t task k (timer_set_known o c n first period k).0
  sets_known None c n first period = same t task k there ready nothing
  sets_known (Some timer) c n first period =
      either t task k there ready nothing (nat_lt TIMER_SPAN_LIMIT first) _ _ (same t task k there ready nothing) (either t task k there ready nothing (nat_lt TIMER_SPAN_LIMIT period) _ _ (same t task k there ready nothing) (alone t task k there ready nothing _ (record { task = refl; hart = refl })))

  pub sets_a_timer : (c n first period : ℕ) → Own nothing t task k (timer_set c n first period k).0
  unfolding timer_set
  sets_a_timer c n first period = sets_known (slice_get k.timers n) c n first period

  awaits_known : (o : Option Timer) (c n : ℕ) → Own waiting t task k (timer_wait_known o c t n k).0
  awaits_known None c n = same t task k there ready waiting
  awaits_known (Some timer) c n =
      either t task k there ready waiting (nat_lt 0 timer.expiries) _ _ (alone t task k there ready waiting _ (record { task = refl; hart = refl }))
      (either t task k there ready waiting (timer.due == 0) _ _ (same t task k there ready waiting) (waits_unless t task k there ready (wait_refusal (is_stalled OutOfBand c k) None k.ticks 0) (For n) 0))

  pub awaits_a_timer : (c n : ℕ) → Own waiting t task k (timer_wait c t n k).0
  unfolding timer_wait
  awaits_a_timer c n = awaits_known (slice_get k.timers n) c n

  pub sleeps : (c until : ℕ) → Own waiting t task k (sleep_until c t until k).0
  unfolding sleep_until
  sleeps c until = either t task k there ready waiting (nat_le until k.ticks) _ _ (same t task k there ready waiting) (waits_unless t task k there ready (wait_refusal (is_stalled OutOfBand c k) None k.ticks until) Sleep until)

  -- ---- actions of lines
  sets_line_to : (o : Option Action) (l : ℕ) → Own nothing t task k (set_line_to o l k).0
  sets_line_to None l = same t task k there ready nothing
  sets_line_to (Some action) l = alone t task k there ready nothing _ (record { task = refl; hart = refl })

  pub sets_line : (l action object : ℕ) → Own nothing t task k (set_line l action object k).0
  unfolding set_line
  sets_line l action object =
      either t task k there ready nothing (nat_lt l 2) _ _ (same t task k there ready nothing) (either t task k there ready nothing (nat_le (line_count k.profile) l) _ _ (same t task k there ready nothing) (sets_line_to (action_of l action object k) l))

  -- ---- events
  pub adds_an_event : Own nothing t task k (new_event k).0
  unfolding new_event add_event
  adds_an_event = either t task k there ready nothing (nat_le EVENT_LIMIT (length k.events)) _ _ (same t task k there ready nothing) (alone t task k there ready nothing _ (record { task = refl; hart = refl }))

  awaits_event : (e m deadline : ℕ) → Own waiting t task k (begin_event_wait t e m deadline k)
  unfolding begin_event_wait
  awaits_event e m deadline =
      let named : Parts = on_event e (λ old. Some m) k in
      waits_after t task k there ready (hand_over m named) (Event e) deadline (hands_over t task k there ready m named (record { task = refl; hart = refl }))

  event_unless : (o : Option Errno) (e m deadline : ℕ) → Own waiting t task k (event_wait_unless o t e m deadline k).0
  event_unless (Some error) e m deadline = same t task k there ready waiting
  event_unless None e m deadline = awaits_event e m deadline

  event_with : (o : Option Mutex) (c e m deadline : ℕ) → Own waiting t task k (event_wait_with o c t e m deadline k).0
  event_with None c e m deadline = same t task k there ready waiting
  event_with (Some mutex) c e m deadline =
      either t task k there ready waiting (has_other e m k) _ _ (same t task k there ready waiting) (event_unless (wait_refusal (is_stalled OutOfBand c k) (holding_refusal t m mutex k) k.ticks deadline) e m deadline)

  event_known : (o : Option (Option ℕ)) (c e m deadline : ℕ) → Own waiting t task k (event_wait_known o c t e m deadline k).0
  event_known None c e m deadline = same t task k there ready waiting
  event_known (Some mutex) c e m deadline = event_with (slice_get k.mutexes m) c e m deadline

  pub waits_event : (c e m deadline : ℕ) → Own waiting t task k (event_wait c t e m deadline k).0
  unfolding event_wait
  waits_event c e m deadline = event_known (slice_get k.events e) c e m deadline

  reacquires_from : (o : Option ℕ) (u m answer : ℕ) (x : Parts) → (t ≡ u → ⊥) → Apart t k x → Apart t k (reacquire_from o u m answer x)
  reacquires_from None u m answer x other a = wakes_another t task k there ready u answer (on_mutex m (held_by u 1) x) other (record { task = a.task; hart = a.hart })
  reacquires_from (Some v) u m answer x other a = waits_another t task k there ready u (Reacquire m answer) 0 x other a

  reacquires_of : (o : Option ℕ) (u answer : ℕ) (x : Parts) → (t ≡ u → ⊥) → Apart t k x → Apart t k (reacquire_of o u answer x)
  reacquires_of None u answer x other a = a
  reacquires_of (Some m) u answer x other a = reacquires_from (owner x.mutexes m) u m answer x other a

  reacquires : (e u answer : ℕ) (x : Parts) → (t ≡ u → ⊥) → Apart t k x → Apart t k (reacquire e u answer x)
  unfolding reacquire
  reacquires e u answer x other a = reacquires_of (bound e x) u answer x other a

  signals_to : (o : Option ℕ) (e : ℕ) (x : Parts) → first_waiter (Event e) x ≡ o → Apart t k x → Apart t k (signal_to o e x)
  signals_to None e x first a = a
  signals_to (Some u) e x first a = reacquires e u 0 x (another t task k there ready u (Event e) x a.task first) a

  signals_first : (e : ℕ) (x : Parts) → Apart t k x → Apart t k (signal_first e x)
  unfolding signal_first
  signals_first e x a = signals_to (first_waiter (Event e) x) e x refl a

  signals_rounds : (e n : ℕ) → Apart t k (signal_rounds e n k)
  unfolding signal_rounds
  signals_rounds e zero = record { task = refl; hart = refl }
  signals_rounds e (suc n) = signals_first e (signal_rounds e n k) (signals_rounds e n)

  signals_known : (o : Option (Option ℕ)) (e n : ℕ) → Own nothing t task k (signal_known o e n k).0
  signals_known None e n = same t task k there ready nothing
  signals_known (Some mutex) e n = alone t task k there ready nothing (signal_rounds e n k) (signals_rounds e n)

  pub signals : (e : ℕ) → Own nothing t task k (signal e k).0
  unfolding signal
  signals e = signals_known (slice_get k.events e) e 1

  pub broadcasts : (e : ℕ) → Own nothing t task k (broadcast e k).0
  unfolding broadcast
  broadcasts e = signals_known (slice_get k.events e) e (length k.tasks)
