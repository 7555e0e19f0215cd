-- Each call on a semaphore, a flag group or a timer, a sleep, and the call that sets a line's action do alike to alike parts.
use Rattle.std.proofs.Common.{◌≡◌, ℕ, ◌-◌, [], ◌∷◌, ◌++◌, Option, Some, None, length, refl, ap}
use Rattle.std.specs.Prelude.{nat_le, nat_lt, slice_get, ◌==◌}
use Rattle.evm_model.specs.Actions.{action_of, set_line, set_line_to}
use Rattle.evm_model.specs.Deadlines.{sleep_until}
use Rattle.evm_model.specs.Flags.{add_flags, flags_post, flags_post_known, flags_wait, flags_wait_known, new_flags, post}
use Rattle.evm_model.specs.Profiles.{line_count}
use Rattle.evm_model.specs.Semaphores.{add_semaphore, new_semaphore, sem_get, sem_get_known, sem_try_get, sem_try_get_known}
use Rattle.evm_model.specs.Stages.{refused}
use Rattle.evm_model.specs.State.{Parts, on_timer}
use Rattle.evm_model.specs.Timers.{add_timer, idle_timer, new_timer, set_timer, taken, timer_set, timer_set_known, timer_wait, timer_wait_known}
use Rattle.evm_model.specs.declared.action.Action.{Action}
use Rattle.evm_model.specs.declared.call.Outcome.TheVariants.{Returns}
use Rattle.evm_model.specs.declared.errno.Errno.TheVariants.{Invalid}
use Rattle.evm_model.specs.declared.limits.TheConstants.{FLAGS_LIMIT, FLAGS_WORD_LIMIT, SEMAPHORE_LIMIT, TIMER_LIMIT, TIMER_SPAN_LIMIT}
use Rattle.evm_model.specs.declared.stage.Stage.TheVariants.{OutOfBand}
use Rattle.evm_model.specs.declared.task.Wait.TheVariants.{Flags, Semaphore, Sleep, Timer as For}
use Rattle.evm_model.specs.declared.timer.Timer.{Timer}
use Rattle.law_runs.specs.Alike.{Alike}
use Rattle.law_runs.proofs.Alike.Changing.{AlikeDone, alike_action, alike_flags, alike_semaphore, alike_timer, done_if}
use Rattle.law_runs.proofs.Alike.Tasks.{alike_post, done_wait}

module _ {p q : Parts} (a : Alike p q) where
  -- ---- call 10
  alike_add_semaphore : (count : ℕ) → Alike (add_semaphore count p) (add_semaphore count q)
  unfolding add_semaphore
  alike_add_semaphore count = record { same = ap (λ (x : Parts). record x { semaphores = x.semaphores ++ count ∷ [] }) a.same; order = a.order; below = a.below; other_below = a.other_below }

  pub done_new_semaphore : (count : ℕ) → AlikeDone (new_semaphore count p) (new_semaphore count q)
  unfolding new_semaphore
  done_new_semaphore count =
      let size : length p.semaphores ≡ length q.semaphores = ap (λ (x : Parts). length x.semaphores) a.same in
      done_if refl (a, refl) (done_if (ap (nat_le SEMAPHORE_LIMIT) size) (a, refl) (alike_add_semaphore count, ap Returns size))

  -- ---- calls 39 and 40
  semaphore-same : (s : ℕ) → slice_get p.semaphores s ≡ slice_get q.semaphores s
  semaphore-same s = ap (λ (x : Parts). slice_get x.semaphores s) a.same

  get_in : (o : Option ℕ) (c t s deadline : ℕ) → AlikeDone (sem_get_known o c t s deadline p) (sem_get_known o c t s deadline q)
  get_in None c t s deadline = (a, refl)
  get_in (Some count) c t s deadline =
      done_if refl (done_wait a OutOfBand c None None t (Semaphore s) deadline refl) (alike_semaphore a s (λ n. n - 1), refl)

  pub done_sem_get : (c t s deadline : ℕ) → AlikeDone (sem_get c t s deadline p) (sem_get c t s deadline q)
  unfolding sem_get
  done_sem_get c t s deadline = rw (← semaphore-same s) (get_in (slice_get p.semaphores s) c t s deadline)

  try_in : (o : Option ℕ) (s : ℕ) → AlikeDone (sem_try_get_known o s p) (sem_try_get_known o s q)
  try_in None s = (a, refl)
  try_in (Some count) s = done_if refl (a, refl) (alike_semaphore a s (λ n. n - 1), refl)

  pub done_sem_try_get : (s : ℕ) → AlikeDone (sem_try_get s p) (sem_try_get s q)
  unfolding sem_try_get
  done_sem_try_get s = rw (← semaphore-same s) (try_in (slice_get p.semaphores s) s)

  -- ---- call 12
  alike_add_flags : Alike (add_flags p) (add_flags q)
  unfolding add_flags
  alike_add_flags = record { same = ap (λ (x : Parts). record x { flags = x.flags ++ 0 ∷ [] }) a.same; order = a.order; below = a.below; other_below = a.other_below }

  pub done_new_flags : AlikeDone (new_flags p) (new_flags q)
  unfolding new_flags
  done_new_flags =
      let size : length p.flags ≡ length q.flags = ap (λ (x : Parts). length x.flags) a.same in
      done_if (ap (nat_le FLAGS_LIMIT) size) (a, refl) (alike_add_flags, ap Returns size)

  -- ---- call 45
  word-same : (f : ℕ) → slice_get p.flags f ≡ slice_get q.flags f
  word-same f = ap (λ (x : Parts). slice_get x.flags f) a.same

  wait_in : (o : Option ℕ) (c t f deadline : ℕ) → AlikeDone (flags_wait_known o c t f deadline p) (flags_wait_known o c t f deadline q)
  wait_in None c t f deadline = (a, refl)
  wait_in (Some word) c t f deadline =
      done_if refl (done_wait a OutOfBand c None None t (Flags f) deadline refl) (alike_flags a f (λ _. 0), refl)

  pub done_flags_wait : (c t f deadline : ℕ) → AlikeDone (flags_wait c t f deadline p) (flags_wait c t f deadline q)
  unfolding flags_wait
  done_flags_wait c t f deadline = rw (← word-same f) (wait_in (slice_get p.flags f) c t f deadline)

  -- ---- call 46
  flags_post_in : (o : Option ℕ) (f bits : ℕ) → AlikeDone (flags_post_known o f bits p) (flags_post_known o f bits q)
  flags_post_in None f bits = (a, refl)
  flags_post_in (Some word) f bits =
      done_if {b = bits == 0} {p = refused Invalid p} refl (a, refl)
      (done_if {b = nat_lt FLAGS_WORD_LIMIT bits} {p = refused Invalid p} {x = (post f bits p, Returns 0)} refl (a, refl) (alike_post a f bits, refl))

  pub done_flags_post : (f bits : ℕ) → AlikeDone (flags_post f bits p) (flags_post f bits q)
  unfolding flags_post
  done_flags_post f bits = rw (← word-same f) (flags_post_in (slice_get p.flags f) f bits)

  -- ---- call 47
  pub done_sleep : (c t until : ℕ) → AlikeDone (sleep_until c t until p) (sleep_until c t until q)
  unfolding sleep_until
  done_sleep c t until =
      done_if (ap (λ (x : Parts). nat_le until x.ticks) a.same) (a, refl) (done_wait a OutOfBand c None None t Sleep until refl)

  -- ---- call 13
  alike_add_timer : Alike (add_timer p) (add_timer q)
  unfolding add_timer
  alike_add_timer = record { same = ap (λ (x : Parts). record x { timers = x.timers ++ idle_timer ∷ [] }) a.same; order = a.order; below = a.below; other_below = a.other_below }

  pub done_new_timer : AlikeDone (new_timer p) (new_timer q)
  unfolding new_timer
  done_new_timer =
      let size : length p.timers ≡ length q.timers = ap (λ (x : Parts). length x.timers) a.same in
      done_if (ap (nat_le TIMER_LIMIT) size) (a, refl) (alike_add_timer, ap Returns size)

  -- ---- calls 48 and 49
  timer-same : (n : ℕ) → slice_get p.timers n ≡ slice_get q.timers n
  timer-same n = ap (λ (x : Parts). slice_get x.timers n) a.same

  set_in : (o : Option Timer) (c n first period : ℕ) → AlikeDone (timer_set_known o c n first period p) (timer_set_known o c n first period q)
  set_in None c n first period = (a, refl)
  set_in (Some timer) c n first period =
      let set : Timer → Timer = λ _. set_timer c first period in
      done_if {b = nat_lt TIMER_SPAN_LIMIT first} {p = refused Invalid p} refl (a, refl)
      (done_if {b = nat_lt TIMER_SPAN_LIMIT period} {p = refused Invalid p} {x = (on_timer n set p, Returns 0)} refl (a, refl) (alike_timer a n set, refl))

  pub done_timer_set : (c n first period : ℕ) → AlikeDone (timer_set c n first period p) (timer_set c n first period q)
  unfolding timer_set
  done_timer_set c n first period = rw (← timer-same n) (set_in (slice_get p.timers n) c n first period)

  timer_wait_in : (o : Option Timer) (c t n : ℕ) → AlikeDone (timer_wait_known o c t n p) (timer_wait_known o c t n q)
  timer_wait_in None c t n = (a, refl)
  timer_wait_in (Some timer) c t n =
      done_if refl (alike_timer a n taken, refl) (done_if refl (a, refl) (done_wait a OutOfBand c None None t (For n) 0 refl))

  pub done_timer_wait : (c t n : ℕ) → AlikeDone (timer_wait c t n p) (timer_wait c t n q)
  unfolding timer_wait
  done_timer_wait c t n = rw (← timer-same n) (timer_wait_in (slice_get p.timers n) c t n)

  -- ---- call 14
  action-same : (l action object : ℕ) → action_of l action object p ≡ action_of l action object q
  action-same l action object = rw (ap (λ (x : Parts). x.semaphores) a.same, ap (λ (x : Parts). x.flags) a.same) refl

  set_line_by : (o : Option Action) (l : ℕ) → AlikeDone (set_line_to o l p) (set_line_to o l q)
  set_line_by None l = (a, refl)
  set_line_by (Some action) l = (alike_action a l (λ _. action), refl)

  pub done_set_line : (l action object : ℕ) → AlikeDone (set_line l action object p) (set_line l action object q)
  unfolding set_line
  done_set_line l action object =
      done_if refl (a, refl) (done_if (ap (λ (x : Parts). nat_le (line_count x.profile) l) a.same) (a, refl) (rw (← action-same l action object) (set_line_by (action_of l action object p) l)))
