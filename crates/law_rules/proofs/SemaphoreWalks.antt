-- One lemma a call on a semaphore: the call is a walk.
use Rattle.std.proofs.Common.{◌≡◌, ℕ, ◌+◌, ◌-◌, ◌<◌, ◌≤◌, Option, Some, None, length, refl, sym, ◌∙◌, arith}
use Rattle.std.specs.Prelude.{slice_get, nat_lt, nat_le, ◌==◌}
use Rattle.std.proofs.lemmas.Bool.Decides.{nat_tests}
use Rattle.evm_exec.specs.declared.hart.Hart.{Hart}
use Rattle.evm_model.specs.Harts.{argument}
use Rattle.evm_model.specs.Semaphores.{add_semaphore, new_semaphore, sem_get_known, sem_get, sem_try_get_known, sem_try_get, sem_put_to, sem_put_known, sem_put}
use Rattle.evm_model.specs.Stages.{is_stalled, wait_refusal}
use Rattle.evm_model.specs.State.{Parts, on_semaphore}
use Rattle.evm_model.specs.Waits.{first_waiter}
use Rattle.evm_model.specs.declared.limits.TheConstants.{SEMAPHORE_LIMIT, SEMAPHORE_COUNT_LIMIT}
use Rattle.evm_model.specs.declared.stage.Stage.TheVariants.{OutOfBand}
use Rattle.evm_model.specs.declared.task.Wait.TheVariants.{Semaphore}
use Rattle.evm_model.specs.declared.task.Task.{Task}
use Rattle.law_rules.proofs.LockWalks.{either_at, either, up, same, waits_unless}
use Rattle.law_rules.proofs.Waiters.{IsWaiter, first_is, wait_is}
use Rattle.law_rules.proofs.Walk.{Actor, Untouched, Makes, Cause, put, CountedBy, by_call, wakes, counts, sets_up, Walk, quietly, stamped, slack}

one_more : (b n count : ℕ) (o : Option ℕ) → o ≡ Some count → o ≡ Some n → count < b → n + 1 ≤ b
one_more b n count o e h room = let two : Some count ≡ Some n = sym e ∙ h in let same : count ≡ n = cc in omega (arith, same, room)

-- ---- one is put, by whoever may
module _ (a : Actor) (old : Parts) (n g s : ℕ) (k : Parts) (by : CountedBy a old k s) (why : (u : ℕ) (x : Task) → Cause a old u x k (Semaphore s) 0) (w : Walk a old n g k) where
  stays : Walk a old n (g + 1) k
  stays = slack a old n n g (g + 1) k (λ p. omega arith) (λ p. omega arith) w

  puts_to : (o : Option ℕ) (count : ℕ) → slice_get k.semaphores s ≡ Some count → first_waiter (Semaphore s) k ≡ o → Walk a old n (g + 1) (sem_put_to o s count k).0
  puts_to None count there e =
      either_at a old n (g + 1) (nat_le SEMAPHORE_COUNT_LIMIT count) _ _ (λ full. stays)
      (λ less. let room : count < SEMAPHORE_COUNT_LIMIT = grind (arith, nat_tests) in
      quietly a old n (g + 1) k _ (counts s (λ m. m + 1) k by (λ m h small. one_more SEMAPHORE_COUNT_LIMIT m count (slice_get k.semaphores s) there h room)) stays)
  puts_to (Some u) count there e =
      let waiter : IsWaiter (Semaphore s) u k = first_is (Semaphore s) u k e in
      stamped a old n g k _ (wakes u 0 waiter.task (Semaphore s) k waiter.there (wait_is (Semaphore s) waiter.task.state refl waiter.on) (why u waiter.task)) w

  puts_known : (o : Option ℕ) → slice_get k.semaphores s ≡ o → Walk a old n (g + 1) (sem_put_known o s k).0
  puts_known None there = stays
  puts_known (Some count) there = puts_to (first_waiter (Semaphore s) k) count there refl

  pub puts_into : Walk a old n (g + 1) (sem_put s k).0
  unfolding sem_put
  puts_into = puts_known (slice_get k.semaphores s) refl

-- ---- the calls
module _ (a : Actor) (old k : Parts) (t : ℕ) (own : a.task ≡ Some t) (fresh : Untouched old k) (w : Walk a old 0 0 k) where
  none : Walk a old 1 64 k
  none = same a old k t own fresh w

  pub makes_semaphore : (count : ℕ) → Walk a old 1 64 (new_semaphore count k).0
  unfolding new_semaphore add_semaphore
  makes_semaphore count =
      either a old (nat_lt SEMAPHORE_COUNT_LIMIT count) _ _ (λ e. none) (λ small.
      either a old (nat_le SEMAPHORE_LIMIT (length k.semaphores)) _ _ (λ e. none)
      (λ e. let room : length k.semaphores < SEMAPHORE_LIMIT = grind (arith, nat_tests) in
      let fits : count ≤ SEMAPHORE_COUNT_LIMIT = grind (arith, nat_tests) in
      up a old k t own fresh w 0 0 _ (omega arith) (omega arith) (quietly a old 0 0 k _ (sets_up t count k own fresh room fits) w)))

  takes_one : (s : ℕ) → CountedBy a old k s → Walk a old 1 64 (on_semaphore s (λ n. n - 1) k)
  takes_one s by = up a old k t own fresh w 0 0 _ (omega arith) (omega arith) (quietly a old 0 0 k _ (counts s (λ n. n - 1) k by (λ n e h. omega (arith, h))) w)

  gets_known : (o : Option ℕ) (s deadline : ℕ) → CountedBy a old k s → Walk a old 1 64 (sem_get_known o a.cpu t s deadline k).0
  gets_known None s deadline by = none
  gets_known (Some count) s deadline by =
      either a old (count == 0) _ _ (λ e. waits_unless a old k t own fresh w (wait_refusal (is_stalled OutOfBand a.cpu k) None k.ticks deadline) (Semaphore s) deadline refl) (λ e. takes_one s by)

  tries_get_known : (o : Option ℕ) (s : ℕ) → CountedBy a old k s → Walk a old 1 64 (sem_try_get_known o s k).0
  tries_get_known None s by = none
  tries_get_known (Some count) s by = either a old (count == 0) _ _ (λ e. none) (λ e. takes_one s by)

  module _ (x : Hart) where
    pub gets : Makes a old 39 x → Walk a old 1 64 (sem_get a.cpu t (argument 0 x) (argument 1 x) k).0
    unfolding sem_get
    gets call = gets_known (slice_get k.semaphores (argument 0 x)) (argument 0 x) (argument 1 x) (by_call 39 x (omega arith) (omega arith) call refl)

    pub tries_get : Makes a old 40 x → Walk a old 1 64 (sem_try_get (argument 0 x) k).0
    unfolding sem_try_get
    tries_get call = tries_get_known (slice_get k.semaphores (argument 0 x)) (argument 0 x) (by_call 40 x (omega arith) (omega arith) call refl)

    pub puts_one : Makes a old 41 x → Walk a old 1 64 (sem_put (argument 0 x) k).0
    puts_one call = up a old k t own fresh w 0 1 _ (omega arith) (omega arith) (puts_into a old 0 0 (argument 0 x) k (by_call 41 x (omega arith) (omega arith) call refl) (λ u y. put x call) w)
