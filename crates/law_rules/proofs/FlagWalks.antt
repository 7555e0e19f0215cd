-- One lemma a call on a flag group: the call is a walk.
use Rattle.std.proofs.Common.{◌≡◌, ℕ, ◌+◌, ◌<◌, ◌≤◌, Option, Some, None, length, refl, ap, sym, ◌∙◌, arith}
use Rattle.std.specs.Prelude.{slice_get, bit_or, nat_lt, nat_le, ◌^◌, ◌==◌}
use Rattle.std.proofs.lemmas.Bool.Decides.{nat_tests}
use Rattle.std.proofs.lemmas.Nat.{or_lt}
use Rattle.evm_exec.specs.declared.hart.Hart.{Hart}
use Rattle.evm_model.specs.Flags.{add_flags, new_flags, flags_wait_known, flags_wait, post_to, post_known, post, flags_post_of, flags_post_known, flags_post}
use Rattle.evm_model.specs.Harts.{argument}
use Rattle.evm_model.specs.Stages.{is_stalled, wait_refusal}
use Rattle.evm_model.specs.State.{Parts, on_flags}
use Rattle.evm_model.specs.Waits.{first_waiter}
use Rattle.evm_model.specs.declared.limits.TheConstants.{FLAGS_LIMIT, FLAGS_WORD_LIMIT}
use Rattle.evm_model.specs.declared.stage.Stage.TheVariants.{OutOfBand}
use Rattle.evm_model.specs.declared.task.Task.{Task}
use Rattle.evm_model.specs.declared.task.Wait.TheVariants.{Flags}
use Rattle.law_rules.proofs.LockWalks.{either, up, same, waits_unless}
use Rattle.law_rules.proofs.Waiters.{IsWaiter, first_is, wait_is}
use Rattle.law_rules.proofs.Walk.{Actor, ArePipes, Untouched, Makes, Cause, posted, WrittenBy, by_call, wakes, writes, adds_flags, Walk, quietly, stamped, slack}

or_small : (word bits : ℕ) → word ≤ FLAGS_WORD_LIMIT → bits ≤ FLAGS_WORD_LIMIT → bit_or word bits ≤ FLAGS_WORD_LIMIT
or_small word bits h g =
    let a : word < 2 ^ 32 = omega (arith, h) in
    let b : bits < 2 ^ 32 = omega (arith, g) in
    omega (arith, or_lt 32 word bits a b)

-- ---- bits are posted, by whoever may
module _ (a : Actor) (old : Parts) (n s f bits : ℕ) (k : Parts) (by : WrittenBy a old k f) (small : ArePipes old → bits ≤ FLAGS_WORD_LIMIT)
    (why : (u word : ℕ) (x : Task) → slice_get k.flags f ≡ Some word → Cause a old u x (on_flags f (λ _. 0) k) (Flags f) (bit_or word bits)) (w : Walk a old n s k) where
  stays : Walk a old n (s + 1) k
  stays = slack a old n n s (s + 1) k (λ p. omega arith) (λ p. omega arith) w

  posts_to : (o : Option ℕ) (word : ℕ) → slice_get k.flags f ≡ Some word → first_waiter (Flags f) k ≡ o → Walk a old n (s + 1) (post_to o f (bit_or word bits) k)
  posts_to None word there e =
      quietly a old n (s + 1) k _ (writes f (λ _. bit_or word bits) k by
      (λ are before is low. let two : Some before ≡ Some word = sym is ∙ there in let one : before ≡ word = cc in or_small word bits (rw one at low) (small are))) stays
  posts_to (Some u) word there e =
      let emptied : Parts = on_flags f (λ _. 0) k in
      let waiter : IsWaiter (Flags f) u k = first_is (Flags f) u k e in
      stamped a old n s emptied _ (wakes u (bit_or word bits) waiter.task (Flags f) emptied waiter.there (wait_is (Flags f) waiter.task.state refl waiter.on) (why u word waiter.task there))
      (quietly a old n s k emptied (writes f (λ _. 0) k by (λ are before is low. omega arith)) w)

  posts_known : (o : Option ℕ) → slice_get k.flags f ≡ o → Walk a old n (s + 1) (post_known o f bits k)
  posts_known None there = stays
  posts_known (Some word) there = posts_to (first_waiter (Flags f) k) word there refl

  pub posts_bits : Walk a old n (s + 1) (post f bits k)
  unfolding post
  posts_bits = posts_known (slice_get k.flags f) refl

-- ---- the calls
module _ (a : Actor) (old k : Parts) (t : ℕ) (own : a.task ≡ Some t) (fresh : Untouched old k) (w : Walk a old 0 0 k) where
  none : Walk a old 1 64 k
  none = same a old k t own fresh w

  pub makes_flags : Walk a old 1 64 (new_flags k).0
  unfolding new_flags add_flags
  makes_flags =
      either a old (nat_le FLAGS_LIMIT (length k.flags)) _ _ (λ e. none)
      (λ e. let room : length k.flags < FLAGS_LIMIT = grind (arith, nat_tests) in
      up a old k t own fresh w 0 0 _ (omega arith) (omega arith) (quietly a old 0 0 k _ (adds_flags t k own fresh room) w))

  waits_known : (o : Option ℕ) (f deadline : ℕ) → WrittenBy a old k f → Walk a old 1 64 (flags_wait_known o a.cpu t f deadline k).0
  waits_known None f deadline by = none
  waits_known (Some word) f deadline by =
      either a old (word == 0) _ _ (λ e. waits_unless a old k t own fresh w (wait_refusal (is_stalled OutOfBand a.cpu k) None k.ticks deadline) (Flags f) deadline refl)
      (λ e. up a old k t own fresh w 0 0 _ (omega arith) (omega arith) (quietly a old 0 0 k _ (writes f (λ _. 0) k by (λ are before is low. omega arith)) w))

  module _ (x : Hart) where
    pub waits_flags : Makes a old 45 x → Walk a old 1 64 (flags_wait a.cpu t (argument 0 x) (argument 1 x) k).0
    unfolding flags_wait
    waits_flags call = waits_known (slice_get k.flags (argument 0 x)) (argument 0 x) (argument 1 x) (by_call 45 x (omega arith) (omega arith) call refl)

    posts_of : Makes a old 46 x → Walk a old 1 64 (flags_post_of (argument 0 x) (argument 1 x) k).0
    posts_of call =
        either a old (argument 1 x == 0) _ _ (λ e. none) (λ e. either a old (nat_lt FLAGS_WORD_LIMIT (argument 1 x)) _ _ (λ e. none)
        (λ e. let small : argument 1 x ≤ FLAGS_WORD_LIMIT = grind (arith, nat_tests) in
        up a old k t own fresh w 0 1 _ (omega arith) (omega arith)
        (posts_bits a old 0 0 (argument 0 x) (argument 1 x) k (by_call 46 x (omega arith) (omega arith) call refl) (λ are. small)
        (λ u word y there. posted x word call (ap (λ words. slice_get words (argument 0 x)) (sym fresh.flags) ∙ there)) w)))

    posts_call : (o : Option ℕ) → Makes a old 46 x → Walk a old 1 64 (flags_post_known o (argument 0 x) (argument 1 x) k).0
    posts_call None call = none
    posts_call (Some word) call = posts_of call

    pub posts_flags : Makes a old 46 x → Walk a old 1 64 (flags_post (argument 0 x) (argument 1 x) k).0
    unfolding flags_post
    posts_flags call = posts_call (slice_get k.flags (argument 0 x)) call
