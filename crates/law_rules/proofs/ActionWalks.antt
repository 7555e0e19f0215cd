-- The call that sets the action of a line is a walk; and so is what an action does.
use Rattle.std.proofs.Common.{◌≡◌, ℕ, ◌+◌, ◌<◌, ◌≤◌, Bool, true, false, Option, Some, None, refl, arith}
use Rattle.std.specs.Prelude.{slice_get, is_none, nat_lt, nat_le, ◌==◌, ◌^◌, if◌then◌else◌}
use Rattle.std.proofs.Math.Pow.{pow_mono}
use Rattle.std.proofs.lemmas.Bool.Decides.{nat_tests}
use Rattle.evm_lines.specs.declared.TheConstants.{LINES}
use Rattle.evm_exec.specs.declared.hart.Hart.{Hart}
use Rattle.evm_model.specs.Actions.{action_at, act, posts_to, action_of, set_line_to, set_line}
use Rattle.evm_model.specs.Harts.{argument}
use Rattle.evm_model.specs.Profiles.{line_count}
use Rattle.evm_model.specs.State.{Parts}
use Rattle.evm_model.specs.declared.action.Action.{Action}
use Rattle.evm_model.specs.declared.action.Action.TheVariants.{Nothing, Puts, Posts}
use Rattle.evm_model.specs.declared.limits.TheConstants.{FLAG_BITS, FLAGS_WORD_LIMIT}
use Rattle.evm_model.proofs.Lists.{slice_get-below}
use Rattle.law_rules.proofs.FlagWalks.{posts_bits}
use Rattle.law_rules.proofs.LockWalks.{either, up, same}
use Rattle.law_rules.proofs.SemaphoreWalks.{puts_into}
use Rattle.law_rules.proofs.Walk.{Actor, ArePipes, Untouched, Makes, put_by, posted_by, by_line, by_line as posts_line, IsAction, sets_action, Walk, quietly, slack, walk_if}

-- ---- what an action does
-- the bit of a line is one of the word's
bit_small : (l : ℕ) → l < FLAG_BITS → 2 ^ l ≤ FLAGS_WORD_LIMIT
bit_small l h = let most : l ≤ 31 = omega (arith, h) in omega (arith, pow_mono most)

module _ (a : Actor) (old : Parts) (n s l : ℕ) (k : Parts) (line : ArePipes old → l < LINES) (w : Walk a old n s k) where
  pub acts : (action : Action) → action_at l k ≡ action → Walk a old n (s + 1) (act action l k)
  unfolding act
  acts Nothing is = slack a old n n s (s + 1) k (λ p. omega arith) (λ p. omega arith) w
  acts (Puts m) is = puts_into a old n s m k (by_line l is) (λ u x. put_by l m is) w
  acts (Posts f) is = walk_if a old n (s + 1) (nat_lt l FLAG_BITS) _ k (λ has. let small : l < FLAG_BITS = grind (arith, nat_tests) in posts_bits a old n s f (2 ^ l) k (posts_line l is) (λ are. bit_small l small) (λ u word x there. posted_by l f word is) w)
      (λ lacks. slack a old n n s (s + 1) k (λ p. omega arith) (λ p. omega arith) w)

-- ---- the call
-- an action that names what is there
record Names (o : Option Action) (k : Parts) : Type 0 where
  is : (action : Action) → o ≡ Some action → IsAction action k

names_if : (b : Bool) (x y : Option Action) (k : Parts) → (b ≡ true → Names x k) → (b ≡ false → Names y k) → Names (if b then x else y) k
names_if true x y k p q = p refl
names_if false x y k p q = q refl

names_none : (k : Parts) → Names None k
names_none k = record { is = λ action e. cc }

names_some : (action : Action) (k : Parts) → IsAction action k → Names (Some action) k
names_some action k is = record { is = λ other e. let same : action ≡ other = cc in rw (← same) is }

within : {X : Type 0} (o : Option X) → is_none o ≡ false → (x : X) × (o ≡ Some x)
within None e = cc
within (Some x) e = (x, refl)

names_posts : (l object : ℕ) (k : Parts) → Names (posts_to l object k) k
names_posts l object k =
    names_if (nat_le FLAG_BITS l) _ _ k (λ e. names_none k)
    (λ e. names_if (is_none (slice_get k.flags object)) _ _ k (λ e. names_none k)
    (λ e. let there = within (slice_get k.flags object) e in
    names_some (Posts object) k (record { puts = λ s e. cc; posts = λ f same. let one : object ≡ f = cc in rw (← one) (slice_get-below k.flags object there.0 there.1) })))

names : (l action object : ℕ) (k : Parts) → Names (action_of l action object k) k
names l action object k =
    names_if (action == 0) _ _ k (λ e. names_some Nothing k (record { puts = λ s e. cc; posts = λ f e. cc })) (λ e.
    names_if (action == 1) _ _ k
    (λ e. names_if (is_none (slice_get k.semaphores object)) _ _ k (λ e. names_none k)
    (λ e. let there = within (slice_get k.semaphores object) e in
    names_some (Puts object) k (record { puts = λ s same. let one : object ≡ s = cc in rw (← one) (slice_get-below k.semaphores object there.0 there.1); posts = λ f e. cc })))
    (λ e. names_if (action == 2) _ _ k (λ e. names_posts l object k) (λ e. names_none k)))

module _ (a : Actor) (old k : Parts) (t : ℕ) (own : a.task ≡ Some t) (fresh : Untouched old k) (w : Walk a old 0 0 k) (x : Hart) (call : Makes a old 14 x) where
  abbrev l : ℕ
  l = argument 0 x

  none : Walk a old 1 64 k
  none = same a old k t own fresh w

  sets_to : (o : Option Action) → Names o k → 2 ≤ l → Walk a old 1 64 (set_line_to o l k).0
  sets_to None names from = none
  sets_to (Some action) names from = up a old k t own fresh w 0 0 _ (omega arith) (omega arith) (quietly a old 0 0 k _ (sets_action l action x k call refl from (names.is action refl) fresh) w)

  pub sets_line : Walk a old 1 64 (set_line l (argument 1 x) (argument 2 x) k).0
  unfolding set_line
  sets_line =
      either a old (nat_lt l 2) _ _ (λ e. none) (λ above. either a old (nat_le (line_count k.profile) l) _ _ (λ e. none)
      (λ e. let from : 2 ≤ l = grind (arith, nat_tests) in sets_to (action_of l (argument 1 x) (argument 2 x) k) (names l (argument 1 x) (argument 2 x) k) from))
