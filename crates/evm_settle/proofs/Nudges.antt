-- Changing one processor's pipe after another is changing each.
use Rattle.std.proofs.Common.{◌≡◌, ℕ, zero, suc, ◌+◌, ◌<◌, ◌≤◌, List, [], ◌∷◌, Bool, true, false, Option, Some, None, length, refl, sym, ap, ◌∙◌, inl, inr, arith, add-one, leb-true, leb-false}
use Rattle.std.specs.Prelude.{slice_get, slice_set, option_map, nat_le, ◌==◌, if◌then◌else◌}
use Rattle.std.proofs.Math.Nat.{eq-or-lt_of_le}
use Rattle.std.proofs.lemmas.Option.{slice_get_past}
use Rattle.evm_model.specs.Bounds.{PipesUpTo}
use Rattle.evm_model.specs.Lists.{change, each}
use Rattle.evm_model.specs.Pipes.{Pipe, raise}
use Rattle.evm_model.specs.Settle.{nudge_pipe, wants_nudge, nudge}
use Rattle.evm_model.specs.State.{Parts, on_pipe}
use Rattle.evm_model.proofs.Lists.{change-here, change-elsewhere, change-same, slice_get-each, same_elements}
use Rattle.law_rules.proofs.Counted.{PipesUpTo-more}
use Rattle.law_rules.proofs.Counting.{on_raise-up}
use Rattle.evm_settle.specs.Nudges.{nudge_one, nudge_if}

-- the elements below n are changed, each by its number
unfoldable pub changed_below : {X : Type 0} → (ℕ → X → X) → ℕ → List X → List X
changed_below f zero xs = xs
changed_below f (suc n) xs = change (f n) (changed_below f n xs) n

pub changed_below-none : {X : Type 0} (f : ℕ → X → X) (xs : List X) → changed_below f 0 xs ≡ xs
unfolding changed_below
changed_below-none f xs = refl

pub changed_below-more : {X : Type 0} (f : ℕ → X → X) (n : ℕ) (xs : List X) → changed_below f (n + 1) xs ≡ change (f n) (changed_below f n xs) n
unfolding changed_below
changed_below-more f n xs = rw add-one refl

-- one that isn't reached is as it was
pub changed_below-unreached : {X : Type 0} (f : ℕ → X → X) (n i : ℕ) (xs : List X) → n ≤ i → slice_get (changed_below f n xs) i ≡ slice_get xs i
unfolding changed_below
changed_below-unreached f zero i xs h = refl
changed_below-unreached f (suc n) i xs h =
    change-elsewhere (f n) (changed_below f n xs) n i (λ same. omega arith) ∙ changed_below-unreached f n i xs (omega arith)

-- one that is reached has changed
pub changed_below-reached : {X : Type 0} (f : ℕ → X → X) (n i : ℕ) (xs : List X) → i < n → slice_get (changed_below f n xs) i ≡ option_map (f i) (slice_get xs i)
unfolding changed_below
changed_below-reached {X = X} f zero i xs h = absurd (omega arith)
changed_below-reached {X = X} f (suc n) i xs h = elim (eq-or-lt_of_le {n = i} {m = n} (omega arith)) [
  | inl at ↦
      let step : slice_get (change (f n) (changed_below f n xs) n) n ≡ option_map (f n) (slice_get (changed_below f n xs) n) = change-here (f n) (changed_below f n xs) n in
      rw at (step ∙ ap (option_map (f n)) (changed_below-unreached f n n xs (omega arith)))
  | inr less ↦ change-elsewhere (f n) (changed_below f n xs) n i (λ same. omega arith) ∙ changed_below-reached f n i xs less
]

-- all are changed
pub all-at : {X : Type 0} (f : ℕ → X → X) (n i : ℕ) (xs : List X) (b : Bool) → nat_le n i ≡ b → length xs ≤ n → slice_get (changed_below f n xs) i ≡ option_map (f i) (slice_get xs i)
all-at f n i xs true e h =
    let past : n ≤ i = leb-true n i e in
    let none : slice_get xs i ≡ None = slice_get_past xs i (omega arith) in
    changed_below-unreached f n i xs past ∙ none ∙ ap (option_map (f i)) (sym none)
all-at f n i xs false e h = changed_below-reached f n i xs (leb-false n i e)

pub changed_below-all : {X : Type 0} (f : ℕ → X → X) (n : ℕ) (xs : List X) → length xs ≤ n → changed_below f n xs ≡ each f xs
changed_below-all f n xs h =
    same_elements (changed_below f n xs) (each f xs) (λ i. all-at f n i xs (nat_le n i) refl h ∙ sym (slice_get-each f xs i))

-- ---- nudging
-- a change that goes by a test of the element there
changed-if : (d : ℕ) (f g : Pipe → Pipe) (xs : List Pipe) (o : Option Pipe) → slice_get xs d ≡ o → ((p : Pipe) → slice_get xs d ≡ Some p → f p ≡ g p) → change f xs d ≡ change g xs d
changed-if d f g xs None e h = rw e refl
changed-if d f g xs (Some p) e h = rw e (ap (λ (q : Pipe). slice_set xs d q) (h p e))

nudged-if : (c d : ℕ) (k : Parts) (xs : List Pipe) (pipe : Pipe) (b : Bool) → wants_nudge d pipe k ≡ b → (d == c) ≡ false → slice_get xs d ≡ Some pipe
    → (if b then on_pipe d (raise 1) (record k { pipes = xs }) else record k { pipes = xs }) ≡ record k { pipes = change (nudge_pipe c k d) xs d }
nudged-if c d k xs pipe true w other e =
    ap (λ (ps : List Pipe). record k { pipes = ps }) (changed-if d (raise 1) (nudge_pipe c k d) xs (Some pipe) e (λ p f. let same : pipe ≡ p = cc in rw (← same, other, w) refl))
nudged-if c d k xs pipe false w other e =
    ap (λ (ps : List Pipe). record k { pipes = ps }) (sym (change-same (nudge_pipe c k d) xs d (λ p f. let same : pipe ≡ p = cc in rw (← same, other, w) refl)))

nudged-pipe : (c d : ℕ) (k : Parts) (xs : List Pipe) (o : Option Pipe) → (d == c) ≡ false → slice_get xs d ≡ o
    → nudge_if o d (record k { pipes = xs }) ≡ record k { pipes = change (nudge_pipe c k d) xs d }
nudged-pipe c d k xs None other e = rw e refl
nudged-pipe c d k xs (Some pipe) other e = nudged-if c d k xs pipe (wants_nudge d pipe k) refl other e

nudged-one : (c d : ℕ) (k : Parts) (xs : List Pipe) (b : Bool) → (d == c) ≡ b
    → (if b then record k { pipes = xs } else nudge_if (slice_get xs d) d (record k { pipes = xs })) ≡ record k { pipes = change (nudge_pipe c k d) xs d }
nudged-one c d k xs true own = ap (λ (ps : List Pipe). record k { pipes = ps }) (sym (change-same (nudge_pipe c k d) xs d (λ p f. rw own refl)))
nudged-one c d k xs false other = nudged-pipe c d k xs (slice_get xs d) other refl

-- one processor more is told
pub nudge_one-more : (c d : ℕ) (k : Parts) → nudge_one c d (record k { pipes = changed_below (nudge_pipe c k) d k.pipes }) ≡ record k { pipes = changed_below (nudge_pipe c k) (d + 1) k.pipes }
nudge_one-more c d k =
    nudged-one c d k (changed_below (nudge_pipe c k) d k.pipes) (d == c) refl
    ∙ ap (λ (ps : List Pipe). record k { pipes = ps }) (sym (changed_below-more (nudge_pipe c k) d k.pipes))

-- all are told
pub nudge_one-none : (c : ℕ) (k : Parts) → record k { pipes = changed_below (nudge_pipe c k) 0 k.pipes } ≡ k
nudge_one-none c k = ap (λ (ps : List Pipe). record k { pipes = ps }) (changed_below-none (nudge_pipe c k) k.pipes)

pub nudge_one-all : (c n : ℕ) (k : Parts) → length k.pipes ≤ n → record k { pipes = changed_below (nudge_pipe c k) n k.pipes } ≡ nudge c k
unfolding nudge
nudge_one-all c n k h = ap (λ (ps : List Pipe). record k { pipes = ps }) (changed_below-all (nudge_pipe c k) n k.pipes h)

-- and has one raise more at the most
up-if : (b d : ℕ) (k : Parts) (test : Bool) → PipesUpTo b k.pipes → PipesUpTo (b + 1) (if test then on_pipe d (raise 1) k else k).pipes
up-if b d k true h = on_raise-up b d 1 k h
up-if b d k false h = PipesUpTo-more b (b + 1) k.pipes (omega arith) h

up-pipe : (b d : ℕ) (k : Parts) (o : Option Pipe) → PipesUpTo b k.pipes → PipesUpTo (b + 1) (nudge_if o d k).pipes
up-pipe b d k None h = PipesUpTo-more b (b + 1) k.pipes (omega arith) h
up-pipe b d k (Some pipe) h = up-if b d k (wants_nudge d pipe k) h

up-one : (b d : ℕ) (k : Parts) (test : Bool) → PipesUpTo b k.pipes → PipesUpTo (b + 1) (if test then k else nudge_if (slice_get k.pipes d) d k).pipes
up-one b d k true h = PipesUpTo-more b (b + 1) k.pipes (omega arith) h
up-one b d k false h = up-pipe b d k (slice_get k.pipes d) h

pub nudge_one-up : (b c d : ℕ) (k : Parts) → PipesUpTo b k.pipes → PipesUpTo (b + 1) (nudge_one c d k).pipes
nudge_one-up b c d k h = up-one b d k (d == c) h

-- ---- a lone processor tells nobody
each-alone : (f : ℕ → Pipe → Pipe) (xs : List Pipe) → length xs ≤ 1 → ((p : Pipe) → f 0 p ≡ p) → each f xs ≡ xs
each-alone f [] few h = refl
each-alone f (x ∷ []) few h = ap (λ (y : Pipe). y ∷ []) (h x)
each-alone f (x ∷ y ∷ zs) few h = absurd (omega arith)

pub nudge-alone : (c : ℕ) (k : Parts) → c ≡ 0 → length k.pipes ≤ 1 → nudge c k ≡ k
unfolding nudge
nudge-alone c k first few = rw first (ap (λ (ps : List Pipe). record k { pipes = ps }) (each-alone (nudge_pipe 0 k) k.pipes few (λ p. refl)))

pub ruleset alone = (nudge-alone)
