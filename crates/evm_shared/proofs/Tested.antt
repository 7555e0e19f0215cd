-- Lists of which each item is tested, up to the first that fails.
use Rattle.std.proofs.Common.{◌≡◌, ◌↔◌, ℕ, zero, suc, ◌+◌, ◌<◌, ◌⊎◌, inl, inr, ⊎_elim, Bool, true, false, List, length, take, refl, sym, ap, ◌∙◌, subst, arith, get_or, Bor}
use Rattle.std.proofs.Math.Seq.{take-length}
use Rattle.std.proofs.lemmas.List.{get_or-map, get_or_read_under, take-map}
use Rattle.std.proofs.lemmas.List.Elements.{All-more}
use Rattle.std.specs.Prelude.{All, slice_get}
use Rattle.evm_model.specs.Event.{Event}
use Rattle.evm_shared.specs.Checks.{lent}
use Rattle.evm_shared.specs.Ports.{PortValue}

-- a test that fails
pub says_no : {P : Type 0} (b : Bool) → ((b ≡ true) ↔ P) → b ≡ false → P → ⊥
says_no true h off p = cc
says_no false h off p = let on = h.1 p in cc

pub no_then : {P : Type 0} → (P → ⊥) → (false ≡ true) ↔ P
no_then h = (λ e. cc, λ p. absurd (h p))

pub all_fails : {X : Type 0} (P : X → Type 0) (xs : List X) (i : ℕ) (x : X) → i < length xs → x ≡ get_or xs i x → (P x → ⊥) → All P xs → ⊥
all_fails P xs i x lt is bad all = bad (subst P (sym is) (all i x lt))

pub all_more : {X : Type 0} (P : X → Type 0) (xs : List X) (i : ℕ) (x : X) → i < length xs → x ≡ get_or xs i x → P x → All P (take i xs) → All P (take (i + 1) xs)
all_more P xs i x lt is good all = All-more P xs i x lt all (subst P is good)

pub all_done : {X : Type 0} (P : X → Type 0) (xs : List X) (i : ℕ) → i ≡ length xs → All P (take i xs) → All P xs
all_done P xs i end all = subst (All P) (ap (λ n. take n xs) end ∙ take-length xs) all

-- the first n of a list are such, each by its place
abbrev pub Upto : {X : Type 0} → (ℕ → X → Type 0) → List X → ℕ → Type 0
Upto {X} P xs n = (i : ℕ) (d : X) → i < n → P i (get_or xs i d)

below_or_same : (j i : ℕ) → j < i + 1 → (j < i) ⊎ (j ≡ i)
below_or_same zero zero h = inr refl
below_or_same zero (suc i) h = inl (omega arith)
below_or_same (suc j) zero h = absurd (omega arith)
below_or_same (suc j) (suc i) h = ⊎_elim (λ l. inl (omega arith)) (λ e. inr (ap suc e)) (below_or_same j i (omega arith))

pub upto_more : {X : Type 0} (P : ℕ → X → Type 0) (xs : List X) (i : ℕ) (x : X) → i < length xs → x ≡ get_or xs i x → P i x → Upto P xs i → Upto P xs (i + 1)
upto_more P xs i x lt is good all = λ j d below.
    ⊎_elim
    (λ less. all j d less)
    (λ same. subst (λ n. P n (get_or xs n d)) (sym same) (subst (P i) (get_or_read_under xs i (length xs) x d is lt refl) good))
    (below_or_same j i below)

-- a lent port, among those that are lent
pub lent_read : (ports : List (Bor PortValue)) (i : ℕ) (p : Bor PortValue) → i < length ports → p ≡ get_or ports i p → p.now ≡ get_or (lent ports) i p.now
lent_read ports i p lt is = ap (λ (q : Bor PortValue). q.now) is ∙ sym (get_or-map (λ (q : Bor PortValue). q.now) ports i p p.now lt)

pub lent_take : (ports : List (Bor PortValue)) (i : ℕ) → lent (take i ports) ≡ take i (lent ports)
lent_take ports i = sym (take-map (λ (q : Bor PortValue). q.now) i ports)

-- two lists agree at one place more
pub agree_more : (xs ys : List Event) (p k : ℕ) → slice_get xs (p + k) ≡ slice_get ys k → ((i : ℕ) → i < k → slice_get xs (p + i) ≡ slice_get ys i)
    → (i : ℕ) → i < k + 1 → slice_get xs (p + i) ≡ slice_get ys i
agree_more xs ys p k at all i below = ⊎_elim (λ less. all i less) (λ same. subst (λ n. slice_get xs (p + n) ≡ slice_get ys n) (sym same) at) (below_or_same i k below)
