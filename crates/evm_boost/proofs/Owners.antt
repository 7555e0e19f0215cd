-- One more mutex of a look for an owner.
use Rattle.std.proofs.Common.{◌≡◌, ℕ, zero, suc, ◌+◌, ◌<◌, List, Option, Some, None, Bool, true, false, length, refl, ap, sym, ◌∙◌, inl, inr, add-one, arith, eq-eqb}
use Rattle.std.proofs.Math.Nat.{eq-or-lt_of_le}
use Rattle.std.specs.Prelude.{◌==◌, ◌&&◌, not, option_map, slice_get, if◌then◌else◌}
use Rattle.std.proofs.lemmas.Bool.{cases_eq, ne_eqb}
use Rattle.evm_model.proofs.Lists.{change-here, change-elsewhere, length-change}
use Rattle.evm_model.specs.Lists.{change}
use Rattle.evm_model.specs.Boosts.{is_number}
use Rattle.evm_model.specs.Mutexes.{freed, owner, owner_of, owns_below}
use Rattle.evm_model.specs.declared.mutex.Mutex.{Mutex}

pub owns-none : (t : ℕ) (mutexes : List Mutex) → owns_below t mutexes 0 ≡ false
unfolding owns_below
owns-none t mutexes = refl

pub owns-more : (t : ℕ) (mutexes : List Mutex) (m : ℕ) → owns_below t mutexes (m + 1) ≡ (if is_number (owner mutexes m) t then true else owns_below t mutexes m)
unfolding owns_below
owns-more t mutexes m = rw add-one refl

owns-if : (b : Bool) (d : Bool) → b ≡ true → (if b then true else d) ≡ true
owns-if true d e = refl
owns-if false d e = cc

owns-else : (b : Bool) → (if b then true else true) ≡ true
owns-else true = refl
owns-else false = refl

-- one of them is enough
pub owns-one : (t : ℕ) (mutexes : List Mutex) (m n : ℕ) → m < n → is_number (owner mutexes m) t ≡ true → owns_below t mutexes n ≡ true
unfolding owns_below
owns-one t mutexes m zero less e = absurd (omega (arith, less))
owns-one t mutexes m (suc n) less e = elim (eq-or-lt_of_le {n = m} {m = n} (omega (arith, less))) [
  | inl at ↦ owns-if (is_number (owner mutexes n) t) (owns_below t mutexes n) (ap (λ (n : ℕ). is_number (owner mutexes n) t) (sym at) ∙ e)
  | inr below ↦ rw (owns-one t mutexes m n below e) (owns-else (is_number (owner mutexes n) t))
]

-- and one that it doesn't own changes nothing
pub owns-not : (t : ℕ) (mutexes : List Mutex) (m : ℕ) → owns_below t mutexes m ≡ false → is_number (owner mutexes m) t ≡ false → owns_below t mutexes (m + 1) ≡ false
owns-not t mutexes m so_far not_it = owns-more t mutexes m ∙ rw not_it so_far

-- ---- the mutexes with one free
freed-of : (o : Option Mutex) → owner_of (option_map freed o) ≡ None
freed-of None = refl
freed-of (Some mutex) = refl

-- it has no owner then, and the others keep theirs
pub freed-here : (mutexes : List Mutex) (m : ℕ) → owner (change freed mutexes m) m ≡ None
freed-here mutexes m = ap owner_of (change-here freed mutexes m) ∙ freed-of (slice_get mutexes m)

pub freed-owner : (mutexes : List Mutex) (m n t : ℕ) → is_number (owner (change freed mutexes m) n) t ≡ (not (n == m) && is_number (owner mutexes n) t)
freed-owner mutexes m n t = elim (cases_eq n m) [
  | inl e ↦ let same : (m == m) ≡ true = eq-eqb m m refl in rw (e, freed-here mutexes m, same) refl
  | inr h ↦ let other : (n == m) ≡ false = ne_eqb n m h in rw (change-elsewhere freed mutexes m n h, other) refl
]

pub freed-more : (t m : ℕ) (mutexes : List Mutex) (n : ℕ)
    → owns_below t (change freed mutexes m) (n + 1) ≡ (if not (n == m) && is_number (owner mutexes n) t then true else owns_below t (change freed mutexes m) n)
freed-more t m mutexes n = owns-more t (change freed mutexes m) n ∙ ap (λ (b : Bool). if b then true else owns_below t (change freed mutexes m) n) (freed-owner mutexes m n t)

pub freed-count : (mutexes : List Mutex) (m : ℕ) → length (change freed mutexes m) ≡ length mutexes
freed-count mutexes m = length-change freed mutexes m

pub ruleset others = (owns-none, freed-more, freed-count)
