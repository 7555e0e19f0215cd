-- The greatest of a number and some ranks.
use Rattle.std.proofs.Common.{◌≡◌, ℕ, zero, suc, ◌<◌, ◌≤◌, Option, Some, None, Bool, true, false, refl, ap, sym, ◌∙◌, inl, inr, arith, leb-true, leb-false}
use Rattle.std.specs.Prelude.{nat_le, if◌then◌else◌}
use Rattle.std.proofs.Math.Nat.{eq-or-lt_of_le}
use Rattle.std.proofs.lemmas.Bool.Decides.{eqb_tells}
use Rattle.evm_model.specs.Boosts.{greater, is_number, greatest}

-- ---- of two
greater-if : (a b : ℕ) (m : Bool) → nat_le a b ≡ m → (a ≤ (if m then b else a)) × (b ≤ (if m then b else a))
greater-if a b true e = (leb-true a b e, omega arith)
greater-if a b false e = (omega arith, let more : b < a = leb-false a b e in omega arith)

pub greater-first : (a b : ℕ) → a ≤ greater a b
greater-first a b = (greater-if a b (nat_le a b) refl).0

pub greater-second : (a b : ℕ) → b ≤ greater a b
greater-second a b = (greater-if a b (nat_le a b) refl).1

least-if : (a b n : ℕ) (m : Bool) → a ≤ n → b ≤ n → (if m then b else a) ≤ n
least-if a b n true p q = q
least-if a b n false p q = p

pub greater-least : (a b n : ℕ) → a ≤ n → b ≤ n → greater a b ≤ n
greater-least a b n p q = least-if a b n (nat_le a b) p q

-- ---- who boosts
pub boosts-is : (o : Option ℕ) (t : ℕ) → is_number o t ≡ true → o ≡ Some t
boosts-is None t e = cc
boosts-is (Some u) t e = elim (eqb_tells u t) [ inl g ↦ ap (λ (n : ℕ). Some n) g.1 | inr g ↦ cc ]

pub boosts-so : (o : Option ℕ) (t : ℕ) → o ≡ Some t → is_number o t ≡ true
boosts-so None t e = cc
boosts-so (Some u) t e = let same : u ≡ t = cc in elim (eqb_tells u t) [ inl g ↦ g.0 | inr g ↦ absurd (g.1 same) ]

-- ---- of all below a count
step-first : (b : Bool) (first x y : ℕ) → first ≤ x → first ≤ (if b then greater x y else x)
step-first true first x y h = let up : x ≤ greater x y = greater-first x y in omega arith
step-first false first x y h = h

pub greatest-first : (boosts : ℕ → Option ℕ) (rank : ℕ → ℕ) (t first n : ℕ) → first ≤ greatest boosts rank t first n
unfolding greatest
greatest-first boosts rank t first zero = omega arith
greatest-first boosts rank t first (suc u) = step-first (is_number (boosts u) t) first (greatest boosts rank t first u) (rank u) (greatest-first boosts rank t first u)

step-here : (b : Bool) (x y : ℕ) → b ≡ true → y ≤ (if b then greater x y else x)
step-here true x y e = greater-second x y
step-here false x y e = cc

-- each booster's rank is at most that
pub greatest-booster : (boosts : ℕ → Option ℕ) (rank : ℕ → ℕ) (t first n u : ℕ) → u < n → boosts u ≡ Some t → rank u ≤ greatest boosts rank t first n
unfolding greatest
greatest-booster boosts rank t first zero u h e = absurd (omega arith)
greatest-booster boosts rank t first (suc n) u h e = elim (eq-or-lt_of_le {n = u} {m = n} (omega arith)) [
  | inl at ↦
      let on : is_number (boosts n) t ≡ true = boosts-so (boosts n) t (ap boosts (sym at) ∙ e) in
      let here : rank n ≤ (if is_number (boosts n) t then greater (greatest boosts rank t first n) (rank n) else greatest boosts rank t first n) = step-here (is_number (boosts n) t) (greatest boosts rank t first n) (rank n) on in
      rw at here
  | inr less ↦ step-first (is_number (boosts n) t) (rank u) (greatest boosts rank t first n) (rank n) (greatest-booster boosts rank t first n u less e)
]

-- two ranks that agree on the boosters have one greatest
step-same : (b : Bool) (x z y w : ℕ) → x ≡ z → (b ≡ true → y ≡ w) → (if b then greater x y else x) ≡ (if b then greater z w else z)
step-same true x z y w e h = rw (e, h refl) refl
step-same false x z y w e h = e

pub greatest-same : (boosts : ℕ → Option ℕ) (rank other : ℕ → ℕ) (t first n : ℕ) → ((u : ℕ) → u < n → boosts u ≡ Some t → rank u ≡ other u) → greatest boosts rank t first n ≡ greatest boosts other t first n
unfolding greatest
greatest-same boosts rank other t first zero h = refl
greatest-same boosts rank other t first (suc n) h =
    step-same (is_number (boosts n) t) (greatest boosts rank t first n) (greatest boosts other t first n) (rank n) (other n)
    (greatest-same boosts rank other t first n (λ u less e. h u (omega arith) e))
    (λ on. h n (omega arith) (boosts-is (boosts n) t on))

-- where none boosts, the first number stays
step-none : (b : Bool) (x y first : ℕ) → (b ≡ true → ⊥) → x ≡ first → (if b then greater x y else x) ≡ first
step-none true x y first n e = absurd (n refl)
step-none false x y first n e = e

pub greatest-none : (boosts : ℕ → Option ℕ) (rank : ℕ → ℕ) (t first n : ℕ) → ((u : ℕ) → boosts u ≡ Some t → ⊥) → greatest boosts rank t first n ≡ first
unfolding greatest
greatest-none boosts rank t first zero h = refl
greatest-none boosts rank t first (suc n) h =
    step-none (is_number (boosts n) t) (greatest boosts rank t first n) (rank n) first (λ on. h n (boosts-is (boosts n) t on)) (greatest-none boosts rank t first n h)
