-- The greatest is the least number that is at least each of them.
use Rattle.std.proofs.Common.{◌≡◌, ℕ, zero, suc, ◌<◌, ◌≤◌, Option, Some, Bool, true, false, refl, arith}
use Rattle.std.specs.Prelude.{if◌then◌else◌}
use Rattle.evm_model.specs.Boosts.{greater, is_number, greatest}
use Rattle.evm_model.proofs.Greatest.{greater-least, boosts-is}

step-least : (b : Bool) (x y bound : ℕ) → x ≤ bound → (b ≡ true → y ≤ bound) → (if b then greater x y else x) ≤ bound
step-least true x y bound p q = greater-least x y bound p (q refl)
step-least false x y bound p q = p

-- it is at most what the first number and each booster's rank are at most
pub greatest-least : (boosts : ℕ → Option ℕ) (rank : ℕ → ℕ) (t first n bound : ℕ) → first ≤ bound → ((u : ℕ) → u < n → boosts u ≡ Some t → rank u ≤ bound)
    → greatest boosts rank t first n ≤ bound
unfolding greatest
greatest-least boosts rank t first zero bound least each = least
greatest-least boosts rank t first (suc n) bound least each =
    step-least (is_number (boosts n) t) (greatest boosts rank t first n) (rank n) bound
    (greatest-least boosts rank t first n bound least (λ u less e. each u (omega (arith, less)) e))
    (λ on. each n (omega arith) (boosts-is (boosts n) t on))

-- a number that is at least each of them, and no more than the greatest, is that
pub greatest-is : (boosts : ℕ → Option ℕ) (rank : ℕ → ℕ) (t first n bound : ℕ) → first ≤ bound → ((u : ℕ) → u < n → boosts u ≡ Some t → rank u ≤ bound)
    → bound ≤ greatest boosts rank t first n → bound ≡ greatest boosts rank t first n
greatest-is boosts rank t first n bound least each most =
    let low = greatest-least boosts rank t first n bound least each in omega (arith, low, most)

step-links : (b d : Bool) (x z y : ℕ) → b ≡ d → x ≡ z → (if b then greater x y else x) ≡ (if d then greater z y else z)
step-links b d x z y e f = rw (e, f) refl

-- the links to a task alone decide
pub greatest-links : (boosts other : ℕ → Option ℕ) (rank : ℕ → ℕ) (t first n : ℕ) → ((u : ℕ) → u < n → is_number (boosts u) t ≡ is_number (other u) t)
    → greatest boosts rank t first n ≡ greatest other rank t first n
unfolding greatest
greatest-links boosts other rank t first zero h = refl
greatest-links boosts other rank t first (suc n) h =
    step-links (is_number (boosts n) t) (is_number (other n) t) (greatest boosts rank t first n) (greatest other rank t first n) (rank n)
    (h n (omega arith))
    (greatest-links boosts other rank t first n (λ u less. h u (omega (arith, less))))
