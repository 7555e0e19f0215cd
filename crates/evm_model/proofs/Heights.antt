-- Where something falls along each link, a height below the count does.
use Rattle.std.proofs.Common.{◌≡◌, ℕ, zero, suc, ◌+◌, ◌<◌, ◌≤◌, Option, Some, Bool, true, false, refl, inl, inr, arith, leb-true, leb-false}
use Rattle.std.specs.Prelude.{nat_le, if◌then◌else◌}
use Rattle.std.proofs.Math.Nat.{eq-or-lt_of_le}
use Rattle.evm_model.specs.Boosts.{HasHeight, Falls, lower_than}

one-more : (b : Bool) (n m : ℕ) → n ≤ m → (if b then n else n + 1) ≤ m + 1
one-more true n m h = omega arith
one-more false n m h = omega arith

lower-few : (height : ℕ → ℕ) (level n : ℕ) → lower_than height level n ≤ n
unfolding lower_than
lower-few height level zero = omega arith
lower-few height level (suc v) =
    let few : (if nat_le level (height v) then lower_than height level v else lower_than height level v + 1) ≤ v + 1 = one-more (nat_le level (height v)) (lower_than height level v) v (lower-few height level v) in
    omega (arith, few)

-- of two levels the greater has no fewer below it
both-steps : (low high x n m : ℕ) (b d : Bool) → nat_le low x ≡ b → nat_le high x ≡ d → low ≤ high → n ≤ m → (if b then n else n + 1) ≤ (if d then m else m + 1)
both-steps low high x n m true true p q h k = k
both-steps low high x n m true false p q h k = omega (arith, k)
both-steps low high x n m false true p q h k = let a : x < low = leb-false low x p in let b : high ≤ x = leb-true high x q in absurd (omega arith)
both-steps low high x n m false false p q h k = omega (arith, k)

lower-more : (height : ℕ → ℕ) (low high n : ℕ) → low ≤ high → lower_than height low n ≤ lower_than height high n
unfolding lower_than
lower-more height low high zero h = omega arith
lower-more height low high (suc v) h =
    both-steps low high (height v) (lower_than height low v) (lower_than height high v) (nat_le low (height v)) (nat_le high (height v)) refl refl h (lower-more height low high v h)

-- and one more, where a member stands at the lesser one
here-step : (low high n m : ℕ) (b d : Bool) → nat_le low low ≡ b → nat_le high low ≡ d → low < high → n ≤ m → (if b then n else n + 1) < (if d then m else m + 1)
here-step low high n m true true p q h k = let a : high ≤ low = leb-true high low q in absurd (omega arith)
here-step low high n m true false p q h k = omega (arith, k)
here-step low high n m false true p q h k = let a : low < low = leb-false low low p in absurd (omega arith)
here-step low high n m false false p q h k = let a : low < low = leb-false low low p in absurd (omega arith)

before-step : (low high x n m : ℕ) (b d : Bool) → nat_le low x ≡ b → nat_le high x ≡ d → low ≤ high → n < m → (if b then n else n + 1) < (if d then m else m + 1)
before-step low high x n m true true p q h k = k
before-step low high x n m true false p q h k = omega (arith, k)
before-step low high x n m false true p q h k = let a : x < low = leb-false low x p in let b : high ≤ x = leb-true high x q in absurd (omega arith)
before-step low high x n m false false p q h k = omega (arith, k)

lower-here : (height : ℕ → ℕ) (high v : ℕ) → height v < high → lower_than height (height v) (suc v) < lower_than height high (suc v)
unfolding lower_than
lower-here height high v low =
    here-step (height v) high (lower_than height (height v) v) (lower_than height high v) (nat_le (height v) (height v)) (nat_le high (height v)) refl refl low (lower-more height (height v) high v (omega (arith, low)))

lower-at : (height : ℕ → ℕ) (high v t : ℕ) → t ≡ v → height t < high → lower_than height (height t) (suc v) < lower_than height high (suc v)
lower-at height high v t at low = rw at (lower-here height high v (rw (← at) low))

lower-step : (height : ℕ → ℕ) (high v t : ℕ) → height t < high → lower_than height (height t) v < lower_than height high v → lower_than height (height t) (suc v) < lower_than height high (suc v)
unfolding lower_than
lower-step height high v t h less =
    before-step (height t) high (height v) (lower_than height (height t) v) (lower_than height high v) (nat_le (height t) (height v)) (nat_le high (height v)) refl refl (omega (arith, h)) less

lower-strictly : (height : ℕ → ℕ) (high n t : ℕ) → t < n → height t < high → lower_than height (height t) n < lower_than height high n
lower-strictly height high zero t less h = absurd (omega arith)
lower-strictly height high (suc v) t less h = elim (eq-or-lt_of_le {n = t} {m = v} (omega arith)) [
  | inl at ↦ lower-at height high v t at h
  | inr below ↦ lower-step height high v t h (lower-strictly height high v t below h)
]

-- so a height below the count falls too, where links lead to tasks
pub falls-low : (boosts : ℕ → Option ℕ) (count : ℕ) → ((u t : ℕ) → boosts u ≡ Some t → t < count) → Falls boosts → HasHeight boosts count
falls-low boosts count inside f = record {
  height = λ t. lower_than f.height (f.height t) count;
  low = λ t. lower-few f.height (f.height t) count;
  falls = λ u t e. lower-strictly f.height (f.height u) count t (inside u t e) (f.falls u t e);
}
