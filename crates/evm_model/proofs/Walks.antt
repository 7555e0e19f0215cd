-- Where a height falls along each link, every walk is over soon, and none returns to its start.
use Rattle.std.proofs.Common.{◌≡◌, ℕ, zero, suc, ◌+◌, ◌≤◌, Option, Some, None, refl, arith}
use Rattle.evm_model.specs.Boosts.{walk_on, walk, EndsWithin, HasHeight}

-- a link further is lower
step-low : (boosts : ℕ → Option ℕ) (limit n links t : ℕ) (o : Option ℕ) (u : ℕ) (h : HasHeight boosts limit) → ((v : ℕ) → o ≡ Some v → h.height v + links ≤ n) → walk_on boosts o ≡ Some u → h.height u + suc links ≤ n
step-low boosts limit n links t None u h low e = cc
step-low boosts limit n links t (Some v) u h low e = let fall = h.falls v u e in let so_far = low v refl in omega (arith, fall, so_far)

walk-low : (boosts : ℕ → Option ℕ) (limit links t u : ℕ) (h : HasHeight boosts limit) → walk boosts links t ≡ Some u → h.height u + links ≤ h.height t
unfolding walk
walk-low boosts limit zero t u h e = let same : t ≡ u = cc in rw same (omega arith)
walk-low boosts limit (suc links) t u h e = step-low boosts limit (h.height t) links t (walk boosts links t) u h (λ v f. walk-low boosts limit links t v h f) e

over : (o : Option ℕ) → ((u : ℕ) → o ≡ Some u → ⊥) → o ≡ None
over None h = refl
over (Some u) h = absurd (h u refl)

pub walks_end : (boosts : ℕ → Option ℕ) (limit : ℕ) → HasHeight boosts limit → EndsWithin boosts (suc limit)
walks_end boosts limit h t = over (walk boosts (suc limit) t) (λ u e. let low = walk-low boosts limit (suc limit) t u h e in let top = h.low t in omega (arith, low, top))

pub never_returns : (boosts : ℕ → Option ℕ) (limit links t : ℕ) → HasHeight boosts limit → walk boosts (suc links) t ≡ Some t → ⊥
never_returns boosts limit links t h e = let low = walk-low boosts limit (suc links) t t h e in omega (arith, low)
