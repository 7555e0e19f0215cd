-- The first by ranks that are equal below the count.
use Rattle.std.proofs.Common.{◌≡◌, ℕ, zero, suc, ◌<◌, Option, Some, None, Bool, true, false, refl, ap, arith}
use Rattle.std.specs.Prelude.{if◌then◌else◌}
use Rattle.evm_model.specs.Ranks.{first, leader, goes_before}

-- the one that goes first is one of the two
if-below : (b : Bool) (t u n : ℕ) → t < n → u < n → (if b then t else u) < n
if-below true t u n p q = p
if-below false t u n p q = q

leader-below : (rank stamp : ℕ → ℕ) (o : Option ℕ) (t : ℕ) → ((u : ℕ) → o ≡ Some u → u < t) → leader rank stamp o t < suc t
leader-below rank stamp None t h = omega arith
leader-below rank stamp (Some u) t h = let low = h u refl in if-below (goes_before rank stamp t u) t u (suc t) (omega arith) (omega (arith, low))

below-step : (b : Bool) (o : Option ℕ) (t l u : ℕ) → ((v : ℕ) → o ≡ Some v → v < t) → l < suc t → (if b then Some l else o) ≡ Some u → u < suc t
below-step true o t l u h low e = let is : l ≡ u = cc in rw (← is) low
below-step false o t l u h low e = let less = h u e in omega (arith, less)

-- the first is below the count
pub first-below : (member : ℕ → Bool) (rank stamp : ℕ → ℕ) (n u : ℕ) → first member rank stamp n ≡ Some u → u < n
unfolding first
first-below member rank stamp zero u e = cc
first-below member rank stamp (suc t) u e =
    below-step (member t) (first member rank stamp t) t (leader rank stamp (first member rank stamp t) t) u
    (first-below member rank stamp t)
    (leader-below rank stamp (first member rank stamp t) t (first-below member rank stamp t))
    e

leader-same : (rank other stamp : ℕ → ℕ) (o : Option ℕ) (t : ℕ) → rank t ≡ other t → ((u : ℕ) → o ≡ Some u → rank u ≡ other u) → leader rank stamp o t ≡ leader other stamp o t
leader-same rank other stamp None t here h = refl
leader-same rank other stamp (Some u) t here h = rw (here, h u refl) refl

-- ranks that are equal below the count choose the same
pub first-same : (member : ℕ → Bool) (rank other stamp : ℕ → ℕ) (n : ℕ) → ((u : ℕ) → u < n → rank u ≡ other u) → first member rank stamp n ≡ first member other stamp n
unfolding first
first-same member rank other stamp zero h = refl
first-same member rank other stamp (suc t) h =
    let before : first member rank stamp t ≡ first member other stamp t = first-same member rank other stamp t (λ u less. h u (omega (arith, less))) in
    rw (← before)
    (ap (λ (l : ℕ). if member t then Some l else first member rank stamp t)
    (leader-same rank other stamp (first member rank stamp t) t (h t (omega arith))
    (λ u e. let less = first-below member rank stamp t u e in h u (omega (arith, less)))))

-- ---- other entries that say the same of each member
if-member : (member : ℕ → Bool) (b : Bool) (t u : ℕ) → member t ≡ true → member u ≡ true → member (if b then t else u) ≡ true
if-member member true t u here there = here
if-member member false t u here there = there

leader-member : (member : ℕ → Bool) (rank stamp : ℕ → ℕ) (o : Option ℕ) (t : ℕ) → member t ≡ true → ((u : ℕ) → o ≡ Some u → member u ≡ true)
    → member (leader rank stamp o t) ≡ true
leader-member member rank stamp None t here h = here
leader-member member rank stamp (Some u) t here h = if-member member (goes_before rank stamp t u) t u here (h u refl)

member-step : (member : ℕ → Bool) (b : Bool) (o : Option ℕ) (l u : ℕ) → (b ≡ true → member l ≡ true) → ((v : ℕ) → o ≡ Some v → member v ≡ true)
    → (if b then Some l else o) ≡ Some u → member u ≡ true
member-step member true o l u lead h e = let is : l ≡ u = cc in rw (← is) (lead refl)
member-step member false o l u lead h e = h u e

-- the first is a member
pub first-member : (member : ℕ → Bool) (rank stamp : ℕ → ℕ) (n u : ℕ) → first member rank stamp n ≡ Some u → member u ≡ true
unfolding first
first-member member rank stamp zero u e = cc
first-member member rank stamp (suc t) u e =
    member-step member (member t) (first member rank stamp t) (leader rank stamp (first member rank stamp t) t) u
    (λ is. leader-member member rank stamp (first member rank stamp t) t is (first-member member rank stamp t))
    (first-member member rank stamp t)
    e

leader-agree : (rank stamp other : ℕ → ℕ) (o : Option ℕ) (t : ℕ) → stamp t ≡ other t → ((u : ℕ) → o ≡ Some u → stamp u ≡ other u) → leader rank stamp o t ≡ leader rank other o t
leader-agree rank stamp other None t here h = refl
leader-agree rank stamp other (Some u) t here h = rw (here, h u refl) refl

agree-step : (b : Bool) (o : Option ℕ) (l m : ℕ) → (b ≡ true → l ≡ m) → (if b then Some l else o) ≡ (if b then Some m else o)
agree-step true o l m h = ap Some (h refl)
agree-step false o l m h = refl

-- equal members with equal stamps choose the same
pub first-agree : (member others : ℕ → Bool) (rank stamp stamps : ℕ → ℕ) (n : ℕ) → ((t : ℕ) → member t ≡ others t)
    → ((t : ℕ) → member t ≡ true → stamp t ≡ stamps t) → first member rank stamp n ≡ first others rank stamps n
unfolding first
first-agree member others rank stamp stamps zero same at = refl
first-agree member others rank stamp stamps (suc t) same at =
    rw (← same t, ← first-agree member others rank stamp stamps t same at)
    (agree-step (member t) (first member rank stamp t) (leader rank stamp (first member rank stamp t) t) (leader rank stamps (first member rank stamp t) t)
    (λ is. leader-agree rank stamp stamps (first member rank stamp t) t (at t is) (λ u e. at u (first-member member rank stamp t u e))))
