-- Lists whose elements are each seen through a function, and the first of the members of two orders.
use Rattle.std.proofs.Common.{◌≡◌, ℕ, zero, suc, ◌<◌, ◌≤◌, List, [], ◌∷◌, Bool, true, false, Option, Some, None, map, refl, ap, sym, ◌∙◌, arith}
use Rattle.std.specs.Prelude.{slice_get, slice_set, option_map, nat_lt, if◌then◌else◌}
use Rattle.std.proofs.lemmas.Bool.{lt-ltb}
use Rattle.std.proofs.lemmas.Bool.Decides.{nat_tests}
use Rattle.std.proofs.lemmas.Option.{slice_get-map}
use Rattle.evm_model.specs.Lists.{change, change_some}
use Rattle.evm_model.specs.Ranks.{goes_before, leader, first}

map-slice_set : {X Y : Type 0} (g : X → Y) (xs : List X) (i : ℕ) (x : X) → map g (slice_set xs i x) ≡ slice_set (map g xs) i (g x)
map-slice_set g [] i x = refl
map-slice_set g (y ∷ xs) zero x = refl
map-slice_set g (y ∷ xs) (suc i) x = ap (λ ys. g y ∷ ys) (map-slice_set g xs i x)

map-change_some : {X Y : Type 0} (g : X → Y) (f : X → X) (h : Y → Y) (xs : List X) (i : ℕ) (o : Option X) → ((x : X) → g (f x) ≡ h (g x))
    → map g (change_some o f xs i) ≡ change_some (option_map g o) h (map g xs) i
map-change_some g f h xs i None e = refl
map-change_some g f h xs i (Some x) e = map-slice_set g xs i (f x) ∙ ap (slice_set (map g xs) i) (e x)

-- what is seen of a list in which one element was changed
pub map-change : {X Y : Type 0} (g : X → Y) (f : X → X) (h : Y → Y) (xs : List X) (i : ℕ) → ((x : X) → g (f x) ≡ h (g x)) → map g (change f xs i) ≡ change h (map g xs) i
map-change g f h xs i e = map-change_some g f h xs i (slice_get xs i) e ∙ ap (λ o. change_some o h (map g xs) i) (sym (slice_get-map g xs i))

-- ---- the first
pub lt-true : (a b : ℕ) → a < b → nat_lt a b ≡ true
lt-true a b h = lt-ltb a b h

pub lt-false : (a b : ℕ) → b ≤ a → nat_lt a b ≡ false
lt-false a b h = grind (arith, nat_tests)

-- two ranks and two stamps by which each two numbers below a count compare alike
pub record Compare (rank stamp other_rank other_stamp : ℕ → ℕ) (count : ℕ) : Type 0 where
  pub ranks : (t : ℕ) → rank t ≡ other_rank t
  pub stamps : (t u : ℕ) → t < count → u < count → nat_lt (stamp t) (stamp u) ≡ nat_lt (other_stamp t) (other_stamp u)

fewer : (r s r' s' : ℕ → ℕ) (n : ℕ) → Compare r s r' s' (suc n) → Compare r s r' s' n
fewer r s r' s' n c = record { ranks = c.ranks; stamps = λ t u h k. c.stamps t u (omega arith) (omega arith) }

-- what is below a count, if it is there
abbrev IsBelow : ℕ → Option ℕ → Type 0
IsBelow n None = Unit {0}
IsBelow n (Some t) = t < n

below-more : (n : ℕ) (o : Option ℕ) → IsBelow n o → IsBelow (suc n) o
below-more n None h = tt
below-more n (Some t) h = omega arith

goes-same : (r s r' s' : ℕ → ℕ) (n t u : ℕ) → Compare r s r' s' n → t < n → u < n → goes_before r s t u ≡ goes_before r' s' t u
goes-same r s r' s' n t u c h k = rw (c.ranks t, c.ranks u, c.stamps t u h k) refl

leader-same : (r s r' s' : ℕ → ℕ) (n : ℕ) (o : Option ℕ) → Compare r s r' s' (suc n) → IsBelow n o → leader r s o n ≡ leader r' s' o n
leader-same r s r' s' n None c h = refl
leader-same r s r' s' n (Some t) c h = rw (goes-same r s r' s' (suc n) n t c (omega arith) (omega arith)) refl

one-of : (b : Bool) (t u n : ℕ) → t < n → u < n → (if b then t else u) < n
one-of true t u n h k = h
one-of false t u n h k = k

leader-below : (r s : ℕ → ℕ) (n : ℕ) (o : Option ℕ) → IsBelow n o → leader r s o n < suc n
leader-below r s n None h = omega arith
leader-below r s n (Some t) h = one-of (goes_before r s n t) n t (suc n) (omega arith) (omega arith)

if-below : (b : Bool) (r s : ℕ → ℕ) (n : ℕ) (o : Option ℕ) → IsBelow n o → IsBelow (suc n) (if b then Some (leader r s o n) else o)
if-below true r s n o h = leader-below r s n o h
if-below false r s n o h = below-more n o h

first-below : (m : ℕ → Bool) (r s : ℕ → ℕ) (n : ℕ) → IsBelow n (first m r s n)
unfolding first
first-below m r s zero = tt
first-below m r s (suc n) = if-below (m n) r s n (first m r s n) (first-below m r s n)

-- the same members have the same first
pub first-same : (m m' : ℕ → Bool) (r s r' s' : ℕ → ℕ) (n : ℕ) → ((t : ℕ) → m t ≡ m' t) → Compare r s r' s' n → first m r s n ≡ first m' r' s' n
unfolding first
first-same m m' r s r' s' zero e c = refl
first-same m m' r s r' s' (suc n) e c =
    rw (e n, leader-same r s r' s' n (first m r s n) c (first-below m r s n))
    (ap (λ o. if m' n then Some (leader r' s' o n) else o) (first-same m m' r s r' s' n e (fewer r s r' s' n c)))
