-- Sums over the positions of a list.
use Rattle.std.proofs.Common.{◌≡◌, ℕ, zero, suc, ◌+◌, ◌<◌, ◌≤◌, List, [], ◌∷◌, length, refl, sym, ap, ◌∙◌, arith, cond, Option, Some, None, Bool, ◌⊎◌, inl, inr, ⊎_elim}
use Rattle.std.proofs.lemmas.List.Sums.{sum_by-cons}
use Rattle.std.specs.Prelude.{All, count_by, sum_by, slice_get}

-- the sum of f over the numbers below n
abbrev pub sums : ℕ → (ℕ → ℕ) → ℕ
sums zero f = 0
sums (suc n) f = f 0 + sums n (λ k. f (suc k))

pub sums_none : (n : ℕ) → sums n (λ k. 0) ≡ 0
sums_none zero = refl
sums_none (suc n) = omega (arith, sums_none n)

pub sums_add : (n : ℕ) (f g : ℕ → ℕ) → sums n (λ k. f k + g k) ≡ sums n f + sums n g
sums_add zero f g = refl
sums_add (suc n) f g = omega (arith, sums_add n (λ k. f (suc k)) (λ k. g (suc k)))

pub sums_le : (n : ℕ) (f g : ℕ → ℕ) → ((k : ℕ) → f k ≤ g k) → sums n f ≤ sums n g
sums_le zero f g h = omega arith
sums_le (suc n) f g h = omega (arith, h 0, sums_le n (λ k. f (suc k)) (λ k. g (suc k)) (λ k. h (suc k)))

-- sums of sums, in either order
module _ {X : Type 0} (f : X → ℕ → ℕ) where
  pub swapped : (n : ℕ) (xs : List X) → sum_by (λ x. sums n (f x)) xs ≡ sums n (λ k. sum_by (λ x. f x k) xs)
  swapped n [] = sym (sums_none n)
  swapped n (x ∷ xs) =
      let each : (k : ℕ) → sum_by (λ y. f y k) (x ∷ xs) ≡ f x k + sum_by (λ y. f y k) xs = λ k. sum_by-cons (λ y. f y k) x xs in
      let whole : sums n (λ k. sum_by (λ y. f y k) (x ∷ xs)) ≡ sums n (λ k. f x k + sum_by (λ y. f y k) xs) = λ i. sums n (λ k. each k i) in
      sum_by-cons (λ y. sums n (f y)) x xs ∙ ap (λ m. sums n (f x) + m) (swapped n xs) ∙ sym (sums_add n (f x) (λ k. sum_by (λ y. f y k) xs)) ∙ sym whole

-- the terms of one sum are at most those of another
module _ {X : Type 0} (f g : X → ℕ) where
  pub sum_by_below : (xs : List X) → All (λ x. f x ≤ g x) xs → sum_by f xs ≤ sum_by g xs
  sum_by_below [] h = omega arith
  sum_by_below (x ∷ xs) h =
      let one : f x ≤ g x = h 0 x (omega arith) in
      let rest = sum_by_below xs (λ i d lt. h (suc i) d (omega arith)) in
      omega (arith, one, rest, sum_by-cons f x xs, sum_by-cons g x xs)

  pub sum_by_both : (xs : List X) → sum_by (λ x. f x + g x) xs ≡ sum_by f xs + sum_by g xs
  sum_by_both [] = refl
  sum_by_both (x ∷ xs) = omega (arith, sum_by_both xs, sum_by-cons f x xs, sum_by-cons g x xs, sum_by-cons (λ y. f y + g y) x xs)

pub sum_by_nothing : {X : Type 0} (f : X → ℕ) (xs : List X) → All (λ x. f x ≡ 0) xs → sum_by f xs ≡ 0
sum_by_nothing f [] h = refl
sum_by_nothing f (x ∷ xs) h =
    let one : f x ≡ 0 = h 0 x (omega arith) in
    let rest = sum_by_nothing f xs (λ i d lt. h (suc i) d (omega arith)) in
    omega (arith, one, rest, sum_by-cons f x xs)

pub less_or_not : (k n : ℕ) → (k < n) ⊎ (n ≤ k)
less_or_not zero zero = inr (omega arith)
less_or_not zero (suc n) = inl (omega arith)
less_or_not (suc k) zero = inr (omega arith)
less_or_not (suc k) (suc n) = ⊎_elim (λ lt. inl (omega arith)) (λ le. inr (omega arith)) (less_or_not k n)

-- ---- values at positions
module _ {X : Type 0} (p : X → Bool) where
  -- 1 for one that passes
  abbrev pub worth : Option X → ℕ
  worth None = 0
  worth (Some x) = cond (p x) 1 0

  -- a list counted by its positions
  pub counted : (xs : List X) → sums (length xs) (λ k. worth (slice_get xs k)) ≡ count_by p xs
  counted [] = refl
  counted (x ∷ xs) = ap (λ n. cond (p x) 1 0 + n) (counted xs) ∙ sym (sum_by-cons (λ y. cond (p y) 1 0) x xs)

  -- what a list gives at a position, if it begins at another
  abbrev pub shifted : ℕ → List X → ℕ → ℕ
  shifted zero xs k = worth (slice_get xs k)
  shifted (suc a) xs zero = 0
  shifted (suc a) xs (suc k) = shifted a xs k

  -- a list that stands in another from a position on is counted by its positions there
  pub standing : (all xs : List X) (a : ℕ) → ((k : ℕ) → k < length xs → slice_get all (a + k) ≡ slice_get xs k) → count_by p xs ≤ sums (length all) (shifted a xs)
  standing all [] a h = omega arith
  standing [] (x ∷ xs) zero h = let no = h 0 (omega arith) in cc
  standing [] (x ∷ xs) (suc a) h = let no = h 0 (omega arith) in cc
  standing (y ∷ all) (x ∷ xs) zero h =
      let rest = standing all xs zero (λ k lt. let e : 0 + suc k ≡ suc k = omega arith in let f : 0 + k ≡ k = omega arith in ap (slice_get all) f ∙ ap (slice_get (y ∷ all)) (sym e) ∙ h (suc k) (omega arith)) in
      let parts : sums (length (y ∷ all)) (shifted zero (x ∷ xs)) ≡ cond (p x) 1 0 + sums (length all) (shifted zero xs) = refl in
      omega (arith, rest, parts, sum_by-cons (λ z. cond (p z) 1 0) x xs)
  standing (y ∷ all) (x ∷ xs) (suc a) h =
      let parts : sums (length (y ∷ all)) (shifted (suc a) (x ∷ xs)) ≡ 0 + sums (length all) (shifted a (x ∷ xs)) = refl in
      let rest = standing all (x ∷ xs) a (λ k lt. let e : suc a + k ≡ suc (a + k) = omega arith in ap (slice_get (y ∷ all)) (sym e) ∙ h k lt) in
      omega (arith, parts, rest)

  past : (xs : List X) (k : ℕ) → length xs ≤ k → worth (slice_get xs k) ≡ 0
  past [] k h = refl
  past (x ∷ xs) zero h = absurd (omega arith)
  past (x ∷ xs) (suc k) h = past xs k (omega arith)

  -- outside of its positions it gives nothing
  pub shifted_outside : (xs : List X) (a k : ℕ) → (a ≤ k → k < a + length xs → ⊥) → shifted a xs k ≡ 0
  shifted_outside xs zero k h = ⊎_elim (λ lt. absurd (h (omega arith) (omega arith))) (past xs k) (less_or_not k (length xs))
  shifted_outside xs (suc a) zero h = refl
  shifted_outside xs (suc a) (suc k) h = shifted_outside xs a k (λ low high. h (omega arith) (omega arith))
