-- The elements of a list after one of them was set or changed, or each was.
use Rattle.std.proofs.Common.{◌≡◌, ℕ, zero, suc, ◌+◌, ◌<◌, List, [], ◌∷◌, ◌++◌, Option, Some, None, length, ◌⊎◌, inl, inr, refl, ap, ◌∙◌, arith}
use Rattle.std.specs.Prelude.{slice_get, slice_set, replicate, option_map}
use Rattle.std.proofs.lemmas.List.{length-set}
use Rattle.evm_model.specs.Lists.{change, change_some, each, each_from}

-- an element of a list in which one was set is the one that was set, or another that was there
pub slice_get-slice_set : {X : Type 0} (xs : List X) (i j : ℕ) (y z : X) → slice_get (slice_set xs i y) j ≡ Some z
    → ((j ≡ i) × (z ≡ y) × (i < length xs)) ⊎ ((j ≡ i → ⊥) × (slice_get xs j ≡ Some z))
slice_get-slice_set [] i j y z e = cc
slice_get-slice_set (x ∷ xs) zero zero y z e = inl (refl, cc, omega arith)
slice_get-slice_set (x ∷ xs) zero (suc j) y z e = inr ((λ h. cc), e)
slice_get-slice_set (x ∷ xs) (suc i) zero y z e = inr ((λ h. cc), e)
slice_get-slice_set (x ∷ xs) (suc i) (suc j) y z e =
    elim (slice_get-slice_set xs i j y z e) [
      | inl h ↦ inl (ap suc h.0, h.1, omega arith)
      | inr h ↦ inr ((λ same. h.0 (omega arith)), h.1)
    ]

pub slice_get-set_same : {X : Type 0} (xs : List X) (i : ℕ) (x y : X) → slice_get xs i ≡ Some x → slice_get (slice_set xs i y) i ≡ Some y
slice_get-set_same [] i x y e = cc
slice_get-set_same (x' ∷ xs) zero x y e = refl
slice_get-set_same (x' ∷ xs) (suc i) x y e = slice_get-set_same xs i x y e

pub slice_get-set_other : {X : Type 0} (xs : List X) (i j : ℕ) (y : X) → (j ≡ i → ⊥) → slice_get (slice_set xs i y) j ≡ slice_get xs j
slice_get-set_other [] i j y e = refl
slice_get-set_other (x ∷ xs) zero zero y e = absurd (e refl)
slice_get-set_other (x ∷ xs) zero (suc j) y e = refl
slice_get-set_other (x ∷ xs) (suc i) zero y e = refl
slice_get-set_other (x ∷ xs) (suc i) (suc j) y e = slice_get-set_other xs i j y (λ same. e (ap suc same))

-- what is there already, set again
pub slice_set-same : {X : Type 0} (xs : List X) (i : ℕ) (x : X) → slice_get xs i ≡ Some x → slice_set xs i x ≡ xs
slice_set-same [] i x e = refl
slice_set-same (y ∷ xs) zero x e = cc
slice_set-same (y ∷ xs) (suc i) x e = ap (λ ys. y ∷ ys) (slice_set-same xs i x e)

pub slice_get-replicate : {X : Type 0} (n : ℕ) (x : X) (i : ℕ) (z : X) → slice_get (replicate n x) i ≡ Some z → z ≡ x
slice_get-replicate zero x i z e = cc
slice_get-replicate (suc n) x zero z e = cc
slice_get-replicate (suc n) x (suc i) z e = slice_get-replicate n x i z e

-- each place within a list has an element
pub slice_get-within : {X : Type 0} (xs : List X) (i : ℕ) → i < length xs → (x : X) × (slice_get xs i ≡ Some x)
slice_get-within [] i h = absurd (omega arith)
slice_get-within (x ∷ xs) zero h = (x, refl)
slice_get-within (x ∷ xs) (suc i) h = slice_get-within xs i (omega arith)

pub slice_get-below : {X : Type 0} (xs : List X) (i : ℕ) (x : X) → slice_get xs i ≡ Some x → i < length xs
slice_get-below [] i x e = cc
slice_get-below (y ∷ xs) zero x e = omega arith
slice_get-below (y ∷ xs) (suc i) x e = omega (arith, slice_get-below xs i x e)

-- lists with the same elements are the same
pub same_elements : {X : Type 0} (xs ys : List X) → ((i : ℕ) → slice_get xs i ≡ slice_get ys i) → xs ≡ ys
same_elements {X = X} [] [] h = refl
same_elements {X = X} [] (y ∷ ys) h = let e = h 0 in cc
same_elements {X = X} (x ∷ xs) [] h = let e = h 0 in cc
same_elements {X = X} (x ∷ xs) (y ∷ ys) h =
    let rest : xs ≡ ys = same_elements xs ys (λ i. h (suc i)) in let here : Some x ≡ Some y = h 0 in let same : x ≡ y = cc in
    ap (λ (z : X). z ∷ xs) same ∙ ap (λ (zs : List X). y ∷ zs) rest

-- ---- one element changed
change_some-here : {X : Type 0} (f : X → X) (xs : List X) (i : ℕ) (o : Option X) → slice_get xs i ≡ o → slice_get (change_some o f xs i) i ≡ option_map f o
change_some-here f xs i None e = e
change_some-here f xs i (Some x) e = slice_get-set_same xs i x (f x) e

pub change-here : {X : Type 0} (f : X → X) (xs : List X) (i : ℕ) → slice_get (change f xs i) i ≡ option_map f (slice_get xs i)
change-here f xs i = change_some-here f xs i (slice_get xs i) refl

change_some-elsewhere : {X : Type 0} (f : X → X) (xs : List X) (i j : ℕ) (o : Option X) → (j ≡ i → ⊥) → slice_get (change_some o f xs i) j ≡ slice_get xs j
change_some-elsewhere f xs i j None other = refl
change_some-elsewhere f xs i j (Some x) other = slice_get-set_other xs i j (f x) other

pub change-elsewhere : {X : Type 0} (f : X → X) (xs : List X) (i j : ℕ) → (j ≡ i → ⊥) → slice_get (change f xs i) j ≡ slice_get xs j
change-elsewhere f xs i j other = change_some-elsewhere f xs i j (slice_get xs i) other

pub length-change : {X : Type 0} (f : X → X) (xs : List X) (i : ℕ) → length (change f xs i) ≡ length xs
length-change f xs i = elim (slice_get xs i) as (λ o. length (change_some o f xs i) ≡ length xs) [ None ↦ refl | Some x ↦ length-set xs i (f x) ]

change_some-cases : {X : Type 0} (f : X → X) (xs : List X) (i j : ℕ) (o : Option X) (z : X) → slice_get xs i ≡ o → slice_get (change_some o f xs i) j ≡ Some z
    → ((j ≡ i) × (x : X) × (slice_get xs i ≡ Some x) × (z ≡ f x)) ⊎ ((j ≡ i → ⊥) × (slice_get xs j ≡ Some z))
change_some-cases f xs i j None z e h = inr ((λ same. let g : slice_get xs i ≡ Some z = rw (← same) h in cc), h)
change_some-cases f xs i j (Some x) z e h = elim (slice_get-slice_set xs i j (f x) z h) [
  | inl g ↦ inl (g.0, x, e, g.1)
  | inr g ↦ inr (g.0, g.1)
]

-- an element of a list in which one was changed is that one, or another that was there
pub change-cases : {X : Type 0} (f : X → X) (xs : List X) (i j : ℕ) (z : X) → slice_get (change f xs i) j ≡ Some z
    → ((j ≡ i) × (x : X) × (slice_get xs i ≡ Some x) × (z ≡ f x)) ⊎ ((j ≡ i → ⊥) × (slice_get xs j ≡ Some z))
change-cases f xs i j z h = change_some-cases f xs i j (slice_get xs i) z refl h

change_some-same : {X : Type 0} (f : X → X) (xs : List X) (i : ℕ) (o : Option X) → slice_get xs i ≡ o → ((x : X) → slice_get xs i ≡ Some x → f x ≡ x) → change_some o f xs i ≡ xs
change_some-same f xs i None e h = refl
change_some-same f xs i (Some x) e h = rw (h x e) (slice_set-same xs i x e)

-- a change that changes nothing there
pub change-same : {X : Type 0} (f : X → X) (xs : List X) (i : ℕ) → ((x : X) → slice_get xs i ≡ Some x → f x ≡ x) → change f xs i ≡ xs
change-same f xs i h = change_some-same f xs i (slice_get xs i) refl h

-- ---- each element changed by its number
pub slice_get-each_from : {X : Type 0} (n : ℕ) (f : ℕ → X → X) (xs : List X) (i : ℕ) → slice_get (each_from n f xs) i ≡ option_map (f (n + i)) (slice_get xs i)
slice_get-each_from n f [] i = refl
slice_get-each_from n f (x ∷ xs) zero = let e : n + 0 ≡ n = omega arith in rw e refl
slice_get-each_from n f (x ∷ xs) (suc i) = let e : n + suc i ≡ n + 1 + i = omega arith in rw e (slice_get-each_from (n + 1) f xs i)

pub slice_get-each : {X : Type 0} (f : ℕ → X → X) (xs : List X) (i : ℕ) → slice_get (each f xs) i ≡ option_map (f i) (slice_get xs i)
slice_get-each f xs i = let e : 0 + i ≡ i = omega arith in rw e at (slice_get-each_from 0 f xs i)

pub length-each_from : {X : Type 0} (n : ℕ) (f : ℕ → X → X) (xs : List X) → length (each_from n f xs) ≡ length xs
length-each_from n f [] = refl
length-each_from n f (x ∷ xs) = ap suc (length-each_from (n + 1) f xs)

-- a change of each that changes none
pub each_from-same : {X : Type 0} (n : ℕ) (f : ℕ → X → X) (xs : List X) → ((i : ℕ) (x : X) → slice_get xs i ≡ Some x → f (n + i) x ≡ x) → each_from n f xs ≡ xs
each_from-same {X = X} n f [] h = refl
each_from-same {X = X} n f (x ∷ xs) h =
    let e : n + 0 ≡ n = omega arith in
    let here : f n x ≡ x = rw (← e) (h 0 x refl) in
    let rest : each_from (n + 1) f xs ≡ xs = each_from-same (n + 1) f xs (λ i y g. let at : n + 1 + i ≡ n + suc i = omega arith in rw at (h (suc i) y g)) in
    ap (λ (z : X). z ∷ each_from (n + 1) f xs) here ∙ ap (λ (zs : List X). x ∷ zs) rest

-- ---- one element more
pub slice_get-push : {X : Type 0} (xs : List X) (y : X) (j : ℕ) (z : X) → slice_get (xs ++ y ∷ []) j ≡ Some z → (slice_get xs j ≡ Some z) ⊎ ((j ≡ length xs) × (z ≡ y))
slice_get-push [] y zero z e = inr (refl, cc)
slice_get-push [] y (suc j) z e = cc
slice_get-push (x ∷ xs) y zero z e = inl e
slice_get-push (x ∷ xs) y (suc j) z e = elim (slice_get-push xs y j z e) [
  | inl at ↦ inl at
  | inr last ↦ inr (ap suc last.0, last.1)
]

pub slice_get-before : {X : Type 0} (xs : List X) (y : X) (j : ℕ) (z : X) → slice_get xs j ≡ Some z → slice_get (xs ++ y ∷ []) j ≡ Some z
slice_get-before [] y j z e = cc
slice_get-before (x ∷ xs) y zero z e = e
slice_get-before (x ∷ xs) y (suc j) z e = slice_get-before xs y j z e
