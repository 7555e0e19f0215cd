-- What holds of each element, and of none.
use Rattle.std.proofs.Common.{ℕ, zero, suc, ◌<◌, ◌≤◌, List, [], ◌∷◌, Option, None, length, arith}
use Rattle.std.specs.Prelude.{slice_get}

pub all-below : {X : Type 0} (P : Option X → Type 0) (xs : List X) → P None → ((t : ℕ) → t < length xs → P (slice_get xs t)) → (t : ℕ) → P (slice_get xs t)
all-below P [] none each t = none
all-below P (x ∷ xs) none each zero = each 0 (omega arith)
all-below P (x ∷ xs) none each (suc t) = all-below P xs none (λ u less. each (suc u) (omega arith)) t

-- what holds of each place of a list and past its end holds of each place
pub each-place : {X : Type 0} (P : ℕ → Option X → Type 0) (xs : List X) → ((k : ℕ) → k < length xs → P k (slice_get xs k)) → ((k : ℕ) → length xs ≤ k → P k None) → (k : ℕ) → P k (slice_get xs k)
each-place P [] within past k = past k (omega arith)
each-place P (x ∷ xs) within past zero = within 0 (omega arith)
each-place P (x ∷ xs) within past (suc k) = each-place (λ j o. P (suc j) o) xs (λ j less. within (suc j) (omega arith)) (λ j less. past (suc j) (omega arith)) k
