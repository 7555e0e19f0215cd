-- Turns that are taken over one by one.
use Rattle.std.proofs.Common.{◌≡◌, ℕ, zero, suc, ◌≤◌, ◌<◌, ◌⊎◌, inl, inr, List, length, sym, ◌∙◌, arith}
use Rattle.std.specs.Prelude.{slice_get}
use Rattle.std.proofs.lemmas.Option.{slice_get_past}
use Rattle.evm_model.proofs.Lists.{same_elements}

before_or_past : (i n : ℕ) → (i < n) ⊎ (n ≤ i)
before_or_past i zero = inr (omega arith)
before_or_past zero (suc n) = inl (omega arith)
before_or_past (suc i) (suc n) = up (before_or_past i n)
  where
    up : (i < n) ⊎ (n ≤ i) → (suc i < suc n) ⊎ (suc n ≤ suc i)
    up (inl less) = inl (omega (arith, less))
    up (inr more) = inr (omega (arith, more))

-- all were
pub all_follow : {X : Type 0} (xs ys : List X) (n : ℕ) → length xs ≡ length ys → length ys ≤ n → ((i : ℕ) → i < n → slice_get xs i ≡ slice_get ys i) → xs ≡ ys
all_follow xs ys n long all each = same_elements xs ys (λ i. within i (before_or_past i n))
  where
    within : (i : ℕ) → (i < n) ⊎ (n ≤ i) → slice_get xs i ≡ slice_get ys i
    within i (inl less) = each i less
    within i (inr past) = slice_get_past xs i (omega (arith, long, all, past)) ∙ sym (slice_get_past ys i (omega (arith, all, past)))
