-- The digits of bytes in two parts.
use Rattle.std.proofs.Common.{◌≡◌, ℕ, ◌/◌, ◌%◌, List, [], ◌∷◌, ◌++◌, refl, ap}
use Rattle.evm_journal.specs.evm_text.Written.{character, pairs}

pub pairs-append : (xs ys : List ℕ) → pairs (xs ++ ys) ≡ pairs xs ++ pairs ys
unfolding pairs
pairs-append [] ys = refl
pairs-append (x ∷ xs) ys = ap (λ (zs : List ℕ). character (x / 16) ∷ character (x % 16) ∷ zs) (pairs-append xs ys)
