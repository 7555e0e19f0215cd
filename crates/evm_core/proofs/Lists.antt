use Rattle.std.proofs.Common.{◌≡◌, ℕ, ◌+◌, [], ◌∷◌, ◌++◌, sym}
use Rattle.std.specs.Prelude.{replicate}
use Rattle.std.proofs.lemmas.List.{replicate-append-replicate}

-- one more of the same
pub replicate-more : {A : Type 0} → (n : ℕ) (a : A) → replicate (n + 1) a ≡ replicate n a ++ a ∷ []
replicate-more n a = sym (replicate-append-replicate n 1 a)

pub ruleset one_more = (replicate-more)
