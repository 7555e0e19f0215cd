-- A list of zeros, one by one.
use Rattle.std.proofs.Common.{◌≡◌, ℕ, ◌+◌, [], ◌∷◌, ◌++◌, sym}
use Rattle.std.specs.Prelude.{replicate}
use Rattle.std.proofs.lemmas.List.{replicate-append-replicate}

pub replicate-more : (n a : ℕ) → replicate (n + 1) a ≡ replicate n a ++ a ∷ []
replicate-more n a = sym (replicate-append-replicate n 1 a)

pub ruleset one_more = (replicate-more)
