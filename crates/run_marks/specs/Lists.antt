-- Lists made number by number.
use Rattle.std.specs.Prelude.{ℕ, zero, suc, List, [], ◌++◌}

-- what there is of each number below n, in their order
unfoldable pub below : {X : Type 0} → (ℕ → List X) → ℕ → List X
below f zero = []
below f (suc n) = below f n ++ f n
