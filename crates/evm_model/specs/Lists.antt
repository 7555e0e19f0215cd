-- Two changes of a list: of one element, and of each by its number.
use Rattle.std.specs.Prelude.{ℕ, ◌+◌, List, [], ◌∷◌, Option, Some, None, slice_get, slice_set}

abbrev pub change_some : {X : Type 0} → Option X → (X → X) → List X → ℕ → List X
change_some None f xs i = xs
change_some (Some x) f xs i = slice_set xs i (f x)

-- element i changed, if there is one
abbrev pub change : {X : Type 0} → (X → X) → List X → ℕ → List X
change f xs i = change_some (slice_get xs i) f xs i

-- each element changed by its number, the first of which is n
abbrev pub each_from : {X : Type 0} → ℕ → (ℕ → X → X) → List X → List X
each_from n f [] = []
each_from n f (x ∷ xs) = f n x ∷ each_from (n + 1) f xs

-- each element changed by its number, from 0 on
abbrev pub each : {X : Type 0} → (ℕ → X → X) → List X → List X
each f xs = each_from 0 f xs
