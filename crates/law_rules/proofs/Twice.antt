-- A list of which one element was changed twice.
use Rattle.std.proofs.Common.{◌≡◌, ℕ, List, Option, Some, None, inl, inr, refl, ap, sym, ◌∙◌}
use Rattle.std.specs.Prelude.{slice_get, option_map}
use Rattle.std.proofs.lemmas.Bool.{cases_eq}
use Rattle.evm_model.specs.Lists.{change}
use Rattle.evm_model.proofs.Lists.{change-here, change-elsewhere, same_elements}

map-twice : {X : Type 0} (f g : X → X) (o : Option X) → option_map f (option_map g o) ≡ option_map (λ n. f (g n)) o
map-twice f g None = refl
map-twice f g (Some n) = refl

pub change-twice : {X : Type 0} (f g : X → X) (xs : List X) (l : ℕ) → change f (change g xs l) l ≡ change (λ n. f (g n)) xs l
change-twice {X = X} f g xs l = same_elements (change f (change g xs l) l) (change (λ (n : X). f (g n)) xs l) (λ i. elim (cases_eq i l) [
  | inl same ↦ rw same
      (change-here f (change g xs l) l ∙ ap (option_map f) (change-here g xs l) ∙ map-twice f g (slice_get xs l) ∙ sym (change-here (λ (n : X). f (g n)) xs l))
  | inr other ↦ change-elsewhere f (change g xs l) l i other ∙ change-elsewhere g xs l i other ∙ sym (change-elsewhere (λ (n : X). f (g n)) xs l i other)
])
