-- Places of the tasks below a number, and reports one after another.
use Rattle.std.proofs.Common.{◌≡◌, ℕ, zero, suc, ◌+◌, List, [], ◌∷◌, ◌++◌, refl, subst, add-one}
use Rattle.std.specs.Prelude.{slice_get}
use Rattle.evm_streams.specs.Diagnostic.{Place, TellsAll}
use Rattle.evm_model.specs.State.{Board}
use Rattle.evm_streams.specs.declared.sink.Writing.{Writing}
use Rattle.evm_diagnostics.specs.Notes.{task_places, places_below}

pub places_below-none : (name : List ℕ) (b : Board) → places_below name 0 b ≡ []
unfolding places_below
places_below-none name b = refl

pub places_below-more : (name : List ℕ) (t : ℕ) (b : Board) → places_below name (t + 1) b ≡ places_below name t b ++ task_places name (slice_get b.parts.tasks t) (slice_get b.parts.harts t)
unfolding places_below
places_below-more name t b = rw add-one refl

module _ {E : Type 0} (takes : E → Writing → List ℕ → E → Type 0) where
  pub tells_append : (a b c : E) (front back : List Place) → TellsAll takes front a b → TellsAll takes back b c → TellsAll takes (front ++ back) a c
  tells_append a b c [] back first second = let P : E → Type 0 = λ e. TellsAll takes back e c in subst P first second
  tells_append a b c (place ∷ places) back first second = (first.0, first.1, tells_append first.0 b c places back first.2 second)
