-- Changes of one place of a list, and of one pipe or processor.
use Rattle.std.proofs.Common.{◌≡◌, Option, None, ℕ, zero, suc, List, [], ◌∷◌, Some, refl, ap, ◌∙◌, inl, inr}
use Rattle.std.specs.Prelude.{slice_get, slice_set, option_map}
use Rattle.evm_model.proofs.Lists.{slice_set-same, slice_get-set_same, change-same, change-here, change-cases}
use Rattle.evm_model.specs.Lists.{change, change_some}
use Rattle.evm_model.specs.Pipes.{Pipe}
use Rattle.evm_model.specs.State.{Parts, on_pipe, on_processor}
use Rattle.evm_model.specs.declared.processor.Processor.{Processor}

-- what is set twice is what was set last
pub slice_set-twice : {X : Type 0} (xs : List X) (i : ℕ) (y z : X) → slice_set (slice_set xs i y) i z ≡ slice_set xs i z
slice_set-twice [] i y z = refl
slice_set-twice (x ∷ xs) zero y z = refl
slice_set-twice (x ∷ xs) (suc i) y z = ap (λ ys. x ∷ ys) (slice_set-twice xs i y z)

pub change-at : {X : Type 0} (f : X → X) (xs : List X) (i : ℕ) (x : X) → slice_get xs i ≡ Some x → change f xs i ≡ slice_set xs i (f x)
change-at f xs i x e = rw e refl

pub change-set : {X : Type 0} (f : X → X) (xs : List X) (i : ℕ) (x y : X) → slice_get xs i ≡ Some x → change f (slice_set xs i y) i ≡ slice_set xs i (f y)
change-set f xs i x y e = change-at f (slice_set xs i y) i y (slice_get-set_same xs i x y e) ∙ slice_set-twice xs i y (f y)

-- two changes, of which the second takes the first back
pub change-back : {X : Type 0} (f g : X → X) (xs : List X) (i : ℕ) (x : X) → slice_get xs i ≡ Some x → g (f x) ≡ x → change g (change f xs i) i ≡ xs
change-back f g xs i x e h = ap (λ ys. change g ys i) (change-at f xs i x e) ∙ change-set g xs i x (f x) e ∙ ap (slice_set xs i) h ∙ slice_set-same xs i x e

pub on_pipe-same : (c : ℕ) (f : Pipe → Pipe) (k : Parts) → ((p : Pipe) → slice_get k.pipes c ≡ Some p → f p ≡ p) → on_pipe c f k ≡ k
on_pipe-same c f k h = ap (λ ps. record k { pipes = ps }) (change-same f k.pipes c h)

pub on_processor-same : (c : ℕ) (f : Processor → Processor) (k : Parts) → ((p : Processor) → slice_get k.processors c ≡ Some p → f p ≡ p) → on_processor c f k ≡ k
on_processor-same c f k h = ap (λ ps. record k { processors = ps }) (change-same f k.processors c h)

change_some-twice : {X : Type 0} (f g : X → X) (xs : List X) (i : ℕ) (o : Option X) → slice_get xs i ≡ o → change g (change_some o f xs i) i ≡ change_some o (λ x. g (f x)) xs i
change_some-twice f g xs i None e = rw e refl
change_some-twice f g xs i (Some x) e = change-set g xs i x (f x) e

-- two changes of one place are one
pub change_twice : {X : Type 0} (f g : X → X) (xs : List X) (i : ℕ) → change g (change f xs i) i ≡ change (λ x. g (f x)) xs i
change_twice f g xs i = change_some-twice f g xs i (slice_get xs i) refl

-- the place that was changed
pub changed-is : {X : Type 0} (f : X → X) (xs : List X) (i : ℕ) (x q : X) → slice_get xs i ≡ Some x → slice_get (change f xs i) i ≡ Some q → f x ≡ q
changed-is f xs i x q e h = let there : slice_get (change f xs i) i ≡ Some (f x) = change-here f xs i ∙ ap (option_map f) e in cc

pub changed-from : {X : Type 0} (f : X → X) (xs : List X) (i : ℕ) (q : X) → slice_get (change f xs i) i ≡ Some q → (x : X) × (slice_get xs i ≡ Some x) × (q ≡ f x)
changed-from f xs i q h = elim (change-cases f xs i i q h) [
  | inl w ↦ (w.1, w.2, w.3)
  | inr w ↦ absurd (w.0 refl)
]
