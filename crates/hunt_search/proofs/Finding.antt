-- Failures that are added to those that were found.
use Rattle.std.proofs.Common.{◌≡◌, ℕ, List, [], ◌∷◌, ◌++◌, Option, Some, None, subst, sym, ◌∙◌}
use Rattle.std.specs.Prelude.{All}
use Rattle.std.proofs.lemmas.List.Elements.{All-append, All-cons, All-nil}
use Rattle.evm_ram.specs.Images.{Contents}
use Rattle.evm_model.specs.State.{State}
use Rattle.evm_model.specs.declared.boot.Boot.{Boot}
use Rattle.hunt_schedules.specs.Runs.{IsFound}
use Rattle.hunt_failures.specs.declared.failure.Failure.{Failure}
use Rattle.hunt_search.specs.Hunts.{AreFound, IsMet}
use Rattle.hunt_search.specs.declared.hunting.Row.{Row}

pub found-none : (image : Contents) (boot : Boot) (lines : List ℕ) (rows : List Row) → rows ≡ [] → AreFound image boot lines rows
found-none image boot lines rows e = subst (λ (xs : List Row). AreFound image boot lines xs) (sym e) (All-nil (λ (row : Row). IsMet image boot lines row.failure))

pub found-same : (image : Contents) (boot : Boot) (lines : List ℕ) (rows more : List Row) → more ≡ rows → AreFound image boot lines rows → AreFound image boot lines more
found-same image boot lines rows more e h = subst (λ (xs : List Row). AreFound image boot lines xs) (sym e) h

-- one more
pub found-more : (image : Contents) (boot : Boot) (lines : List ℕ) (rows more : List Row) (row : Row) → more ≡ rows ++ row ∷ [] → IsMet image boot lines row.failure
    → AreFound image boot lines rows → AreFound image boot lines more
found-more image boot lines rows more row e met h =
    let P : Row → Type 0 = λ (r : Row). IsMet image boot lines r.failure in
    subst (λ (xs : List Row). All P xs) (sym e) (All-append P rows (row ∷ []) h (All-cons P row [] met (All-nil P)))

-- a cycle of locks
pub met-none : (image : Contents) (boot : Boot) (lines : List ℕ) (failed : Option Failure) → failed ≡ None → IsMet image boot lines failed
met-none image boot lines failed e = subst (λ (f : Option Failure). IsMet image boot lines f) (sym e) tt

pub met-some : (image : Contents) (boot : Boot) (lines : List ℕ) (failed : Option Failure) (failure : Failure) (s : State) → failed ≡ Some failure → IsFound image boot lines failure s → IsMet image boot lines failed
met-some image boot lines failed failure s e h = subst (λ (f : Option Failure). IsMet image boot lines f) (sym e) (s, h)

-- a list with one more isn't empty
pub not-empty : (rows more : List Row) (row : Row) → more ≡ rows ++ row ∷ [] → more ≡ [] → ⊥
not-empty [] more row e empty = let both : row ∷ [] ≡ [] = sym e ∙ empty in cc
not-empty (x ∷ rows) more row e empty = let both : x ∷ (rows ++ row ∷ []) ≡ [] = sym e ∙ empty in cc
