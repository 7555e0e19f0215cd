-- One more of those that fill a list of ranks, or raise one of its ranks.
use Rattle.std.proofs.Common.{◌≡◌, ℕ, zero, suc, ◌+◌, List, [], ◌∷◌, Option, Some, None, refl, ap, sym, ◌∙◌, add-one}
use Rattle.std.specs.Prelude.{slice_get, slice_set}
use Rattle.evm_model.specs.Lists.{change, change_some}
use Rattle.evm_boost.specs.Scatter.{filled, scatter, raise_to}

pub filled-none : (rank : ℕ → ℕ) (ranks : List ℕ) → filled rank ranks 0 ≡ ranks
unfolding filled
filled-none rank ranks = refl

pub filled-more : (rank : ℕ → ℕ) (ranks : List ℕ) (t : ℕ) → filled rank ranks (t + 1) ≡ slice_set (filled rank ranks t) t (rank t)
unfolding filled
filled-more rank ranks t = rw add-one refl

change-set : (ranks : List ℕ) (t r : ℕ) → change (λ _. r) ranks t ≡ slice_set ranks t r
change-set [] t r = refl
change-set (x ∷ ranks) zero r = refl
change-set (x ∷ ranks) (suc t) r = set-some (slice_get ranks t) x ranks t r ∙ ap (λ (xs : List ℕ). x ∷ xs) (change-set ranks t r)
  where
    set-some : (o : Option ℕ) (x : ℕ) (ranks : List ℕ) (t r : ℕ) → change_some o (λ _. r) (x ∷ ranks) (suc t) ≡ x ∷ change_some o (λ _. r) ranks t
    set-some None x ranks t r = refl
    set-some (Some y) x ranks t r = refl

-- one more of the ranks that are set
pub filled-next : (rank : ℕ → ℕ) (ranks now next : List ℕ) (t r : ℕ) → now ≡ filled rank ranks t → r ≡ rank t → next ≡ change (λ _. r) now t → next ≡ filled rank ranks (t + 1)
filled-next rank ranks now next t r so_far right set =
    set ∙ change-set now t r ∙ rw (so_far, right) refl ∙ sym (filled-more rank ranks t)

pub ruleset fills = (filled-none, filled-more)

pub scatter-none : (boosts : ℕ → Option ℕ) (rank : ℕ → ℕ) (ranks : List ℕ) → scatter boosts rank ranks 0 ≡ ranks
unfolding scatter
scatter-none boosts rank ranks = refl

pub scatter-more : (boosts : ℕ → Option ℕ) (rank : ℕ → ℕ) (ranks : List ℕ) (u : ℕ)
    → scatter boosts rank ranks (u + 1) ≡ raise_to (boosts u) (rank u) (scatter boosts rank ranks u)
unfolding scatter
scatter-more boosts rank ranks u = rw add-one refl

pub ruleset scatters = (scatter-none, scatter-more)
