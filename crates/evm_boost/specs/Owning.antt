-- The mutexes that each task owns, kept as a set for each number of a task.
use Rattle.std.specs.Prelude.{◌≡◌, ℕ, ◌≤◌, ◌==◌, List, [], ◌∷◌, Option, Some, filter, length, slice_get, if◌then◌else◌}
use Rattle.evm_lines.specs.Lines.{all_lines}
use Rattle.evm_lines.specs.declared.TheConstants.{LINES}
use Rattle.evm_model.specs.Mutexes.{owner}
use Rattle.evm_model.specs.declared.mutex.Mutex.{Mutex}
use Rattle.evm_model.specs.Boosts.{greater, is_number}

-- the mutexes that task t owns, in rising order; there are as many as lines
abbrev pub owned_by : (ℕ → Option ℕ) → ℕ → List ℕ
owned_by owner t = filter (λ m. is_number (owner m) t) all_lines

-- each set is that of its task
abbrev pub AreOwned : List (List ℕ) → (ℕ → Option ℕ) → Type 0
AreOwned sets owner = (t : ℕ) (set : List ℕ) → slice_get sets t ≡ Some set → set ≡ owned_by owner t

-- the sets are those of these mutexes, of which there are no more than lines
pub record AreOwners (sets : List (List ℕ)) (mutexes : List Mutex) : Type 0 where
  pub few : length mutexes ≤ LINES
  pub owned : AreOwned sets (owner mutexes)

-- the owners, where mutex m has this one
abbrev pub given : (ℕ → Option ℕ) → ℕ → Option ℕ → ℕ → Option ℕ
given owner m task l = if l == m then task else owner l

-- the greatest of a first rank and those that the mutexes of a list lend
unfoldable pub greatest_of : (ℕ → ℕ) → ℕ → List ℕ → ℕ
greatest_of lends first [] = first
greatest_of lends first (m ∷ rest) = greatest_of lends (greater first (lends m)) rest
