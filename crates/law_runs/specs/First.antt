-- Which task goes first, said without the search for it.
use Rattle.std.specs.Prelude.{◌≡◌, ℕ, ◌<◌, Some, None, Bool, true, false}
use Rattle.evm_model.specs.Ranks.{IsFirst, first}

-- there is no member below a number
abbrev pub NoMember : (ℕ → Bool) → ℕ → Type 0
NoMember member count = (t : ℕ) → t < count → member t ≡ false

-- no two members have one stamp
abbrev pub StampsDiffer : (ℕ → Bool) → (ℕ → ℕ) → ℕ → Type 0
StampsDiffer member stamp count = (t u : ℕ) → t < count → u < count → member t ≡ true → member u ≡ true → stamp t ≡ stamp u → t ≡ u

-- `first` finds the member of greatest rank, then of least stamp
pub record FindsFirst (member : ℕ → Bool) (rank stamp : ℕ → ℕ) (count : ℕ) : Type 0 where
  pub found : (t : ℕ) → first member rank stamp count ≡ Some t → IsFirst member rank stamp count t
  pub none_found : first member rank stamp count ≡ None → NoMember member count
  -- .. and there is no other such
  pub finds : StampsDiffer member stamp count → (t : ℕ) → IsFirst member rank stamp count t → first member rank stamp count ≡ Some t
  pub finds_none : NoMember member count → first member rank stamp count ≡ None

abbrev pub AlwaysFindsFirst : Type 0
AlwaysFindsFirst = (member : ℕ → Bool) (rank stamp : ℕ → ℕ) (count : ℕ) → FindsFirst member rank stamp count
