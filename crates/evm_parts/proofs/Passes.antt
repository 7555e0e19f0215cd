-- One more mutex of a task that ends.
use Rattle.std.proofs.Common.{◌≡◌, ℕ, ◌+◌, refl, add-one}
use Rattle.evm_model.specs.Passing.{hand_over_below, hand_over_if}
use Rattle.evm_model.specs.State.{Parts}

pub pass-none : (t : ℕ) (k : Parts) → hand_over_below t 0 k ≡ k
unfolding hand_over_below
pass-none t k = refl

pub pass-more : (t m : ℕ) (k : Parts) → hand_over_below t (m + 1) k ≡ hand_over_if t m (hand_over_below t m k)
unfolding hand_over_below
pass-more t m k = rw add-one refl

pub ruleset passes = (pass-none, pass-more)
