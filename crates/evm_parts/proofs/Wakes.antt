-- One more task of a scan.
use Rattle.std.proofs.Common.{◌≡◌, ℕ, ◌+◌, refl, add-one}
use Rattle.evm_model.specs.State.{Parts}
use Rattle.evm_model.specs.Waits.{wake_below, wake_waiter}

pub wake-none : (c l : ℕ) (k : Parts) → wake_below c l 0 k ≡ k
unfolding wake_below
wake-none c l k = refl

pub wake-more : (c l t : ℕ) (k : Parts) → wake_below c l (t + 1) k ≡ wake_waiter c l t (wake_below c l t k)
unfolding wake_below
wake-more c l t k = rw add-one refl

pub ruleset wakes = (wake-none, wake-more)
