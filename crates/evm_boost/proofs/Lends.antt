-- One more mutex of a look at what a task's mutexes lend.
use Rattle.std.proofs.Common.{◌≡◌, ℕ, ◌+◌, Option, refl, add-one}
use Rattle.std.specs.Prelude.{if◌then◌else◌}
use Rattle.evm_model.specs.Boosts.{greater, greatest, is_number}

pub greatest-none : (boosts : ℕ → Option ℕ) (rank : ℕ → ℕ) (t first : ℕ) → greatest boosts rank t first 0 ≡ first
unfolding greatest
greatest-none boosts rank t first = refl

pub greatest-more : (boosts : ℕ → Option ℕ) (rank : ℕ → ℕ) (t first m : ℕ)
    → greatest boosts rank t first (m + 1) ≡ (if is_number (boosts m) t then greater (greatest boosts rank t first m) (rank m) else greatest boosts rank t first m)
unfolding greatest
greatest-more boosts rank t first m = rw add-one refl

pub ruleset lends = (greatest-none, greatest-more)
