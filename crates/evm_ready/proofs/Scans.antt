-- One more task of a scan.
use Rattle.std.proofs.Common.{◌≡◌, ℕ, ◌+◌, Some, None, Bool, refl, add-one}
use Rattle.std.specs.Prelude.{if◌then◌else◌}
use Rattle.evm_model.specs.Ranks.{first, leader}

pub first-none : (member : ℕ → Bool) (rank stamp : ℕ → ℕ) → first member rank stamp 0 ≡ None
unfolding first
first-none member rank stamp = refl

pub first-more : (member : ℕ → Bool) (rank stamp : ℕ → ℕ) (t : ℕ)
    → first member rank stamp (t + 1) ≡ (if member t then Some (leader rank stamp (first member rank stamp t) t) else first member rank stamp t)
unfolding first
first-more member rank stamp t = rw add-one refl

pub ruleset scans = (first-none, first-more)
