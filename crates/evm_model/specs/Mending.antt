-- Ranks that are mended task by task: at which tasks a round may still change something.
use Rattle.std.specs.Prelude.{◌≡◌, ℕ, ◌<◌, Option, Bool, true, false, if◌then◌else◌}
use Rattle.evm_model.specs.Boosts.{greatest, is_number}

-- no task is left
abbrev pub no_task : ℕ → Bool
no_task t = false

-- a task, if there is one, beside the rest
abbrev pub with_task : Option ℕ → (ℕ → Bool) → ℕ → Bool
with_task task rest t = if is_number task t then true else rest t

-- ranks at which another round changes nothing, but at the tasks of the rest
pub record IsSettledBut (rest : ℕ → Bool) (boosts : ℕ → Option ℕ) (own : ℕ → ℕ) (count : ℕ) (rank : ℕ → ℕ) : Type 0 where
  pub settled : (t : ℕ) → t < count → rest t ≡ false → rank t ≡ greatest boosts rank t (own t) count
