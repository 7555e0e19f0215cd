-- That memory was refused.
use Rattle.std.specs.Prelude.{ℕ, ◌≤◌}

-- A growth by n elements was refused: opaque, so that a proof has it of a call alone.
pub WasRefused : ℕ → Type 0
WasRefused asked = Unit {0}

-- What is trusted of a call that std refused: the functions of `growth.rt` that call std alone cite this.
pub trusted_refusal : (asked : ℕ) → WasRefused asked
unfolding WasRefused
trusted_refusal asked = tt

-- A growth was refused, by no more elements than these.
pub record RefusedWithin (most : ℕ) : Type 0 where
  pub asked : ℕ
  pub within : asked ≤ most
  pub refused : WasRefused asked
