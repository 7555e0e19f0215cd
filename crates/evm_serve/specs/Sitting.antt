-- A machine, and the lines of a script that made it.
use Rattle.std.specs.Prelude.{ℕ, List}
use Rattle.evm_model.specs.State.{State}

pub record Sitting : Type 0 where
  pub machine : State
  -- without their newlines, the boot line first
  pub lines : List (List ℕ)
