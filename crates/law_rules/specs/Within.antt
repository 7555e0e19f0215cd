-- Pipes whose counts are within a bound.
use Rattle.std.specs.Prelude.{◌≡◌, ℕ, List, Some, slice_get}
use Rattle.evm_model.specs.Bounds.{PipesUpTo}
use Rattle.evm_model.specs.Good.{IsPipe}
use Rattle.evm_model.specs.Pipes.{Pipe}
use Rattle.evm_model.specs.State.{Parts}

abbrev pub EachIsPipe : List Pipe → Type 0
EachIsPipe pipes = (c : ℕ) (p : Pipe) → slice_get pipes c ≡ Some p → IsPipe p

pub record AreWithin (b : ℕ) (k : Parts) : Type 0 where
  pub are : EachIsPipe k.pipes
  pub up : PipesUpTo b k.pipes
