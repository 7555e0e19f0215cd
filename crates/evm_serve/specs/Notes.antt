-- What is noted as lines are done.
use Rattle.std.specs.Prelude.{ℕ, List, Option}
use Rattle.evm_serve.specs.declared.notes.LastCall.{LastCall}

pub record Noted : Type 0 where
  -- how many Steps of the last line did nothing
  pub swallowed : ℕ
  -- the last call of each task
  pub calls : List (Option LastCall)
