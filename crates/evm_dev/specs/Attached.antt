-- A device as a machine sees it.
use Rattle.std.specs.Prelude.{ℕ, List}
use Rattle.evm_dev.specs.Rows.{AreWords}
use Rattle.evm_dev.specs.declared.kind.Kind.{Kind}

pub record Attached : Type 0 where
  pub kind : Kind
  pub words : List ℕ

-- its words are such as its kind may have
abbrev pub IsDevice : Attached → Type 0
IsDevice device = AreWords device.kind device.words
