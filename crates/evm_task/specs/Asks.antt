-- What a task asks at an ECALL.
use Rattle.std.specs.Prelude.{◌≡◌, Option, Some, None}
use Rattle.evm_exec.specs.Registers.{register_of}
use Rattle.evm_exec.specs.declared.hart.Hart.{Hart}
use Rattle.evm_model.specs.Harts.{A7, argument}
use Rattle.evm_task.specs.declared.harts.Asked.{Asked}

-- a call's number and arguments, as they stand in a hart
pub record AskedBy (a : Asked) (hart : Hart) : Type 0 where
  pub number : a.number ≡ register_of hart.regs A7
  pub first : a.first ≡ argument 0 hart
  pub second : a.second ≡ argument 1 hart
  pub third : a.third ≡ argument 2 hart

-- .. where there is one
abbrev pub Asks : Option Asked → Option Hart → Type 0
Asks None None = Unit {0}
Asks (Some a) (Some hart) = AskedBy a hart
Asks _ _ = ⊥
