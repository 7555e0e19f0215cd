-- What the current task is about to do.
use Rattle.std.specs.Prelude.{◌≡◌, ℕ, List, Option, Some, slice_get}
use Rattle.evm_exec.specs.Does.{does}
use Rattle.evm_exec.specs.declared.hart.Hart.{Hart}
use Rattle.evm_exec.specs.declared.outcome.Effect.{Effect}
use Rattle.evm_isa.specs.Decoded.{decoded}
use Rattle.evm_isa.specs.declared.inst.Inst.{Inst}
use Rattle.evm_model.specs.Memory.{fetch}
use Rattle.evm_model.specs.State.{Memory}

-- the current task has this hart, and the instruction at its pc does this
pub record IsAbout (runs : Option ℕ) (task : ℕ) (hart : Hart) (effect : Effect) (harts : List Hart) (memory : Memory) : Type 0 where
  pub word : ℕ
  pub inst : Inst
  pub current : runs ≡ Some task
  pub has : slice_get harts task ≡ Some hart
  pub fetched : fetch hart.pc memory ≡ Some word
  pub decodes : decoded word ≡ Some inst
  pub effect_is : does inst hart.regs hart.pc ≡ effect
