-- One place of a list changes; one task makes a call.
use Rattle.std.specs.Prelude.{◌≡◌, ℕ, List, Some, slice_get, option_map}
use Rattle.evm_isa.specs.Decoded.{decoded}
use Rattle.evm_isa.specs.declared.inst.Inst.{Inst}
use Rattle.evm_exec.specs.Does.{does}
use Rattle.evm_exec.specs.Registers.{register_of}
use Rattle.evm_exec.specs.declared.hart.Hart.{Hart}
use Rattle.evm_exec.specs.declared.outcome.Effect.TheVariants.{Call as Ecall}
use Rattle.evm_model.specs.Harts.{A7}
use Rattle.evm_model.specs.Memory.{fetch}
use Rattle.evm_model.specs.Settle.{current}
use Rattle.evm_model.specs.State.{Board}

-- the i-th of a list is changed so, and no other
pub record OneChanges {X : Type 0} (i : ℕ) (change : X → X) (old new : List X) : Type 0 where
  pub here : slice_get new i ≡ option_map change (slice_get old i)
  pub others : (j : ℕ) → (j ≡ i → ⊥) → slice_get new j ≡ slice_get old j

-- the current task of c makes the call of this number, and has this hart
pub record MakesCall (c number : ℕ) (hart : Hart) (b : Board) : Type 0 where
  pub task : ℕ
  pub word : ℕ
  pub inst : Inst
  pub runs : current c b.parts ≡ Some task
  pub has : slice_get b.parts.harts task ≡ Some hart
  pub fetched : fetch hart.pc b.memory ≡ Some word
  pub decodes : decoded word ≡ Some inst
  pub calls : does inst hart.regs hart.pc ≡ Ecall
  pub asks : register_of hart.regs A7 ≡ number
