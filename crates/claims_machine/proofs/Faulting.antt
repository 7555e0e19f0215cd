-- An instruction that faults does nothing else.
use Rattle.std.proofs.Common.{◌≡◌, ℕ, true, Option, Some, None, refl}
use Rattle.std.specs.Prelude.{is_none}
use Rattle.evm_isa.specs.Decoded.{decoded}
use Rattle.evm_isa.specs.declared.inst.Inst.{Inst}
use Rattle.evm_isa.specs.declared.inst.LoadOp.{LoadOp}
use Rattle.evm_exec.specs.Does.{does}
use Rattle.evm_exec.specs.Memory.{width_of_load}
use Rattle.evm_exec.specs.declared.hart.Hart.{Hart}
use Rattle.evm_exec.specs.declared.outcome.Effect.{Effect}
use Rattle.evm_exec.specs.declared.outcome.Effect.TheVariants.{Load, Store, Misaligned}
use Rattle.evm_model.specs.Devices.{Accessed}
use Rattle.evm_model.specs.Instructions.{fault, finish_load, finish_store, finish, execute_inst, execute_word}
use Rattle.evm_model.specs.Memory.{read, write}
use Rattle.evm_model.specs.State.{Board, on_parts}
use Rattle.evm_model.specs.declared.fault.Fault.{Fault}
use Rattle.evm_model.specs.declared.fault.Fault.TheVariants.{Misaligned as Misaligned_target, Fetch as Bad_fetch, Illegal, Load as Bad_load, Store as Bad_store}
use Rattle.law_runs.specs.Noticing.{effect_faults, inst_faults, word_faults}

module _ (c t : ℕ) (b : Board) where
  abbrev pub Faults : Board → Type 0
  Faults x = (f : Fault) × (x ≡ on_parts (fault c t f) b)

  loads : (o : Option Accessed) (op : LoadOp) (rd : ℕ) → is_none o ≡ true → Faults (finish_load o op rd c t b)
  loads None op rd e = (Bad_load, refl)
  loads (Some access) op rd e = cc

  stores : (o : Option Accessed) → is_none o ≡ true → Faults (finish_store o c t b)
  stores None e = (Bad_store, refl)
  stores (Some access) e = cc

  effects : (effect : Effect) → effect_faults effect b.memory ≡ true → Faults (finish effect c t b)
  unfolding finish
  effects (Load op rd address) e = loads (read address (width_of_load op) b.memory) op rd e
  effects (Store width address value) e = stores (write address width value b.memory) e
  effects Misaligned e = (Misaligned_target, refl)
  effects _ e = cc

  insts : (o : Option Inst) (hart : Hart) → inst_faults o hart b.memory ≡ true → Faults (execute_inst o hart c t b)
  insts None hart e = (Illegal, refl)
  insts (Some inst) hart e = effects (does inst hart.regs hart.pc) e

  pub words : (o : Option ℕ) (hart : Hart) → word_faults o hart b.memory ≡ true → Faults (execute_word o hart c t b)
  words None hart e = (Bad_fetch, refl)
  words (Some word) hart e = insts (decoded word) hart e
