-- The effect of the instruction that a hart does next.
use Rattle.std.specs.Prelude.{ℕ, Option, Some, None, Bool, true, false}
use Rattle.evm_isa.specs.Decoded.{decoded}
use Rattle.evm_isa.specs.declared.inst.Inst.{Inst}
use Rattle.evm_exec.specs.Does.{does}
use Rattle.evm_exec.specs.declared.hart.Hart.{Hart}
use Rattle.evm_exec.specs.declared.outcome.Effect.{Effect}
use Rattle.evm_exec.specs.declared.outcome.Effect.TheVariants.{Next}
use Rattle.evm_model.specs.Memory.{fetch}
use Rattle.evm_model.specs.State.{Memory}
use Rattle.law_runs.specs.Sparing.{effect_spares}

abbrev pub effect_of_inst : Option Inst → Hart → Option Effect
effect_of_inst None hart = None
effect_of_inst (Some inst) hart = Some (does inst hart.regs hart.pc)

abbrev pub effect_of_word : Option ℕ → Hart → Option Effect
effect_of_word None hart = None
effect_of_word (Some word) hart = effect_of_inst (decoded word) hart

-- the effect of the word at a hart's pc
abbrev pub effect_at : Memory → Hart → Option Effect
effect_at memory hart = effect_of_word (fetch hart.pc memory) hart

abbrev pub effect_in : Memory → Option Hart → Option Effect
effect_in memory None = None
effect_in memory (Some hart) = effect_at memory hart

-- an effect, if there is one, stores to no byte of the text
abbrev pub spares_effect : ℕ → ℕ → Option Effect → Bool
spares_effect low high None = true
spares_effect low high (Some effect) = effect_spares low high effect

-- an effect is of the registers and the pc alone
abbrev pub is_private : Option Effect → Bool
is_private (Some (Next rd value pc)) = true
is_private _ = false
