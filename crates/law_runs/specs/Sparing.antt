-- Instructions that store outside the text, from which private rows are taken.
use Rattle.std.specs.Prelude.{◌≡◌, ℕ, ◌+◌, ◌||◌, Option, Some, None, Bool, true, nat_le, slice_get}
use Rattle.evm_isa.specs.Decoded.{decoded}
use Rattle.evm_isa.specs.declared.inst.Inst.{Inst}
use Rattle.evm_exec.specs.Does.{does}
use Rattle.evm_exec.specs.declared.hart.Hart.{Hart}
use Rattle.evm_exec.specs.declared.outcome.Effect.{Effect}
use Rattle.evm_exec.specs.declared.outcome.Effect.TheVariants.{Store}
use Rattle.evm_ram.specs.Width.{bytes_of}
use Rattle.evm_model.specs.Memory.{fetch}
use Rattle.evm_model.specs.Rows.{row}
use Rattle.evm_model.specs.State.{Board, Memory}
use Rattle.evm_model.specs.declared.event.Event.TheVariants.{Step}
use Rattle.law_runs.specs.Ahead.{SameText, TasksAhead, actor}

-- an effect that stores to no byte of a word of the text
abbrev pub effect_spares : ℕ → ℕ → Effect → Bool
effect_spares low high (Store width address value) = nat_le (address + bytes_of width) low || nat_le (high + 3) address
effect_spares low high _ = true

abbrev pub inst_spares : ℕ → ℕ → Option Inst → Hart → Bool
inst_spares low high None hart = true
inst_spares low high (Some inst) hart = effect_spares low high (does inst hart.regs hart.pc)

abbrev pub word_spares : ℕ → ℕ → Option ℕ → Hart → Bool
word_spares low high None hart = true
word_spares low high (Some word) hart = inst_spares low high (decoded word) hart

-- whether the instruction at a hart's pc stores to no byte of the text
abbrev pub spares_text : ℕ → ℕ → Memory → Option Hart → Bool
spares_text low high memory None = true
spares_text low high memory (Some hart) = word_spares low high (fetch hart.pc memory) hart

-- a Step of such an instruction, or of none, leaves the text
abbrev pub StepsSpareText : Type 0
StepsSpareText = (low high c : ℕ) (b : Board) → ((t : ℕ) → actor c b ≡ Some t → spares_text low high b.memory (slice_get b.parts.harts t) ≡ true)
    → SameText low high b.memory (row (Step c) b).0.memory

-- so a Step of such an instruction of a task that isn't ahead, of a line or of none leaves each task as many rows ahead
abbrev pub SparingStepsKeepAhead : Type 0
SparingStepsKeepAhead = (low high : ℕ) (rows : ℕ → ℕ) (c : ℕ) (a b : Board) → TasksAhead low high rows a b
    → ((t : ℕ) → actor c b ≡ Some t → (rows t ≡ 0) × (spares_text low high b.memory (slice_get b.parts.harts t) ≡ true))
    → TasksAhead low high rows (row (Step c) a).0 (row (Step c) b).0 × ((row (Step c) a).1 ≡ (row (Step c) b).1)
