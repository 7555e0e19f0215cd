-- No instruction that is read from a source lacks a word: what a source means can be spelled.
use Rattle.std.specs.Prelude.{◌≡◌, ◌↔◌, ℕ, List, Some, Ok, Err, All, IsOk}
use Rattle.evm_isa.specs.declared.inst.Inst.{Inst}
use Rattle.evm_isa.specs.Encoded.{encoded}
use Rattle.evm_asm.specs.evm_asm_lexer.declared.source_fault.SourceFault.{SourceFault}
use Rattle.evm_asm.specs.declared.item.SourceItem.{SourceItem}
use Rattle.evm_asm.specs.declared.item.SourceItem.TheVariants as item
use Rattle.evm_asm.specs.declared.item.Placed.{Placed}
use Rattle.evm_asm.specs.Items.{meaning_of}
use Rattle.evm_asm.specs.Programs.{Spelled, nothing_spelled, spelled}
use Rattle.evm_asm.specs.Assembled.{program_of}

-- The table of instructions has a word for the instruction.
abbrev pub HasWord : Inst → Type 0
HasWord i = (w : ℕ) × (encoded i ≡ Some w)

-- An item that is an instruction has a word; the others need none.
abbrev pub HasItsWord : SourceItem → Type 0
HasItsWord (item.Instruction line i) = HasWord i
HasItsWord other = Unit {0}

-- Each item of what a source means has its word.
abbrev pub EveryItemHasItsWord : Type 0
EveryItemHasItsWord = (source : List ℕ) (items : List Placed) → meaning_of source ≡ Ok items → All (λ p. HasItsWord p.item) items

-- What a source means is spelled without a fault.
abbrev pub SpellingNeverFails : Type 0
SpellingNeverFails = (source : List ℕ) (items : List Placed) → meaning_of source ≡ Ok items → (s : Spelled) × (spelled items nothing_spelled ≡ Ok s)

-- A source has a program if and only if it means something, and a fault if and only if that is the fault of its meaning.
abbrev pub RefusedAsMeant : Type 0
RefusedAsMeant = (source : List ℕ)
    → ((fault : SourceFault) → (program_of source ≡ Err fault) ↔ (meaning_of source ≡ Err fault))
    × (IsOk (program_of source) ↔ IsOk (meaning_of source))
