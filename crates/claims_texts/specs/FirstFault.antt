-- Which fault of a source is reported.
use Rattle.std.specs.Prelude.{◌≡◌, ◌↔◌, ℕ, List, IsOk, None, Err}
use Rattle.evm_asm.specs.evm_asm_lexer.declared.source_fault.SourceFault.{SourceFault}
use Rattle.evm_asm.specs.Assembled.{program_of}
use Rattle.claims_texts.specs.Least.{fault_at, IsFirstFault}

-- A source has no program if and only if a line has a fault, and is refused with the least fault of the first such line.
abbrev pub RefusedWithTheFirst : Type 0
RefusedWithTheFirst = (source : List ℕ)
    → ((fault : SourceFault) → program_of source ≡ Err fault ↔ IsFirstFault source fault)
    × (IsOk (program_of source) ↔ ((n : ℕ) → fault_at source n ≡ None))
