-- A program: the words of what a source means, by the table of instructions, and its bytes.
use Rattle.std.specs.Prelude.{ℕ, zero, suc, ◌+◌, ◌-◌, ◌%◌, List, [], ◌∷◌, ◌++◌, length, take, Option, Some, None, Result, Ok, Err}
use Rattle.std.specs.Int.{w32, w64, to_le_bytes}
use Rattle.evm_isa.specs.declared.inst.Inst.{Inst}
use Rattle.evm_isa.specs.Encoded.{encoded}
use Rattle.evm_asm_parser.specs.evm_asm_lexer.declared.source_fault.SourceFault.{SourceFault}
use Rattle.evm_asm_parser.specs.evm_asm_lexer.declared.source_fault.SourceFaultKind.TheVariants.{RangeOfImmediate}
use Rattle.evm_asm.specs.declared.failure.AssemblyFailure.{AssemblyFailure}
use Rattle.evm_asm.specs.declared.failure.AssemblyFailure.TheVariants as failure
use Rattle.evm_asm.specs.declared.item.SourceItem.{SourceItem}
use Rattle.evm_asm.specs.declared.item.SourceItem.TheVariants as item
use Rattle.evm_asm.specs.declared.item.Placed.{Placed}
use Rattle.evm_asm_parser.specs.evm_asm_lexer.declared.mnemonic.Section.{Section as Part}
use Rattle.evm_asm_parser.specs.evm_asm_lexer.declared.mnemonic.Section.TheVariants as section
use Rattle.evm_asm.specs.declared.output.ProgramLine.{ProgramLine}
use Rattle.evm_asm.specs.Places.{bytes_in}
use Rattle.evm_asm.specs.Items.{text_base, and_then}

-- The lines of the instructions, and the bytes of the two sections.
pub record Spelled : Type 0 where
  pub lines : List ProgramLine
  pub text_bytes : List ℕ
  pub data_bytes : List ℕ

abbrev pub nothing_spelled : Spelled
nothing_spelled = record { lines = []; text_bytes = []; data_bytes = [] }

abbrev pub with_bytes : Part → List ℕ → Spelled → Spelled
with_bytes section.Text bytes s = record { lines = s.lines; text_bytes = s.text_bytes ++ bytes; data_bytes = s.data_bytes }
with_bytes section.Data bytes s = record { lines = s.lines; text_bytes = s.text_bytes; data_bytes = s.data_bytes ++ bytes }

-- bytes, and behind them n times the others
unfoldable pub repeated : ℕ → List ℕ → List ℕ → List ℕ
repeated zero unit bytes = bytes
repeated (suc n) unit bytes = repeated n unit (bytes ++ unit)

abbrev pub with_repeated : Part → ℕ → List ℕ → Spelled → Spelled
with_repeated section.Text n unit s = record { lines = s.lines; text_bytes = repeated n unit s.text_bytes; data_bytes = s.data_bytes }
with_repeated section.Data n unit s = record { lines = s.lines; text_bytes = s.text_bytes; data_bytes = repeated n unit s.data_bytes }

-- the low bytes of a number, the lowest first
abbrev pub number_bytes : ℕ → ℕ → List ℕ
number_bytes count value = take count (to_le_bytes w64 value)

-- addi x0,x0,0
abbrev pub nop_bytes : List ℕ
nop_bytes = 19 ∷ 0 ∷ 0 ∷ 0 ∷ []

-- an instruction's line, at the address behind the text so far, and its word
abbrev pub with_word : ℕ → Inst → ℕ → Spelled → Spelled
with_word line i word s = record {
  lines = s.lines ++ record { address = text_base + length s.text_bytes; line = line; word = word; instruction = i } ∷ [];
  text_bytes = s.text_bytes ++ to_le_bytes w32 word;
  data_bytes = s.data_bytes;
}

abbrev pub worded : ℕ → Inst → Option ℕ → Spelled → Result Spelled SourceFault
worded line i (Some word) s = Ok (with_word line i word s)
worded line i None s = Err (record { line = line; kind = RangeOfImmediate })

unfoldable pub spelled_item : Part → SourceItem → Spelled → Result Spelled SourceFault
spelled_item part (item.Instruction line i) s = worded line i (encoded i) s
spelled_item part (item.Number width value) s = Ok (with_bytes part (number_bytes (bytes_in width) value) s)
spelled_item part (item.Zeros n) s = Ok (with_repeated part n (0 ∷ []) s)
spelled_item part (item.Nops n) s = Ok (with_repeated part n nop_bytes s)

unfoldable pub spelled : List Placed → Spelled → Result Spelled SourceFault
spelled [] s = Ok s
spelled (p ∷ ps) s = and_then (spelled_item p.section p.item s) (spelled ps)

-- The text, and where there is data zeros up to a multiple of 4,096, and the data.
abbrev pub program_bytes : List ℕ → List ℕ → List ℕ
program_bytes text [] = text
program_bytes text (b ∷ bs) = repeated ((4096 - length text % 4096) % 4096) (0 ∷ []) text ++ b ∷ bs

-- For contracts of bodies: what was pushed of no line of its own.
abbrev pub noted : Result (Unit {0}) ℕ → Result (Unit {0}) AssemblyFailure
noted (Ok x) = Ok x
noted (Err asked) = Err (failure.Memory (record { line = 1; refused = asked }))
