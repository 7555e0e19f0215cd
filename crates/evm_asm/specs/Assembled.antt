-- The program of a source.
use Rattle.std.specs.Prelude.{◌≡◌, ℕ, ◌+◌, ◌-◌, ◌<◌, ◌≤◌, ◌^◌, List, length, take, drop, map, Result, Ok}
use Rattle.std.specs.Int.{w32, to_le_bytes}
use Rattle.evm_isa.specs.Table.{Row}
use Rattle.evm_asm_parser.specs.evm_asm_lexer.declared.source_fault.SourceFault.{SourceFault}
use Rattle.evm_asm.specs.declared.output.ProgramLine.{ProgramLine}
use Rattle.evm_asm_parser.specs.declared.spot.Spot.{Spot}
use Rattle.evm_asm.specs.Items.{text_base, address, and_then, layout_of, meaning_of}
use Rattle.evm_asm.specs.Programs.{Spelled, nothing_spelled, spelled, program_bytes}

-- What a user sees of a program: its instructions, its bytes, and its labels with their addresses.
pub record Assembled : Type 0 where
  pub lines : List ProgramLine
  pub bytes : List ℕ
  pub labels : List (List ℕ × ℕ)

abbrev pub addressed : ℕ → List (List ℕ × Spot) → List (List ℕ × ℕ)
addressed text_size labels = map (λ l. (l.0, address text_size l.1)) labels

abbrev pub assembled : ℕ → List (List ℕ × Spot) → Spelled → Assembled
assembled text_size labels s = record { lines = s.lines; bytes = program_bytes s.text_bytes s.data_bytes; labels = addressed text_size labels }

-- The program of a source, or its fault: the least line that has one, and the least of its faults.
unfoldable pub program_of : List ℕ → Result Assembled SourceFault
program_of source =
    and_then (meaning_of source) (λ items. and_then (spelled items nothing_spelled)
    (λ s. Ok (assembled (layout_of source).place.text_size (layout_of source).labels s)))

-- The word of a line stands for its instruction.
pub record IsWorded (l : ProgramLine) : Type 0 where
  pub table : Row l.instruction l.word
  pub fits : l.word < 2 ^ 32

-- The four bytes of a line's word stand at its address, the lowest first.
pub record StandsIn (bytes : List ℕ) (l : ProgramLine) : Type 0 where
  pub above : text_base ≤ l.address
  pub within : l.address - text_base + 4 ≤ length bytes
  pub bytes_are : take 4 (drop (l.address - text_base) bytes) ≡ to_le_bytes w32 l.word
