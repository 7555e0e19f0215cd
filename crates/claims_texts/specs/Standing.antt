-- Where the lines of a program, its labels and its data stand.
use Rattle.std.specs.Prelude.{◌≡◌, ℕ, zero, suc, ◌+◌, ◌-◌, ◌*◌, ◌/◌, ◌%◌, ◌<◌, ◌≤◌, ◌&&◌, ◌==◌, nat_le, if◌then◌else◌, List, [], ◌∷◌, ◌++◌, length, take, drop, replicate, map, slice_get, All, AllPairs, Some, None, Ok}
use Rattle.evm_asm.specs.declared.item.Placed.{Placed}
use Rattle.evm_asm.specs.declared.output.ProgramLine.{ProgramLine}
use Rattle.evm_asm.specs.evm_asm_lexer.declared.mnemonic.DataWidth.{DataWidth}
use Rattle.evm_asm.specs.declared.place.SectionPlace.{SectionPlace}
use Rattle.evm_asm.specs.evm_asm_parser.declared.statement.Statement.TheVariants.{Numbers, Space, Align}
use Rattle.evm_asm.specs.evm_asm_lexer.Names.{named}
use Rattle.evm_asm.specs.evm_asm_parser.Operands.{first_operand, other_operands}
use Rattle.evm_asm.specs.Places.{offset, here, padding, is_text, bytes_in}
use Rattle.evm_asm.specs.Sources.{source_lines, code_of, label_at, behind_labels, statement_text}
use Rattle.evm_asm.specs.Items.{text_base, data_base, address, value_in, operands, layout_of, meaning_of}
use Rattle.evm_asm.specs.Programs.{Spelled, nothing_spelled, spelled, repeated, nop_bytes, number_bytes}
use Rattle.evm_asm.specs.Assembled.{Assembled, program_of}
use Rattle.evm_asm.specs.Sizes.{size_of_text, size_of_data, place_before, Says, Means}

-- Each section has as many bytes as laying out the source counts.
abbrev pub SizesAreBytes : Type 0
SizesAreBytes = (source : List ℕ) (items : List Placed) (s : Spelled) → meaning_of source ≡ Ok items → spelled items nothing_spelled ≡ Ok s
    → (length s.text_bytes ≡ size_of_text source) × (length s.data_bytes ≡ size_of_data source)

-- from the end of the text to the data
abbrev pub gap : ℕ → ℕ
gap size = data_base size - (text_base + size)

-- Where there is data, the text, zeros up to the data's base and the data are the program's bytes; else the text is.
abbrev pub DataStandsAtItsBase : Type 0
DataStandsAtItsBase = (source : List ℕ) (items : List Placed) (s : Spelled) (p : Assembled) → meaning_of source ≡ Ok items → spelled items nothing_spelled ≡ Ok s → program_of source ≡ Ok p
    → (0 < size_of_data source → p.bytes ≡ s.text_bytes ++ replicate (gap (size_of_text source)) 0 ++ s.data_bytes)
    × (size_of_data source ≡ 0 → p.bytes ≡ s.text_bytes)

-- Each line of a program is what a line of the source means, at the address from which its offsets are reckoned.
abbrev pub LinesStandWhereTheyAreMeant : Type 0
LinesStandWhereTheyAreMeant = (source : List ℕ) (p : Assembled) → program_of source ≡ Ok p → All (λ l. Means source l.line l.address l.instruction) p.lines

-- a line stands behind another, and comes from no earlier line of the source
abbrev pub ComesLater : ProgramLine → ProgramLine → Type 0
ComesLater l m = (l.line ≤ m.line) × (l.address + 4 ≤ m.address)

-- The lines of a program stand in the source's order, none twice.
abbrev pub LinesStandInOrder : Type 0
LinesStandInOrder = (source : List ℕ) (p : Assembled) → program_of source ≡ Ok p → AllPairs ComesLater p.lines

-- Line n of a source, from 1, has a label of this name at its front, behind other labels.
pub record HasLabel (source : List ℕ) (n : ℕ) (name : List ℕ) : Type 0 where
  pub line : List ℕ
  pub others : ℕ
  pub behind : List ℕ
  pub from_one : 0 < n
  pub is_line : slice_get (source_lines source) (n - 1) ≡ Some line
  pub is_label : label_at (behind_labels others (code_of line)) ≡ Some (name, behind)

-- Each label of a program has the address where its line's statement, or what comes next in its section, stands.
abbrev pub LabelsStandWhereTheirLinesDo : Type 0
LabelsStandWhereTheirLinesDo = (source : List ℕ) (p : Assembled) → program_of source ≡ Ok p
    → All (λ l. (n : ℕ) × HasLabel source n l.0 × (l.1 ≡ address (size_of_text source) (here (place_before source n)))) p.labels

-- Each label at the front of a line is found in the program, at this address.
abbrev pub AllLabelsAreFound : Type 0
AllLabelsAreFound = (source : List ℕ) (p : Assembled) → program_of source ≡ Ok p → (n : ℕ) (name : List ℕ) → HasLabel source n name
    → named p.labels name ≡ Some (address (size_of_text source) (here (place_before source n)))

-- the names of the labels at the front of a text, of which there are at most n
unfoldable pub labels_at : ℕ → List ℕ → List (List ℕ)
labels_at zero text = []
labels_at (suc n) text = elim (label_at text) [ None ↦ [] | Some label ↦ label.0 ∷ labels_at n label.1 ]

-- the names of the labels of lines, in their order
unfoldable pub labels_of : List (List ℕ) → List (List ℕ)
labels_of [] = []
labels_of (line ∷ lines) = labels_at (length (code_of line)) (code_of line) ++ labels_of lines

-- The labels of a program are those of the source's lines, each once, in the source's order.
abbrev pub LabelsStandInOrder : Type 0
LabelsStandInOrder = (source : List ℕ) (p : Assembled) → program_of source ≡ Ok p → map (λ l. l.0) p.labels ≡ labels_of (source_lines source)

-- the operand behind n commas
abbrev pub operand_at : ℕ → List ℕ → List ℕ
operand_at zero text = first_operand text
operand_at (suc k) text = operand_at k (other_operands text)

-- Number k, from 0, of the data in line n of a source has this value.
pub record HasNumber (source : List ℕ) (n k : ℕ) (width : DataWidth) (value : ℕ) : Type 0 where
  pub count : ℕ
  pub says : Says source n (Numbers width count)
  pub within : k < count
  pub is_value : value_in (layout_of source).labels (size_of_text source) width (operand_at k (operands (statement_text (code_of says.line)))) ≡ Ok value

-- Each number of a line stands at the line's place, behind the numbers before it.
abbrev pub NumbersStandWhereTheyAreMeant : Type 0
NumbersStandWhereTheyAreMeant = (source : List ℕ) (p : Assembled) → program_of source ≡ Ok p → (n k : ℕ) (width : DataWidth) (value : ℕ) → HasNumber source n k width value
    → take (bytes_in width) (drop (address (size_of_text source) (here (place_before source n)) - text_base + k * bytes_in width) p.bytes) ≡ number_bytes (bytes_in width) value

-- count bytes of a program from the place of line n on
abbrev pub bytes_at_line : List ℕ → ℕ → ℕ → List ℕ → List ℕ
bytes_at_line source n count bytes = take count (drop (address (size_of_text source) (here (place_before source n)) - text_base) bytes)

-- At the place of a line `.space size` there are size zeros.
abbrev pub SpacesAreZeros : Type 0
SpacesAreZeros = (source : List ℕ) (p : Assembled) → program_of source ≡ Ok p → (n size : ℕ) → Says source n (Space size)
    → bytes_at_line source n size p.bytes ≡ replicate size 0

-- What fills up to a multiple of 2 ^ power: nops in the text, where they are whole, else zeros.
abbrev pub filling_bytes : SectionPlace → ℕ → List ℕ
filling_bytes place power =
    if is_text place.section && (place.text_size % 4 == 0 && nat_le 2 power)
    then repeated (padding (offset place) power / 4) nop_bytes [] else replicate (padding (offset place) power) 0

-- From the place of a line `.align power` up to the next multiple stands what fills it.
abbrev pub AlignmentsAreFilled : Type 0
AlignmentsAreFilled = (source : List ℕ) (p : Assembled) → program_of source ≡ Ok p → (n power : ℕ) → Says source n (Align power)
    → bytes_at_line source n (padding (offset (place_before source n)) power) p.bytes ≡ filling_bytes (place_before source n) power
