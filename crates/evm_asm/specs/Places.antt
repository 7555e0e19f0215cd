-- How many bytes a statement takes, and where it stands.
use Rattle.std.specs.Prelude.{ℕ, min, ◌+◌, ◌-◌, ◌*◌, ◌/◌, ◌%◌, ◌^◌, Bool, true, false, not, ◌&&◌, ◌==◌, nat_lt, nat_le, if◌then◌else◌, List, Option, Some, None, Result, Ok, Err, ℤ, pos, neg_ℤ, negsuc, ◌+ℤ◌, nat_abs, int_le}
use Rattle.evm_asm_parser.specs.evm_asm_lexer.declared.source_fault.SourceFaultKind.{SourceFaultKind}
use Rattle.evm_asm_parser.specs.evm_asm_lexer.declared.source_fault.SourceFaultKind.TheVariants.{BadToken, UnknownName, BadOperand, TooLarge}
use Rattle.evm_asm_parser.specs.evm_asm_lexer.declared.mnemonic.Section.TheVariants as section
use Rattle.evm_asm_parser.specs.evm_asm_lexer.declared.mnemonic.Section.{Section as Part}
use Rattle.evm_asm_parser.specs.evm_asm_lexer.declared.mnemonic.DataWidth.{DataWidth}
use Rattle.evm_asm_parser.specs.evm_asm_lexer.declared.mnemonic.DataWidth.TheVariants.{Byte, Word, Dword}
use Rattle.evm_asm_parser.specs.evm_asm_lexer.declared.mnemonic.Mnemonic.{Mnemonic}
use Rattle.evm_asm_parser.specs.evm_asm_lexer.declared.mnemonic.Mnemonic.TheVariants as names
use Rattle.evm_asm_parser.specs.declared.spot.Spot.{Spot}
use Rattle.evm_asm.specs.declared.place.SectionPlace.{SectionPlace}
use Rattle.evm_asm_parser.specs.declared.statement.Statement.{Statement}
use Rattle.evm_asm_parser.specs.declared.statement.Statement.TheVariants.{Nothing, One, Branch, Jump, LoadImmediate, LoadAddress, Section, Numbers, Space, Align}
use Rattle.evm_asm_parser.specs.evm_asm_lexer.Text.{skip_blanks, first_word, behind_word, starts_with, is_name_start, is_empty, is_sound}
use Rattle.evm_asm_parser.specs.evm_asm_lexer.Names.{mnemonic_named}
use Rattle.evm_asm_parser.specs.Operands.{Spots, upper}
use Rattle.evm_asm_parser.specs.Statements.{StatementReading, statement_of, also}

-- how far the section is that the place is in
abbrev pub section_size : Part → SectionPlace → ℕ
section_size section.Text place = place.text_size
section_size section.Data place = place.data_size

abbrev pub offset : SectionPlace → ℕ
offset place = section_size place.section place

abbrev pub here : SectionPlace → Spot
here place = record { section = place.section; offset = offset place }

-- the place n bytes farther in its section
abbrev pub farther : Part → SectionPlace → ℕ → SectionPlace
farther section.Text place size = record place { text_size = place.text_size + size }
farther section.Data place size = record place { data_size = place.data_size + size }

-- no section is longer than 8,388,608 bytes
unfoldable pub grown : SectionPlace → ℕ → Result SectionPlace SourceFaultKind
grown place size =
    if nat_le size (8388608 - offset place) then Ok (farther place.section place size) else Err TooLarge

-- the numbers that addi adds
abbrev pub is_small : ℤ → Bool
is_small n = int_le (negsuc 2047) n && int_le n (pos 2047)

-- a 32-bit number as it stands in a register's low half
abbrev pub low_word : ℤ → ℕ
low_word n = nat_abs (n +ℤ pos 4294967296) % 4294967296

-- The low 12 bits of a 32-bit number, as the signed number that addi and addiw add, and what lui and auipc add
-- beside it: bits 31 to 12 of the number less those.
abbrev pub low_part : ℕ → ℤ
low_part n = if nat_lt (n % 4096) 2048 then pos (n % 4096) else neg_ℤ (pos (4096 - n % 4096))

abbrev pub high_part : ℕ → ℤ
high_part n = upper ((n + 2048) / 4096 % 1048576)

abbrev pub needs_low_part : ℕ → Bool
needs_low_part n = not (n % 4096 == 0)

abbrev pub bytes_in : DataWidth → ℕ
bytes_in Byte = 1
bytes_in Word = 4
bytes_in Dword = 8

-- how many bytes there are up to a multiple of 2 ^ power
abbrev pub padding : ℕ → ℕ → ℕ
padding offset power = (2 ^ power - offset % 2 ^ power) % 2 ^ power

unfoldable pub load_size : ℤ → ℕ
load_size value = if is_small value then 4 else (if needs_low_part (low_word value) then 8 else 4)

-- the bytes that a statement takes behind an offset
unfoldable pub size_at : ℕ → Statement → ℕ
size_at offset Nothing = 0
size_at offset (One inst) = 4
size_at offset (Branch op rs1 rs2 target) = 4
size_at offset (Jump rd target) = 4
size_at offset (LoadImmediate rd value) = load_size value
size_at offset (LoadAddress rd target) = 8
size_at offset (Section part) = 0
size_at offset (Numbers width count) = min (bytes_in width * count) 18446744073709551615
size_at offset (Space size) = size
size_at offset (Align power) = padding offset power

-- the place behind a statement
unfoldable pub place_behind : SectionPlace → Statement → Result SectionPlace SourceFaultKind
place_behind place (Section part) = Ok (record place { section = part })
place_behind place statement = grown place (size_at (offset place) statement)

-- directives stand anywhere, instructions in the text, at a multiple of 4
abbrev pub is_directive : Mnemonic → Bool
is_directive (names.Section part) = true
is_directive (names.Numbers width) = true
is_directive names.Space = true
is_directive names.Align = true
is_directive names.Global = true
is_directive mnemonic = false

abbrev pub is_text : Part → Bool
is_text section.Text = true
is_text section.Data = false

unfoldable pub may_stand : Mnemonic → SectionPlace → Bool
may_stand mnemonic place = if is_directive mnemonic then true else is_text place.section && place.text_size % 4 == 0

unfoldable pub placed : Mnemonic → SectionPlace → Result SectionPlace SourceFaultKind
placed mnemonic place = if may_stand mnemonic place then Ok place else Err BadOperand

abbrev pub of_mnemonic : Spots → SectionPlace → Option Mnemonic → List ℕ → StatementReading
of_mnemonic labels place (Some mnemonic) text = also (statement_of labels mnemonic text) (placed mnemonic place)
of_mnemonic labels place None text = Err UnknownName

-- What the text behind the labels of a line says.
unfoldable pub statement_in : Spots → SectionPlace → List ℕ → StatementReading
statement_in labels place text =
    if not (is_sound false text) then Err BadToken
    else (if is_empty (skip_blanks text) then Ok Nothing
    else (if not (starts_with is_name_start (skip_blanks text)) then Err BadToken
    else of_mnemonic labels place (mnemonic_named (first_word (skip_blanks text))) (behind_word (skip_blanks text))))
