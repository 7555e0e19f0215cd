-- Details of a faulty line, beside the message of its fault.
use Rattle.std.specs.Prelude.{ℕ, ◌+◌, ◌-◌, ◌==◌, if◌then◌else◌, List, [], ◌∷◌, length, Option, Some, None, option_and_then, false}
use Rattle.evm_asm_parser.specs.evm_asm_lexer.Characters.{newline, dot}
use Rattle.evm_asm_parser.specs.evm_asm_lexer.declared.extensions.Extension.{Extension as Extended}
use Rattle.evm_asm_parser.specs.evm_asm_lexer.declared.fault.AsmFault.{AsmFault}
use Rattle.evm_asm_parser.specs.evm_asm_lexer.declared.fault.AsmFaultKind.{AsmFaultKind}
use Rattle.evm_asm_parser.specs.evm_asm_lexer.declared.fault.AsmFaultKind.TheVariants.{BadToken, UnknownName, BadOperand, RangeOfImmediate}
use Rattle.evm_asm_parser.specs.evm_asm_lexer.declared.mnemonic.Mnemonic.{Mnemonic as Named}
use Rattle.evm_asm_parser.specs.evm_asm_lexer.declared.mnemonic.Mnemonic.TheVariants as names
use Rattle.evm_asm_parser.specs.evm_asm_lexer.declared.mnemonic.DataWidth.{DataWidth}
use Rattle.evm_asm_parser.specs.evm_asm_lexer.declared.mnemonic.DataWidth.TheVariants.{Byte, Word, Dword}
use Rattle.evm_asm_parser.specs.evm_asm_lexer.Extensions.{extension_of}
use Rattle.evm_asm_parser.specs.evm_asm_lexer.Names.{mnemonic_named}
use Rattle.evm_asm_parser.specs.evm_asm_lexer.Text.{before, skip_blanks, first_word, behind_word, starts_with, bad_token}
use Rattle.evm_asm_parser.specs.Forms as slot
use Rattle.evm_asm_parser.specs.Forms.{Slot, Form, Each, Many, form}
use Rattle.evm_asm_parser.specs.Operands.{how_many}
use Rattle.evm_asm.specs.declared.detail.SourceDetail.{SourceDetail}
use Rattle.evm_asm.specs.declared.detail.SourceDetail.TheVariants.{Mnemonic, Directive, Register, Extension, Token, Operands, Range, Distance}
use Rattle.evm_asm.specs.Quoting.{behind_lines}
use Rattle.evm_asm.specs.Sources.{code_of, statement_text}

-- ---- an unknown name

abbrev pub of_extension : Option Extended → SourceDetail
of_extension (Some extension) = Extension extension
of_extension None = Mnemonic

-- what is wanted where this unknown word begins a statement
abbrev pub name_detail : List ℕ → SourceDetail
name_detail word = if starts_with (λ b. b == dot) word then Directive else of_extension (extension_of word)

abbrev pub unknown_detail : Option Named → List ℕ → SourceDetail
unknown_detail None statement = name_detail (first_word statement)
unknown_detail (Some mnemonic) statement = Register

-- ---- what is no token

abbrev pub or_statement : Option (List ℕ) → List ℕ → List ℕ
or_statement (Some rest) text = rest
or_statement None text = skip_blanks text

-- the text from what is no token on, or the statement if all are
abbrev pub token_text : List ℕ → List ℕ
token_text text = or_statement (bad_token false text) text

-- the first byte of the end of a line of this length, and its column
abbrev pub token_at : ℕ → List ℕ → Option SourceDetail
token_at line [] = None
token_at line (b ∷ bs) = Some (Token (line - length (b ∷ bs) + 1) b)

-- ---- operands

abbrev pub places_of : Form → Option ℕ
places_of (Each slots makes) = Some (length slots)
places_of (Many width makes) = None

-- how many operands there are and how many are wanted, where these differ
abbrev pub operands_detail : Named → ℕ → Option SourceDetail
operands_detail mnemonic found = option_and_then (λ wanted. if found == wanted then None else Some (Operands found wanted)) (places_of (form found mnemonic))

-- ---- numbers and labels

abbrev pub range_from_zero : ℕ → Option SourceDetail
range_from_zero above = Some (Range 0 above)

abbrev pub slot_range : Slot → Option SourceDetail
slot_range (slot.Integer below above) = Some (Range below above)
slot_range (slot.Natural above) = range_from_zero above
slot_range slot.Upper = range_from_zero 1048575
slot_range slot.Address = Some (Range 2048 2047)
slot_range slot.FullAddress = Some (Range 2048 2047)
slot_range other = None

abbrev pub first_detail : Option SourceDetail → Option SourceDetail → Option SourceDetail
first_detail (Some detail) next = Some detail
first_detail None next = next

abbrev pub slots_range : List Slot → Option SourceDetail
slots_range [] = None
slots_range (s ∷ slots) = first_detail (slot_range s) (slots_range slots)

abbrev pub width_range : DataWidth → SourceDetail
width_range Byte = Range 128 255
width_range Word = Range 2147483648 4294967295
width_range Dword = Range 9223372036854775808 18446744073709551615

-- the limits of the number of a form
abbrev pub range_of : Form → Option SourceDetail
range_of (Each slots makes) = slots_range slots
range_of (Many width makes) = Some (width_range width)

-- how far the label of a mnemonic may be
abbrev pub distance_of : Named → Option SourceDetail
distance_of (names.Branch op) = Some (Distance 4096 4094)
distance_of (names.BranchSwapped op) = Some (Distance 4096 4094)
distance_of (names.BranchZero op) = Some (Distance 4096 4094)
distance_of (names.ZeroBranch op) = Some (Distance 4096 4094)
distance_of names.Jal = Some (Distance 1048576 1048574)
distance_of names.Jump = Some (Distance 1048576 1048574)
distance_of mnemonic = None

abbrev pub limits_of : Named → ℕ → Option SourceDetail
limits_of mnemonic count = first_detail (range_of (form count mnemonic)) (distance_of mnemonic)

-- ---- a line that has this fault

abbrev pub line_detail : AsmFaultKind → List ℕ → Option SourceDetail
line_detail BadToken code = token_at (length code) (token_text (statement_text code))
line_detail UnknownName code = Some (unknown_detail (mnemonic_named (first_word (skip_blanks (statement_text code)))) (skip_blanks (statement_text code)))
line_detail BadOperand code =
    option_and_then (λ mnemonic. operands_detail mnemonic (how_many (behind_word (skip_blanks (statement_text code))))) (mnemonic_named (first_word (skip_blanks (statement_text code))))
line_detail RangeOfImmediate code =
    option_and_then (λ mnemonic. limits_of mnemonic (how_many (behind_word (skip_blanks (statement_text code))))) (mnemonic_named (first_word (skip_blanks (statement_text code))))
line_detail kind code = None

-- what is behind the fault of a source, where the line has more to say than the message of its kind
unfoldable pub source_detail : List ℕ → AsmFault → Option SourceDetail
source_detail source fault = line_detail fault.kind (code_of (before newline (behind_lines (fault.line - 1) source)))
