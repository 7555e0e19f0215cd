-- What is wrong with a line of a source: a sentence for each kind of fault.
use Rattle.std.specs.Prelude.{◌≡◌, ◌≢◌, ◌<◌, ◌≤◌, ◌%◌, ◌++◌, ◌⊎◌, ◌&&◌, ◌↔◌, IsOk, ℕ, zero, suc, ◌+◌, Bool, true, false, List, [], ◌∷◌, length, take, slice_get, Some, None, Ok, Err}
use Rattle.evm_asm.specs.evm_asm_lexer.declared.source_fault.SourceFault.{SourceFault}
use Rattle.evm_asm.specs.evm_asm_lexer.declared.source_fault.SourceFaultKind.{SourceFaultKind}
use Rattle.evm_asm.specs.evm_asm_lexer.declared.source_fault.SourceFaultKind.TheVariants.{BadToken, UnknownName, BadOperand, RangeOfImmediate, LabelTwice, LabelMissing, TooLarge}
use Rattle.evm_asm.specs.evm_asm_lexer.declared.mnemonic.Mnemonic.{Mnemonic}
use Rattle.evm_asm.specs.evm_asm_lexer.declared.mnemonic.DataWidth.{DataWidth}
use Rattle.evm_asm.specs.evm_asm_lexer.declared.mnemonic.DataWidth.TheVariants.{Byte, Word, Dword}
use Rattle.evm_asm.specs.evm_asm_lexer.Characters.{left_parenthesis, right_parenthesis}
use Rattle.evm_asm.specs.evm_asm_lexer.Faults.{source_number}
use Rattle.evm_asm.specs.evm_asm_lexer.Text.{before, after, has_byte, skip_blanks, first_word, starts_with, is_name_start, is_empty, is_sound}
use Rattle.evm_asm.specs.evm_asm_lexer.Names.{register_named, mnemonic_named}
use Rattle.evm_asm.specs.evm_asm_parser.declared.operand.Number.{Number}
use Rattle.evm_asm.specs.evm_asm_parser.declared.statement.Datum.TheVariants as datum
use Rattle.evm_asm.specs.evm_asm_parser.declared.statement.Statement.{Statement}
use Rattle.evm_asm.specs.evm_asm_parser.declared.statement.Statement.TheVariants.{Branch, Jump, LoadAddress, Numbers}
use Rattle.evm_asm.specs.evm_asm_parser.Operands.{Spots, first_operand, other_operands, how_many, is_blank_text, name_in, number_in, datum_in}
use Rattle.evm_asm.specs.evm_asm_parser.Forms.{Slot, Register, Integer, Natural, Upper, Label, Address, FullAddress, Name, Form, Each, Many, form}
use Rattle.evm_asm.specs.declared.place.SectionPlace.{SectionPlace}
use Rattle.evm_asm.specs.Places.{may_stand, place_behind, statement_in}
use Rattle.evm_asm.specs.Sources.{Laid, nothing_laid, laid, source_lines, code_of, statement_text}
use Rattle.evm_asm.specs.Assembled.{program_of}
use Rattle.claims_texts.specs.Standing.{labels_at, labels_of}
use Rattle.evm_asm.specs.Items.{text_base, address, operands, layout_of}

-- ---- what is wrong with what stands in a place

-- a name that is no register
abbrev pub IsNoRegister : List ℕ → Type 0
IsNoRegister text = (name : List ℕ) × (name_in text ≡ Some name) × (register_named name ≡ None)

-- a number below -below or above
abbrev pub IsOutside : ℕ → ℕ → List ℕ → Type 0
IsOutside below above text =
    (n : Number) × (number_in text ≡ Some n) × (((n.negative ≡ true) × (below < n.size)) ⊎ ((n.negative ≡ false) × (above < n.size)))

-- a register's name, or what should be one, in parentheses
abbrev pub base_text : List ℕ → List ℕ
base_text text = before right_parenthesis (after left_parenthesis text)

abbrev pub offset_text : List ℕ → List ℕ
offset_text text = before left_parenthesis text

-- behind a '(' there is a ')', and nothing behind that
abbrev pub encloses : List ℕ → Bool
encloses text =
    has_byte right_parenthesis (after left_parenthesis text) && is_blank_text (after right_parenthesis (after left_parenthesis text))

-- In a register's place stands a name that is no register.
abbrev pub Unknown : Slot → List ℕ → Type 0
Unknown Register text = IsNoRegister text
Unknown Address text = (has_byte left_parenthesis text ≡ true) × (encloses text ≡ true) × IsNoRegister (base_text text)
Unknown FullAddress text = (has_byte left_parenthesis text ≡ true) × (encloses text ≡ true) × IsNoRegister (base_text text)
Unknown slot text = ⊥

-- In a place stands something of another kind: no name, no number, no address.
abbrev pub Misfit : Slot → List ℕ → Type 0
Misfit Register text = name_in text ≡ None
Misfit (Integer below above) text = number_in text ≡ None
Misfit (Natural above) text = number_in text ≡ None
Misfit Upper text = number_in text ≡ None
Misfit Label text = name_in text ≡ None
Misfit Address text =
    (has_byte left_parenthesis text ≡ false) ⊎ (encloses text ≡ false) ⊎ (name_in (base_text text) ≡ None)
    ⊎ ((is_blank_text (offset_text text) ≡ false) × (number_in (offset_text text) ≡ None))
Misfit FullAddress text =
    (has_byte left_parenthesis text ≡ false) ⊎ (encloses text ≡ false) ⊎ (name_in (base_text text) ≡ None)
    ⊎ (number_in (offset_text text) ≡ None)
Misfit Name text = name_in text ≡ None

-- In a number's place stands a number outside its range.
abbrev pub OutOfRange : Slot → List ℕ → Type 0
OutOfRange (Integer below above) text = IsOutside below above text
OutOfRange (Natural above) text = IsOutside 0 above text
OutOfRange Upper text = IsOutside 0 1048575 text
OutOfRange Address text = (has_byte left_parenthesis text ≡ true) × (is_blank_text (offset_text text) ≡ false) × IsOutside 2048 2047 (offset_text text)
OutOfRange FullAddress text = (has_byte left_parenthesis text ≡ true) × IsOutside 2048 2047 (offset_text text)
OutOfRange slot text = ⊥

-- ---- what is wrong with the operands

-- somewhere in the places of a form stands what is wrong
abbrev pub SomePlace : (Slot → List ℕ → Type 0) → List Slot → List ℕ → Type 0
SomePlace P [] text = ⊥
SomePlace P (slot ∷ slots) text = P slot (first_operand text) ⊎ SomePlace P slots (other_operands text)

-- one of the first n operands is wrong
abbrev pub SomeOperand : (List ℕ → Type 0) → ℕ → List ℕ → Type 0
SomeOperand P zero text = ⊥
SomeOperand P (suc n) text = P (first_operand text) ⊎ SomeOperand P n (other_operands text)

-- A byte is a number; a word and a dword are a number or a label.
abbrev pub IsNoDatum : DataWidth → List ℕ → Type 0
IsNoDatum Byte text = number_in text ≡ None
IsNoDatum Word text = (number_in text ≡ None) × (name_in text ≡ None)
IsNoDatum Dword text = (number_in text ≡ None) × (name_in text ≡ None)

abbrev pub IsDatumOutside : DataWidth → List ℕ → Type 0
IsDatumOutside Byte text = IsOutside 128 255 text
IsDatumOutside Word text = IsOutside 2147483648 4294967295 text
IsDatumOutside Dword text = IsOutside 9223372036854775808 18446744073709551615 text

abbrev pub HasUnknownRegister : Form → List ℕ → Type 0
HasUnknownRegister (Each slots makes) text = SomePlace Unknown slots text
HasUnknownRegister (Many width makes) text = ⊥

-- another number of operands than there are places, or one of another kind than its place
abbrev pub HasMisfit : Form → List ℕ → Type 0
HasMisfit (Each slots makes) text = (how_many text ≢ length slots) ⊎ SomePlace Misfit slots text
HasMisfit (Many width makes) text = (how_many text ≡ 0) ⊎ SomeOperand (IsNoDatum width) (how_many text) text

abbrev pub HasNumberOutside : Form → List ℕ → Type 0
HasNumberOutside (Each slots makes) text = SomePlace OutOfRange slots text
HasNumberOutside (Many width makes) text = SomeOperand (IsDatumOutside width) (how_many text) text

-- ---- what is wrong with a line

-- the text behind a line's labels
abbrev pub text_behind_labels : List ℕ → List ℕ
text_behind_labels line = statement_text (code_of line)

-- a statement that begins with no name
abbrev pub BeginsWithNoName : List ℕ → Type 0
BeginsWithNoName text = (is_empty (skip_blanks text) ≡ false) × (starts_with is_name_start (skip_blanks text) ≡ false)

-- a statement that begins with a name that is no mnemonic and no directive
abbrev pub HasUnknownMnemonic : List ℕ → Type 0
HasUnknownMnemonic text = (is_empty (skip_blanks text) ≡ false) × (mnemonic_named (first_word (skip_blanks text)) ≡ None)

-- Of the statement's mnemonic this is true.
abbrev pub Of : List ℕ → (Mnemonic → Type 0) → Type 0
Of text P = (m : Mnemonic) × (is_empty (skip_blanks text) ≡ false) × (mnemonic_named (first_word (skip_blanks text)) ≡ Some m) × P m

abbrev pub OfForm : List ℕ → (Form → List ℕ → Type 0) → Type 0
OfForm text P = Of text (λ m. P (form (how_many (operands text)) m) (operands text))

-- an instruction in the data, or not at a multiple of 4
abbrev pub IsMisplaced : SectionPlace → List ℕ → Type 0
IsMisplaced place text = Of text (λ m. may_stand m place ≡ false)

-- The way from an address to a target is odd, or goes back or ahead further than its limits.
abbrev pub IsBeyond : ℕ → ℕ → ℕ → ℕ → Type 0
IsBeyond back ahead from target = (from % 2 ≢ target % 2) ⊎ (target + back < from) ⊎ (from + ahead < target)

-- a branch or a jump to a label that is odd or too far
abbrev pub IsFar : ℕ → ℕ → Statement → Type 0
IsFar text_size from (Branch op rs1 rs2 (Some spot)) = IsBeyond 4096 4094 from (address text_size spot)
IsFar text_size from (Jump rd (Some spot)) = IsBeyond 1048576 1048574 from (address text_size spot)
IsFar text_size from statement = ⊥

-- a name stands among these
abbrev pub StandsAmong : List ℕ → List (List ℕ) → Type 0
StandsAmong name [] = ⊥
StandsAmong name (other ∷ names) = (name ≡ other) ⊎ StandsAmong name names

-- one of these names is among those before it: the earlier ones, or those in front of it here
abbrev pub SomeTwice : List (List ℕ) → List (List ℕ) → Type 0
SomeTwice earlier [] = ⊥
SomeTwice earlier (name ∷ names) = StandsAmong name earlier ⊎ SomeTwice (earlier ++ name ∷ []) names

-- A label of the line is a label of an earlier line too, or stands in this one before.
abbrev pub HasLabelTwice : List (List ℕ) → List ℕ → Type 0
HasLabelTwice earlier line = SomeTwice (labels_of earlier) (labels_at (length (code_of line)) (code_of line))

-- a label that no line defines
abbrev pub LacksLabel : Spots → List ℕ → Statement → Type 0
LacksLabel labels text (Branch op rs1 rs2 None) = Unit {0}
LacksLabel labels text (Jump rd None) = Unit {0}
LacksLabel labels text (LoadAddress rd None) = Unit {0}
LacksLabel labels text (Numbers width count) = SomeOperand (λ operand. datum_in labels width operand ≡ Ok (datum.Label None)) count (operands text)
LacksLabel labels text statement = ⊥

-- Of the statement that the text says at a place this is true.
abbrev pub Said : Spots → SectionPlace → List ℕ → (Statement → Type 0) → Type 0
Said labels place text P = (s : Statement) × (statement_in labels place text ≡ Ok s) × P s

-- the place behind these lines
abbrev pub place_behind_lines : List (List ℕ) → SectionPlace
place_behind_lines lines = (laid nothing_laid lines).place

-- What is wrong with a line that stands behind earlier ones, in a source that is laid out as a whole.
abbrev pub IsWrong : Laid → List (List ℕ) → List ℕ → SourceFaultKind → Type 0
IsWrong whole earlier line BadToken = (is_sound false (text_behind_labels line) ≡ false) ⊎ BeginsWithNoName (text_behind_labels line)
IsWrong whole earlier line UnknownName = HasUnknownMnemonic (text_behind_labels line) ⊎ OfForm (text_behind_labels line) HasUnknownRegister
IsWrong whole earlier line BadOperand = OfForm (text_behind_labels line) HasMisfit ⊎ IsMisplaced (place_behind_lines earlier) (text_behind_labels line)
IsWrong whole earlier line RangeOfImmediate =
    OfForm (text_behind_labels line) HasNumberOutside
    ⊎ Said whole.labels (place_behind_lines earlier) (text_behind_labels line) (IsFar whole.place.text_size (text_base + (place_behind_lines earlier).text_size))
IsWrong whole earlier line LabelTwice = HasLabelTwice earlier line
IsWrong whole earlier line LabelMissing = Said whole.labels (place_behind_lines earlier) (text_behind_labels line) (LacksLabel whole.labels (text_behind_labels line))
IsWrong whole earlier line TooLarge = Said whole.labels (place_behind_lines earlier) (text_behind_labels line) (λ s. place_behind (place_behind_lines earlier) s ≡ Err TooLarge)

-- Line n of a source, from 1, has this fault.
abbrev pub HasFault : List ℕ → ℕ → SourceFaultKind → Type 0
HasFault source zero kind = ⊥
HasFault source (suc n) kind =
    (line : List ℕ) × (slice_get (source_lines source) n ≡ Some line)
    × IsWrong (layout_of source) (take n (source_lines source)) line kind

-- the least fault of the first line that has any
abbrev pub IsLeastOfFirst : List ℕ → SourceFault → Type 0
IsLeastOfFirst source fault =
    HasFault source fault.line fault.kind
    × ((kind : SourceFaultKind) → HasFault source fault.line kind → source_number fault.kind ≤ source_number kind)
    × ((n : ℕ) → n < fault.line → (kind : SourceFaultKind) → HasFault source n kind → ⊥)

-- A source is refused with a fault if and only if that is the least of the first line that has any, and it has a program
-- if and only if no line has a fault.
abbrev pub RefusedWithTheLeast : Type 0
RefusedWithTheLeast = (source : List ℕ)
    → ((fault : SourceFault) → program_of source ≡ Err fault ↔ IsLeastOfFirst source fault)
    × (IsOk (program_of source) ↔ ((n : ℕ) (kind : SourceFaultKind) → HasFault source n kind → ⊥))
