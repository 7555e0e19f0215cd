-- What an operand says: the text between two commas, in the place of a register, a number, an address or a label.
use Rattle.std.specs.Prelude.{ℕ, ◌+◌, ◌-◌, ◌*◌, ◌%◌, ◌^◌, Bool, true, false, ◌&&◌, ◌==◌, nat_lt, nat_le, if◌then◌else◌, List, count_by, Option, Some, None, option_map, Result, Ok, Err, ℤ, pos, neg_ℤ}
use Rattle.evm_asm_lexer.specs.declared.source_fault.SourceFaultKind.{SourceFaultKind}
use Rattle.evm_asm_lexer.specs.declared.source_fault.SourceFaultKind.TheVariants.{UnknownName, BadOperand, RangeOfImmediate}
use Rattle.evm_asm_lexer.specs.declared.mnemonic.DataWidth.{DataWidth}
use Rattle.evm_asm_lexer.specs.declared.mnemonic.DataWidth.TheVariants.{Byte, Word, Dword}
use Rattle.evm_asm_parser.specs.declared.operand.Number.{Number}
use Rattle.evm_asm_parser.specs.declared.spot.Spot.{Spot}
use Rattle.evm_asm_parser.specs.declared.statement.Datum.{Datum}
use Rattle.evm_asm_parser.specs.declared.statement.Datum.TheVariants as datum
use Rattle.evm_asm_lexer.specs.Characters.{comma, minus, left_parenthesis, right_parenthesis}
use Rattle.evm_asm_lexer.specs.Faults.{both, least, ◌>>=◌}
use Rattle.evm_asm_lexer.specs.Text.{before, after, has_byte, skip_blanks, first_word, behind_word, starts_with, is_digit, is_name_start, is_empty, size, tail}
use Rattle.evm_asm_lexer.specs.Names.{named, register_named}

-- the labels that are known, each with its spot
abbrev pub Spots : Type 0
Spots = List (List ℕ × Spot)

abbrev pub is_blank_text : List ℕ → Bool
is_blank_text text = is_empty (skip_blanks text)

-- Operands stand between commas: the first of them, and the others. A statement without any has none.
abbrev pub first_operand : List ℕ → List ℕ
first_operand text = before comma text

abbrev pub other_operands : List ℕ → List ℕ
other_operands text = after comma text

unfoldable pub how_many : List ℕ → ℕ
how_many text = if is_blank_text text then 0 else count_by (λ b. b == comma) text + 1

-- what was read of n operands, if there are n
unfoldable pub counted : {A : Type 0} → ℕ → ℕ → Result A SourceFaultKind → Result A SourceFaultKind
counted n count (Ok a) = if count == n then Ok a else Err BadOperand
counted n count (Err e) = if count == n then Err e else Err (least e BadOperand)

-- a text that is one name, with blanks around it
unfoldable pub name_in : List ℕ → Option (List ℕ)
name_in text =
    if starts_with is_name_start (skip_blanks text) && is_blank_text (behind_word (skip_blanks text))
    then Some (first_word (skip_blanks text)) else None

abbrev pub known : Option ℕ → Result ℕ SourceFaultKind
known (Some r) = Ok r
known None = Err UnknownName

abbrev pub named_register : Option (List ℕ) → Result ℕ SourceFaultKind
named_register (Some name) = known (register_named name)
named_register None = Err BadOperand

unfoldable pub register_in : List ℕ → Result ℕ SourceFaultKind
register_in text = named_register (name_in text)

abbrev pub labelled : Spots → Option (List ℕ) → Result (Option Spot) SourceFaultKind
labelled labels (Some name) = Ok (named labels name)
labelled labels None = Err BadOperand

-- where the label that the text names is, if it is anywhere
unfoldable pub label_in : Spots → List ℕ → Result (Option Spot) SourceFaultKind
label_in labels text = labelled labels (name_in text)

-- a text that is one number without a sign, with blanks behind it
unfoldable pub size_in : List ℕ → Option ℕ
size_in text = if starts_with is_digit text && is_blank_text (behind_word text) then size (first_word text) else None

-- a text that is one number, with blanks around it
unfoldable pub number_in : List ℕ → Option Number
number_in text =
    if starts_with (λ b. b == minus) (skip_blanks text)
    then option_map (λ n. record { negative = true; size = n }) (size_in (tail (skip_blanks text)))
    else option_map (λ n. record { negative = false; size = n }) (size_in (skip_blanks text))

-- the number, where it is from -below to above
unfoldable pub integer : ℕ → ℕ → Number → Result ℤ SourceFaultKind
integer below above n =
    if n.negative then (if nat_le n.size below then Ok (neg_ℤ (pos n.size)) else Err RangeOfImmediate)
    else (if nat_le n.size above then Ok (pos n.size) else Err RangeOfImmediate)

abbrev pub ranged : ℕ → ℕ → Option Number → Result ℤ SourceFaultKind
ranged below above (Some n) = integer below above n
ranged below above None = Err BadOperand

unfoldable pub integer_in : ℕ → ℕ → List ℕ → Result ℤ SourceFaultKind
integer_in below above text = ranged below above (number_in text)

-- the immediate of most instructions
unfoldable pub immediate_in : List ℕ → Result ℤ SourceFaultKind
immediate_in text = integer_in 2048 2047 text

-- what stands before the '(' of an address: an immediate, or nothing, which is 0
unfoldable pub offset_in : List ℕ → Result ℤ SourceFaultKind
offset_in text = if is_blank_text text then Ok (pos 0) else immediate_in text

-- what stands behind it: a register and ')'
unfoldable pub base_in : List ℕ → Result ℕ SourceFaultKind
base_in text = if has_byte right_parenthesis text && is_blank_text (after right_parenthesis text) then register_in (before right_parenthesis text) else Err BadOperand

unfoldable pub address_in : List ℕ → Result (ℤ × ℕ) SourceFaultKind
address_in text = if has_byte left_parenthesis text then both (offset_in (before left_parenthesis text)) (base_in (after left_parenthesis text)) else Err BadOperand

-- an address whose offset is written
unfoldable pub full_address_in : List ℕ → Result (ℤ × ℕ) SourceFaultKind
full_address_in text = if has_byte left_parenthesis text then both (immediate_in (before left_parenthesis text)) (base_in (after left_parenthesis text)) else Err BadOperand

-- the number, where it is from 0 to above
unfoldable pub natural : ℕ → Number → Result ℕ SourceFaultKind
natural above n =
    if n.negative then (if n.size == 0 then Ok 0 else Err RangeOfImmediate)
    else (if nat_le n.size above then Ok n.size else Err RangeOfImmediate)

abbrev pub limited : ℕ → Option Number → Result ℕ SourceFaultKind
limited above (Some n) = natural above n
limited above None = Err BadOperand

unfoldable pub natural_in : ℕ → List ℕ → Result ℕ SourceFaultKind
natural_in above text = limited above (number_in text)

-- the number modulo 2 ^ 64, where it is from -below to above
unfoldable pub wrapped : ℕ → ℕ → Number → Result ℕ SourceFaultKind
wrapped below above n =
    if n.negative then (if nat_le n.size below then Ok ((2 ^ 64 - n.size) % 2 ^ 64) else Err RangeOfImmediate)
    else (if nat_le n.size above then Ok n.size else Err RangeOfImmediate)

-- the upper 20 bits of a word, as the number that the instruction adds
abbrev pub upper : ℕ → ℤ
upper n = if nat_lt n 524288 then pos (n * 4096) else neg_ℤ (pos ((1048576 - n) * 4096))

unfoldable pub upper_in : List ℕ → Result ℤ SourceFaultKind
upper_in text = natural_in 1048575 text >>= λ n. Ok (upper n)

-- One number of a data directive, modulo 2 ^ 64, or a label.
abbrev pub number_datum : DataWidth → Number → Result ℕ SourceFaultKind
number_datum Byte n = wrapped 128 255 n
number_datum Word n = wrapped 2147483648 4294967295 n
number_datum Dword n = wrapped 9223372036854775808 18446744073709551615 n

abbrev pub label_datum : Spots → DataWidth → List ℕ → Result (Option Spot) SourceFaultKind
label_datum labels Byte text = Err BadOperand
label_datum labels Word text = label_in labels text
label_datum labels Dword text = label_in labels text

abbrev pub datum_of : Spots → DataWidth → List ℕ → Option Number → Result Datum SourceFaultKind
datum_of labels width text (Some n) = number_datum width n >>= λ v. Ok (datum.Value v)
datum_of labels width text None = label_datum labels width text >>= λ s. Ok (datum.Label s)

unfoldable pub datum_in : Spots → DataWidth → List ℕ → Result Datum SourceFaultKind
datum_in labels width text = datum_of labels width text (number_in text)
