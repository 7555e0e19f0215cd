-- What a statement says: its operands read in the form of its mnemonic, with the labels that are known.
use Rattle.std.specs.Prelude.{ℕ, zero, suc, ◌==◌, if◌then◌else◌, List, [], ◌∷◌, length, Option, Some, None, Result, Ok, Err}
use Rattle.evm_asm_lexer.specs.declared.source_fault.SourceFaultKind.{SourceFaultKind}
use Rattle.evm_asm_lexer.specs.declared.source_fault.SourceFaultKind.TheVariants.{BadOperand}
use Rattle.evm_asm_lexer.specs.declared.mnemonic.DataWidth.{DataWidth}
use Rattle.evm_asm_lexer.specs.declared.mnemonic.Mnemonic.{Mnemonic}
use Rattle.evm_asm_parser.specs.declared.statement.Statement.{Statement}
use Rattle.evm_asm_lexer.specs.Faults.{both, least, ◌>>=◌}
use Rattle.evm_asm_parser.specs.Operands.{Spots, first_operand, other_operands, how_many, counted, name_in, register_in, label_in, integer_in, natural_in, upper_in, address_in, full_address_in, datum_in}
use Rattle.evm_asm_parser.specs.Forms.{Slot, Register, Integer, Natural, Upper, Label, Address, FullAddress, Name, Value, Values, Form, Each, Many, form}

abbrev pub StatementReading : Type 0
StatementReading = Result Statement SourceFaultKind

-- a name, to no effect
abbrev pub name_or_fault : Option (List ℕ) → Result (Unit {0}) SourceFaultKind
name_or_fault (Some name) = Ok tt
name_or_fault None = Err BadOperand

-- what a text says in a place
abbrev pub operand_in : Spots → (slot : Slot) → List ℕ → Result (Value slot) SourceFaultKind
operand_in labels Register text = register_in text
operand_in labels (Integer below above) text = integer_in below above text
operand_in labels (Natural above) text = natural_in above text
operand_in labels Upper text = upper_in text
operand_in labels Label text = label_in labels text
operand_in labels Address text = address_in text
operand_in labels FullAddress text = full_address_in text
operand_in labels Name text = name_or_fault (name_in text)

-- what the first operands say, each in its place, or the least of their faults
abbrev pub operands_in : Spots → (slots : List Slot) → List ℕ → Result (Values slots) SourceFaultKind
operands_in labels [] text = Ok tt
operands_in labels (slot ∷ []) text = operand_in labels slot (first_operand text)
operands_in labels (slot ∷ next ∷ slots) text = both (operand_in labels slot (first_operand text)) (operands_in labels (next ∷ slots) (other_operands text))

-- what the operands say, which are as many as there are places
abbrev pub all_operands_in : Spots → (slots : List Slot) → List ℕ → Result (Values slots) SourceFaultKind
all_operands_in labels slots text = counted (length slots) (how_many text) (operands_in labels slots text)

-- the first of two readings, or the least of their faults
unfoldable pub also : {A B : Type 0} → Result A SourceFaultKind → Result B SourceFaultKind → Result A SourceFaultKind
also (Ok a) (Ok b) = Ok a
also (Ok a) (Err f) = Err f
also (Err e) (Ok b) = Err e
also (Err e) (Err f) = Err (least e f)

-- a reading, with the faults of the first n numbers or labels of a list
unfoldable pub with_data : Spots → DataWidth → ℕ → StatementReading → List ℕ → StatementReading
with_data labels width zero reading text = reading
with_data labels width (suc n) reading text = with_data labels width n (also reading (datum_in labels width (first_operand text))) (other_operands text)

-- the statement that the operands say in a form
unfoldable pub said : Spots → Form → List ℕ → StatementReading
said labels (Each slots makes) text = all_operands_in labels slots text >>= λ values. Ok (makes values)
said labels (Many width makes) text =
    if how_many text == 0 then Err BadOperand
    else with_data labels width (how_many text) (Ok (makes (how_many text))) text

-- the statement of a mnemonic and the text of its operands
unfoldable pub statement_of : Spots → Mnemonic → List ℕ → StatementReading
statement_of labels mnemonic text = said labels (form (how_many text) mnemonic) text
