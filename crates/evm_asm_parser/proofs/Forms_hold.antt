-- What holds of every statement that is read, from what holds of each operand and of each row of the table of forms.
use Rattle.std.proofs.Common.{ℕ, zero, suc, Bool, true, false, cond, ◌==◌, List, [], ◌∷◌, length, Ok, Err, IfOk}
use Rattle.evm_asm_lexer.specs.declared.source_fault.SourceFaultKind.TheVariants.{BadOperand}
use Rattle.evm_asm_lexer.specs.declared.mnemonic.DataWidth.{DataWidth}
use Rattle.evm_asm_lexer.specs.declared.mnemonic.Mnemonic.{Mnemonic}
use Rattle.evm_asm_parser.specs.declared.statement.Statement.{Statement}
use Rattle.evm_asm_parser.specs.Operands.{Spots, first_operand, other_operands, how_many, datum_in}
use Rattle.evm_asm_parser.specs.Forms.{Slot, Value, Values, Form, Each, Many, form}
use Rattle.evm_asm_parser.specs.Statements.{StatementReading, operand_in, operands_in, all_operands_in, also, with_data, said, statement_of}
use Rattle.evm_asm_parser.proofs.Outcomes.{either_ok, both_ok, counted_ok, also_ok, read_ok}

-- what holds of each value holds of all
abbrev pub AllHold : ((slot : Slot) → Value slot → Type 0) → (slots : List Slot) → Values slots → Type 0
AllHold Q [] v = Unit {0}
AllHold Q (slot ∷ []) v = Q slot v
AllHold Q (slot ∷ next ∷ slots) v = Q slot v.0 × AllHold Q (next ∷ slots) v.1

-- a form makes statements of which P holds, of values of which Q holds
abbrev pub Makes : ((slot : Slot) → Value slot → Type 0) → (Statement → Type 0) → Form → Type 0
Makes Q P (Each slots makes) = (v : Values slots) → AllHold Q slots v → P (makes v)
Makes Q P (Many width makes) = (n : ℕ) → P (makes n)

pub either_makes : (Q : (slot : Slot) → Value slot → Type 0) (P : Statement → Type 0) (t : Bool) (f g : Form)
    → Makes Q P f → Makes Q P g → Makes Q P (cond t f g)
either_makes Q P true f g h k = h
either_makes Q P false f g h k = k

data_hold : (P : Statement → Type 0) (labels : Spots) (width : DataWidth) (n : ℕ) (reading : StatementReading) (text : List ℕ)
    → IfOk reading P → IfOk (with_data labels width n reading text) P
unfolding with_data
data_hold P labels width zero reading text h = h
data_hold P labels width (suc n) reading text h =
    data_hold P labels width n (also reading (datum_in labels width (first_operand text))) (other_operands text)
    (also_ok reading (datum_in labels width (first_operand text)) P h)

module _ (labels : Spots) (Q : (slot : Slot) → Value slot → Type 0) (each : (slot : Slot) (text : List ℕ) → IfOk (operand_in labels slot text) (Q slot)) where
  all_hold : (slots : List Slot) (text : List ℕ) → IfOk (operands_in labels slots text) (AllHold Q slots)
  all_hold [] text = tt
  all_hold (slot ∷ []) text = each slot (first_operand text)
  all_hold (slot ∷ next ∷ slots) text =
      both_ok (operand_in labels slot (first_operand text)) (operands_in labels (next ∷ slots) (other_operands text)) (Q slot) (AllHold Q (next ∷ slots))
      (each slot (first_operand text)) (all_hold (next ∷ slots) (other_operands text))

  module _ (P : Statement → Type 0) where
    said_holds : (f : Form) (text : List ℕ) → Makes Q P f → IfOk (said labels f text) P
    unfolding said
    said_holds (Each slots makes) text h =
        read_ok (all_operands_in labels slots text) (λ v. Ok (makes v)) (AllHold Q slots) P
        (counted_ok (length slots) (how_many text) (operands_in labels slots text) (AllHold Q slots) (all_hold slots text)) h
    said_holds (Many width makes) text h =
        either_ok (how_many text == 0) (Err BadOperand) _ P tt (data_hold P labels width (how_many text) (Ok (makes (how_many text))) text (h (how_many text)))

    pub statement_holds : (m : Mnemonic) (text : List ℕ) → Makes Q P (form (how_many text) m) → IfOk (statement_of labels m text) P
    unfolding statement_of
    statement_holds m text h = said_holds (form (how_many text) m) text h
