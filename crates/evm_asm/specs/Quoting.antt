-- What a person is shown of a line that has a fault: the word that is wrong, where the kind of the fault tells which.
use Rattle.std.specs.Prelude.{ℕ, zero, suc, ◌-◌, ◌&&◌, ◌==◌, not, if◌then◌else◌, List, Option, Some, None, is_some}
use Rattle.evm_asm_parser.specs.evm_asm_lexer.Characters.{newline, left_parenthesis, right_parenthesis}
use Rattle.evm_asm_parser.specs.evm_asm_lexer.declared.fault.AsmFault.{AsmFault}
use Rattle.evm_asm_parser.specs.evm_asm_lexer.declared.fault.AsmFaultKind.{AsmFaultKind}
use Rattle.evm_asm_parser.specs.evm_asm_lexer.declared.fault.AsmFaultKind.TheVariants.{UnknownName, LabelTwice, LabelMissing}
use Rattle.evm_asm_parser.specs.evm_asm_lexer.declared.mnemonic.Mnemonic.{Mnemonic}
use Rattle.evm_asm_parser.specs.evm_asm_lexer.Text.{before, after, has_byte, skip_blanks, first_word, behind_word}
use Rattle.evm_asm_parser.specs.evm_asm_lexer.Names.{mnemonic_named, register_named}
use Rattle.evm_asm_parser.specs.Operands.{first_operand, other_operands, how_many, name_in}
use Rattle.evm_asm.specs.Places.{is_directive}
use Rattle.evm_asm.specs.Sources.{code_of, label_at, statement_text}

-- the name of a register is the whole of an operand, or stands in parentheses
unfoldable pub register_text : List ℕ → List ℕ
register_text operand = if has_byte left_parenthesis operand then before right_parenthesis (after left_parenthesis operand) else operand

abbrev pub unless_register : Option (List ℕ) → Option (List ℕ)
unless_register (Some name) = if is_some (register_named name) then None else Some name
unless_register None = None

-- the name in an operand, where it is no register's
unfoldable pub unknown_in : List ℕ → Option (List ℕ)
unknown_in operand = unless_register (name_in (register_text operand))

abbrev pub first_quoted : Option (List ℕ) → Option (List ℕ) → Option (List ℕ)
first_quoted (Some word) next = Some word
first_quoted None next = next

-- the first of such names: no form has registers behind its third place
unfoldable pub unknown_register : List ℕ → Option (List ℕ)
unknown_register operands =
    first_quoted (unknown_in (first_operand operands))
    (first_quoted (unknown_in (first_operand (other_operands operands))) (unknown_in (first_operand (other_operands (other_operands operands)))))

-- the name of a statement, where it is no mnemonic, or else of an operand, where it is no register
abbrev pub unknown_name : Option Mnemonic → List ℕ → Option (List ℕ)
unknown_name None statement = Some (first_word statement)
unknown_name (Some mnemonic) statement = unknown_register (behind_word statement)

-- the label that an instruction names is its last operand
unfoldable pub last_name : List ℕ → Option (List ℕ)
last_name operands =
    if how_many operands == 1 then name_in (first_operand operands)
    else (if how_many operands == 2 then name_in (first_operand (other_operands operands))
    else name_in (first_operand (other_operands (other_operands operands))))

-- in a list of data it is known only where it stands alone
abbrev pub missing_label : Option Mnemonic → List ℕ → Option (List ℕ)
missing_label None operands = None
missing_label (Some mnemonic) operands = if is_directive mnemonic && not (how_many operands == 1) then None else last_name operands

-- a label that came twice is known where it is the only one of its line
abbrev pub only_label : Option (List ℕ × List ℕ) → Option (List ℕ)
only_label None = None
only_label (Some label) = if is_some (label_at label.1) then None else Some label.0

-- the word that is wrong in the statement of a line, or among its labels
unfoldable pub quoted_in : AsmFaultKind → List ℕ → Option (List ℕ)
quoted_in UnknownName code = unknown_name (mnemonic_named (first_word (skip_blanks (statement_text code)))) (skip_blanks (statement_text code))
quoted_in LabelMissing code = missing_label (mnemonic_named (first_word (skip_blanks (statement_text code)))) (behind_word (skip_blanks (statement_text code)))
quoted_in LabelTwice code = only_label (label_at code)
quoted_in kind code = None

-- the source behind its first n lines
unfoldable pub behind_lines : ℕ → List ℕ → List ℕ
behind_lines zero source = source
behind_lines (suc n) source = behind_lines n (after newline source)

-- the word that a person is shown beside the message of a fault
unfoldable pub quoted : List ℕ → AsmFault → Option (List ℕ)
quoted source fault = quoted_in fault.kind (code_of (before newline (behind_lines (fault.line - 1) source)))
