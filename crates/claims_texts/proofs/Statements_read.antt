-- Every li and la that is read has operands that can be loaded.
use Rattle.std.proofs.Common.{◌≡◌, ℕ, false, ◌==◌, not, List, Option, Some, None, Ok, Err, IfOk, IfSome, refl}
use Rattle.evm_elf.specs.evm_asm_lexer.declared.source_fault.SourceFaultKind.TheVariants.{BadToken}
use Rattle.evm_elf.specs.evm_asm_lexer.declared.mnemonic.Mnemonic.{Mnemonic}
use Rattle.evm_elf.specs.evm_asm_lexer.declared.mnemonic.Mnemonic.TheVariants as names
use Rattle.evm_elf.specs.evm_asm_lexer.Text.{skip_blanks, first_word, behind_word, starts_with, is_name_start, is_empty, is_sound}
use Rattle.evm_elf.specs.evm_asm_lexer.Names.{mnemonic_named}
use Rattle.evm_elf.specs.evm_asm_parser.declared.statement.Statement.{Statement}
use Rattle.evm_elf.specs.evm_asm_parser.declared.statement.Statement.TheVariants.{Nothing, LoadImmediate, LoadAddress}
use Rattle.evm_elf.specs.evm_asm_parser.Operands.{Spots, how_many, name_in, natural_in, upper_in, address_in, full_address_in}
use Rattle.evm_elf.specs.evm_asm_parser.Forms.{Slot, Register, Integer, Natural, Upper, Label, Address, FullAddress, Name, Value, form}
use Rattle.evm_elf.specs.evm_asm_parser.Statements.{name_or_fault, operand_in, statement_of}
use Rattle.evm_elf.specs.evm_asm.declared.place.SectionPlace.{SectionPlace}
use Rattle.evm_elf.specs.evm_asm.Places.{placed, of_mnemonic, statement_in}
use Rattle.evm_elf.proofs.evm_asm_parser.Outcomes.{any_ok, either_ok, also_ok}
use Rattle.evm_elf.proofs.evm_asm_parser.Forms_hold.{Makes, either_makes, statement_holds}
use Rattle.evm_elf.proofs.evm_asm.Operands_in_range.{IsRegister, register_below}
use Rattle.claims_texts.proofs.Operands_read.{IsInRange, IsNear, AreNear, integer_within, label_near}

-- li has a register and a number of 32 bits, la a register and a label that is near, if it is known
abbrev pub CanLoad : Statement → Type 0
CanLoad (LoadImmediate rd value) = IsRegister rd × IsInRange value
CanLoad (LoadAddress rd target) = IsRegister rd × IfSome target IsNear
CanLoad other = Unit {0}

-- what is read in a place that li or la has
abbrev Loads : (slot : Slot) → Value slot → Type 0
Loads Register r = IsRegister r
Loads (Integer below above) n = below ≡ 2147483648 → above ≡ 2147483647 → IsInRange n
Loads Label target = IfSome target IsNear
Loads other v = Unit {0}

operand_loads : (labels : Spots) → AreNear labels → (slot : Slot) (text : List ℕ) → IfOk (operand_in labels slot text) (Loads slot)
operand_loads labels near Register text = register_below text
operand_loads labels near (Integer below above) text = integer_within below above text
operand_loads labels near (Natural above) text = any_ok (natural_in above text)
operand_loads labels near Upper text = any_ok (upper_in text)
operand_loads labels near Label text = label_near labels text near
operand_loads labels near Address text = any_ok (address_in text)
operand_loads labels near FullAddress text = any_ok (full_address_in text)
operand_loads labels near Name text = any_ok (name_or_fault (name_in text))

-- each row of the table makes what can be loaded
forms_load : (count : ℕ) (m : Mnemonic) → Makes Loads CanLoad (form count m)
forms_load count names.LoadImmediate = λ v h. (h.0, h.1 refl refl)
forms_load count names.LoadAddress = λ v h. h
forms_load count names.Jal = either_makes Loads CanLoad (count == 1) _ _ (λ v h. tt) (λ v h. tt)
forms_load count names.Jalr = either_makes Loads CanLoad (count == 1) _ _ (λ v h. tt) (λ v h. tt)
forms_load count (names.Numbers width) = λ n. tt
forms_load count m = λ v h. tt

statement_loads : (labels : Spots) (m : Mnemonic) (text : List ℕ) → AreNear labels → IfOk (statement_of labels m text) CanLoad
statement_loads labels m text near = statement_holds labels Loads (operand_loads labels near) CanLoad m text (forms_load (how_many text) m)

of_mnemonic_loads : (labels : Spots) (place : SectionPlace) (o : Option Mnemonic) (text : List ℕ) → AreNear labels → IfOk (of_mnemonic labels place o text) CanLoad
of_mnemonic_loads labels place (Some m) text h = also_ok (statement_of labels m text) (placed m place) CanLoad (statement_loads labels m text h)
of_mnemonic_loads labels place None text h = tt

pub statement_in_loads : (labels : Spots) (place : SectionPlace) (text : List ℕ) → AreNear labels → IfOk (statement_in labels place text) CanLoad
unfolding statement_in
statement_in_loads labels place text h =
    either_ok (not (is_sound false text)) (Err BadToken) _ CanLoad tt
    (either_ok (is_empty (skip_blanks text)) (Ok Nothing) _ CanLoad tt
    (either_ok (not (starts_with is_name_start (skip_blanks text))) (Err BadToken) _ CanLoad tt
    (of_mnemonic_loads labels place (mnemonic_named (first_word (skip_blanks text))) (behind_word (skip_blanks text)) h)))
