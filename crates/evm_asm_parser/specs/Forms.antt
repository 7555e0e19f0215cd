-- The table of forms: what stands in each place behind a mnemonic, and the statement that is made of what was read there.
use Rattle.std.specs.Prelude.{ℕ, ◌==◌, if◌then◌else◌, List, [], ◌∷◌, Option, ℤ, pos, negsuc}
use Rattle.evm_isa.specs.declared.inst.ImmediateOp.TheVariants.{Addi, Addiw, Sltiu, Xori}
use Rattle.evm_isa.specs.declared.inst.RegisterOp.TheVariants.{Sub, Slt, Sltu}
use Rattle.evm_isa.specs.declared.inst.ShiftOp.{ShiftOp}
use Rattle.evm_isa.specs.declared.inst.ShiftOp.TheVariants.{Slli, Srli, Srai, Slliw, Srliw, Sraiw}
use Rattle.evm_isa.specs.declared.inst.WordOp.TheVariants.{Subw}
use Rattle.evm_isa.specs.declared.inst.Inst.{Inst}
use Rattle.evm_isa.specs.declared.inst.Inst.TheVariants as inst
use Rattle.evm_asm_lexer.specs.declared.mnemonic.BareOp.{BareOp}
use Rattle.evm_asm_lexer.specs.declared.mnemonic.BareOp.TheVariants.{Fence, Ecall, Ebreak, Nop, Ret}
use Rattle.evm_asm_lexer.specs.declared.mnemonic.UnaryOp.{UnaryOp}
use Rattle.evm_asm_lexer.specs.declared.mnemonic.UnaryOp.TheVariants.{Mv, Not, Neg, Negw, SextW, Seqz, Snez, Sltz, Sgtz}
use Rattle.evm_asm_lexer.specs.declared.mnemonic.DataWidth.{DataWidth}
use Rattle.evm_asm_lexer.specs.declared.mnemonic.Mnemonic.{Mnemonic}
use Rattle.evm_asm_lexer.specs.declared.mnemonic.Mnemonic.TheVariants as names
use Rattle.evm_asm_parser.specs.declared.spot.Spot.{Spot}
use Rattle.evm_asm_parser.specs.declared.statement.Statement.{Statement}
use Rattle.evm_asm_parser.specs.declared.statement.Statement.TheVariants.{Nothing, One, Branch, Jump, LoadImmediate, LoadAddress, Section, Numbers, Space, Align}

-- What an operand is to be, by its place.
pub data Slot : Type 0 where
  -- the name of a register
  Register : Slot
  -- a number from -below to above
  Integer : (below above : ℕ) → Slot
  -- a number from 0 to above
  Natural : (above : ℕ) → Slot
  -- the upper 20 bits of a word, as a number from 0 to 1048575
  Upper : Slot
  -- the name of a label
  Label : Slot
  -- an offset, or nothing, and a register in parentheses
  Address : Slot
  -- an offset and a register in parentheses
  FullAddress : Slot
  -- any name
  Name : Slot

-- What is read there: the number of a register, a number, the spot of a label if it has one, an offset and a register.
abbrev pub Value : Slot → Type 0
Value Register = ℕ
Value (Integer below above) = ℤ
Value (Natural above) = ℕ
Value Upper = ℤ
Value Label = Option Spot
Value Address = ℤ × ℕ
Value FullAddress = ℤ × ℕ
Value Name = Unit {0}

abbrev pub Values : List Slot → Type 0
Values [] = Unit {0}
Values (slot ∷ []) = Value slot
Values (slot ∷ next ∷ slots) = Value slot × Values (next ∷ slots)

-- The operands of a mnemonic: one in each place, and what they make; or one or more numbers or labels of a width.
pub data Form : Type 0 where
  Each : (slots : List Slot) → (Values slots → Statement) → Form
  Many : (width : DataWidth) → (ℕ → Statement) → Form

-- the immediate of most instructions
abbrev pub immediate_slot : Slot
immediate_slot = Integer 2048 2047

abbrev pub greatest_shift : ShiftOp → ℕ
greatest_shift Slli = 63
greatest_shift Srli = 63
greatest_shift Srai = 63
greatest_shift Slliw = 31
greatest_shift Srliw = 31
greatest_shift Sraiw = 31

abbrev pub bare_instruction : BareOp → Inst
bare_instruction Fence = inst.Fence 0 0 255
bare_instruction Ecall = inst.Ecall
bare_instruction Ebreak = inst.Ebreak
bare_instruction Nop = inst.Immediate Addi 0 0 (pos 0)
bare_instruction Ret = inst.Jalr 0 1 (pos 0)

abbrev pub unary_instruction : UnaryOp → ℕ → ℕ → Inst
unary_instruction Mv rd rs = inst.Immediate Addi rd rs (pos 0)
unary_instruction Not rd rs = inst.Immediate Xori rd rs (negsuc 0)
unary_instruction Neg rd rs = inst.Register Sub rd 0 rs
unary_instruction Negw rd rs = inst.Word Subw rd 0 rs
unary_instruction SextW rd rs = inst.Immediate Addiw rd rs (pos 0)
unary_instruction Seqz rd rs = inst.Immediate Sltiu rd rs (pos 1)
unary_instruction Snez rd rs = inst.Register Sltu rd 0 rs
unary_instruction Sltz rd rs = inst.Register Slt rd rs 0
unary_instruction Sgtz rd rs = inst.Register Slt rd 0 rs

-- The form of a mnemonic with n operands. jal and jalr may leave x1 out.
abbrev pub form : ℕ → Mnemonic → Form
form count (names.Register op) = Each (Register ∷ Register ∷ Register ∷ []) (λ v. One (inst.Register op v.0 v.1.0 v.1.1))
form count (names.Word op) = Each (Register ∷ Register ∷ Register ∷ []) (λ v. One (inst.Word op v.0 v.1.0 v.1.1))
form count (names.Immediate op) = Each (Register ∷ Register ∷ immediate_slot ∷ []) (λ v. One (inst.Immediate op v.0 v.1.0 v.1.1))
form count (names.Shift op) = Each (Register ∷ Register ∷ Natural (greatest_shift op) ∷ []) (λ v. One (inst.Shift op v.0 v.1.0 v.1.1))
form count (names.Load op) = Each (Register ∷ Address ∷ []) (λ v. One (inst.Load op v.0 v.1.1 v.1.0))
form count (names.Store op) = Each (Register ∷ Address ∷ []) (λ v. One (inst.Store op v.1.1 v.0 v.1.0))
form count (names.Branch op) = Each (Register ∷ Register ∷ Label ∷ []) (λ v. Branch op v.0 v.1.0 v.1.1)
form count names.Lui = Each (Register ∷ Upper ∷ []) (λ v. One (inst.Lui v.0 v.1))
form count names.Auipc = Each (Register ∷ Upper ∷ []) (λ v. One (inst.Auipc v.0 v.1))
form count names.Jal =
    if count == 1 then Each (Label ∷ []) (λ target. Jump 1 target)
    else Each (Register ∷ Label ∷ []) (λ v. Jump v.0 v.1)
form count names.Jalr =
    if count == 1 then Each (Register ∷ []) (λ rs1. One (inst.Jalr 1 rs1 (pos 0)))
    else Each (Register ∷ FullAddress ∷ []) (λ v. One (inst.Jalr v.0 v.1.1 v.1.0))
form count (names.Bare op) = Each [] (λ none. One (bare_instruction op))
form count (names.Unary op) = Each (Register ∷ Register ∷ []) (λ v. One (unary_instruction op v.0 v.1))
form count (names.BranchSwapped op) = Each (Register ∷ Register ∷ Label ∷ []) (λ v. Branch op v.1.0 v.0 v.1.1)
form count (names.BranchZero op) = Each (Register ∷ Label ∷ []) (λ v. Branch op v.0 0 v.1)
form count (names.ZeroBranch op) = Each (Register ∷ Label ∷ []) (λ v. Branch op 0 v.0 v.1)
form count names.Jump = Each (Label ∷ []) (λ target. Jump 0 target)
form count names.JumpRegister = Each (Register ∷ []) (λ rs1. One (inst.Jalr 0 rs1 (pos 0)))
form count names.LoadImmediate = Each (Register ∷ Integer 2147483648 2147483647 ∷ []) (λ v. LoadImmediate v.0 v.1)
form count names.LoadAddress = Each (Register ∷ Label ∷ []) (λ v. LoadAddress v.0 v.1)
form count (names.Section section) = Each [] (λ none. Section section)
form count (names.Numbers width) = Many width (λ n. Numbers width n)
form count names.Space = Each (Natural 18446744073709551615 ∷ []) (λ n. Space n)
form count names.Align = Each (Natural 12 ∷ []) (λ n. Align n)
form count names.Global = Each (Name ∷ []) (λ name. Nothing)
