-- Registers are below 32 and numbers in the range that is read.
use Rattle.std.proofs.Common.{◌≡◌, ℕ, ◌<◌, Bool, true, false, cond, ◌&&◌, nat_lt, List, [], ◌∷◌, Option, Some, None, IfOk, IfSome, refl, bytes_eq, lit<, ℤ, pos, negsuc, zero, suc, ◌≤◌, nat_le, neg_ℤ, arith}
use Rattle.std.proofs.lemmas.Bool.{ltb-true, and_parts, leb-true}
use Rattle.evm_asm_parser.specs.evm_asm_lexer.Names.{named, register_named, register_names, fixed_registers, argument_registers, saved_registers, temporary_registers, registers_to_7, registers_to_15, registers_to_23, registers_to_31}
use Rattle.evm_asm_parser.specs.evm_asm_lexer.declared.source_fault.SourceFaultKind.TheVariants.{RangeOfImmediate}
use Rattle.evm_asm_parser.specs.Operands.{register_in, named_register, known, name_in, number_in, integer, ranged, integer_in}
use Rattle.evm_asm_parser.specs.declared.operand.Number.{Number}
use Rattle.evm_asm_parser.proofs.Outcomes.{either_ok, tested_ok}

-- ---- the registers of the language are 0 to 31

abbrev pub IsRegister : ℕ → Type 0
IsRegister r = r < 32

pub zero_register : IsRegister 0
zero_register = lit< tt

abbrev all_registers : List (List ℕ × ℕ) → Bool
all_registers [] = true
all_registers (e ∷ es) = nat_lt e.1 32 && all_registers es

picked : (t : Bool) (n : ℕ) (others : Option ℕ) → n < 32 → IfSome others IsRegister → IfSome (cond t (Some n) others) IsRegister
picked true n others h k = h
picked false n others h k = k

found : (es : List (List ℕ × ℕ)) (name : List ℕ) → all_registers es ≡ true → IfSome (named es name) IsRegister
found [] name h = tt
found (e ∷ es) name h =
    let p = and_parts (nat_lt e.1 32) (all_registers es) h in
    picked (bytes_eq name e.0) e.1 (named es name) (ltb-true e.1 32 p.0) (found es name p.1)

all_below : all_registers register_names ≡ true
unfolding register_names fixed_registers argument_registers saved_registers temporary_registers registers_to_7 registers_to_15 registers_to_23 registers_to_31
all_below = refl

named_below : (name : List ℕ) → IfSome (register_named name) IsRegister
unfolding register_named
named_below name = found register_names name all_below

known_below : (o : Option ℕ) → IfSome o IsRegister → IfOk (known o) IsRegister
known_below (Some r) h = h
known_below None h = tt

operand_below : (name : Option (List ℕ)) → IfOk (named_register name) IsRegister
operand_below (Some name) = known_below (register_named name) (named_below name)
operand_below None = tt

pub register_below : (text : List ℕ) → IfOk (register_in text) IsRegister
unfolding register_in
register_below text = operand_below (name_in text)

-- ---- a number that is read is in its range

abbrev pub IsFrom : ℕ → ℕ → ℤ → Type 0
IsFrom below above (pos n) = n ≤ above
IsFrom below above (negsuc n) = n < below

pub minus_from : (below above n : ℕ) → n ≤ below → IsFrom below above (neg_ℤ (pos n))
minus_from below above zero h = omega arith
minus_from below above (suc n) h = omega arith

integer_from : (below above : ℕ) (n : Number) → IfOk (integer below above n) (IsFrom below above)
unfolding integer
integer_from below above n =
    either_ok n.negative _ _ (IsFrom below above)
    (tested_ok (nat_le n.size below) (neg_ℤ (pos n.size)) RangeOfImmediate (IsFrom below above) (λ e. minus_from below above n.size (leb-true n.size below e)))
    (tested_ok (nat_le n.size above) (pos n.size) RangeOfImmediate (IsFrom below above) (λ e. leb-true n.size above e))

ranged_from : (below above : ℕ) (o : Option Number) → IfOk (ranged below above o) (IsFrom below above)
ranged_from below above (Some n) = integer_from below above n
ranged_from below above None = tt

pub integer_within : (below above : ℕ) (text : List ℕ) → IfOk (integer_in below above text) (IsFrom below above)
unfolding integer_in
integer_within below above text = ranged_from below above (number_in text)
