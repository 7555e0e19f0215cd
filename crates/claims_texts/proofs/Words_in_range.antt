-- An instruction whose registers are below 32 and whose numbers are in range has a word; what is read is so.
use Rattle.std.proofs.Common.{◌≡◌, ℕ, ◌<◌, Bool, true, false, cond, ◌&&◌, nat_lt, List, Option, Some, None, IfOk, refl, ◌+◌, ◌-◌, ◌*◌, ◌%◌, ◌^◌, ℤ, pos, negsuc, ap, zero, suc, ◌≤◌, ◌==◌, nat_le, Ok, Err, neg_ℤ, arith}
use Rattle.std.proofs.lemmas.Bool.{ltb-true, lt-ltb, eq-eqb, leb-true, ltb-false}
use Rattle.std.specs.Option.{option_map, option_and_then}
use Rattle.std.proofs.lemmas.Result.{IfOk-weaker}
use Rattle.evm_isa.specs.declared.inst.BranchOp.{BranchOp}
use Rattle.evm_isa.specs.declared.inst.ImmediateOp.{ImmediateOp}
use Rattle.evm_isa.specs.declared.inst.LoadOp.{LoadOp}
use Rattle.evm_isa.specs.declared.inst.RegisterOp.{RegisterOp}
use Rattle.evm_isa.specs.declared.inst.ShiftOp.{ShiftOp}
use Rattle.evm_isa.specs.declared.inst.StoreOp.{StoreOp}
use Rattle.evm_isa.specs.declared.inst.WordOp.{WordOp}
use Rattle.evm_isa.specs.declared.inst.Inst.TheVariants.{Lui, Auipc, Jal, Jalr, Branch, Load, Store, Immediate, Shift, Register, Word, Fence, Ecall, Ebreak}
use Rattle.evm_isa.specs.Encoded.{twos_complement, multiple, i_placed, s_placed, b_placed, j_placed, i_bits, s_bits, b_bits, u_bits, j_bits, is_register, amounts, amount_placed, fence_placed, bits_joined, encoded}
use Rattle.evm_asm.specs.evm_asm_lexer.declared.source_fault.SourceFaultKind.TheVariants.{BadOperand, RangeOfImmediate}
use Rattle.evm_asm.specs.evm_asm_lexer.Characters.{left_parenthesis, right_parenthesis}
use Rattle.evm_asm.specs.evm_asm_lexer.Text.{before, after, has_byte}
use Rattle.evm_asm.specs.evm_asm_parser.Operands.{register_in, number_in, integer_in, immediate_in, offset_in, base_in, address_in, full_address_in, natural, limited, natural_in, is_blank_text, upper, upper_in}
use Rattle.evm_asm.specs.evm_asm_parser.declared.operand.Number.{Number}
use Rattle.evm_asm.proofs.evm_asm_parser.Outcomes.{either_ok, tested_ok, both_ok, read_ok}
use Rattle.claims_texts.specs.Wording.{HasWord}
use Rattle.evm_asm.proofs.Operands_in_range.{IsRegister, register_below, IsFrom, minus_from, integer_within}

-- ---- the bits of an immediate

abbrev Found : Option ℕ → Type 0
Found o = (x : ℕ) × (o ≡ Some x)

-- from -sign to sign - 1
abbrev pub IsWithin : ℕ → ℤ → Type 0
IsWithin sign (pos n) = n < sign
IsWithin sign (negsuc n) = n < sign

-- a multiple of m too
abbrev pub IsMultiple : ℕ → ℕ → ℤ → Type 0
IsMultiple m sign (pos n) = (n < sign) × (n % m ≡ 0)
IsMultiple m sign (negsuc n) = (n < sign) × ((2 * sign - 1 - n) % m ≡ 0)

complement : (sign : ℕ) (i : ℤ) → IsWithin sign i → Found (twos_complement sign i)
complement sign (pos n) h = (n, rw (lt-ltb n sign h) refl)
complement sign (negsuc n) h = (2 * sign - 1 - n, rw (lt-ltb n sign h) refl)

multiple_complement : (m sign : ℕ) (i : ℤ) → IsMultiple m sign i → Found (option_and_then (multiple m) (twos_complement sign i))
multiple_complement m sign (pos n) h = (n, rw (lt-ltb n sign h.0, eq-eqb (n % m) 0 h.1) refl)
multiple_complement m sign (negsuc n) h = (2 * sign - 1 - n, rw (lt-ltb n sign h.0, eq-eqb ((2 * sign - 1 - n) % m) 0 h.1) refl)

mapped : (f : ℕ → ℕ) (o : Option ℕ) → Found o → Found (option_map f o)
mapped f o h = (f h.0, ap (option_map f) h.1)

i_found : (i : ℤ) → IsWithin 2048 i → Found (i_bits i)
unfolding i_bits
i_found i h = mapped i_placed (twos_complement 2048 i) (complement 2048 i h)

s_found : (i : ℤ) → IsWithin 2048 i → Found (s_bits i)
unfolding s_bits
s_found i h = mapped s_placed (twos_complement 2048 i) (complement 2048 i h)

b_found : (i : ℤ) → IsMultiple 2 4096 i → Found (b_bits i)
unfolding b_bits
b_found i h = mapped b_placed (option_and_then (multiple 2) (twos_complement 4096 i)) (multiple_complement 2 4096 i h)

j_found : (i : ℤ) → IsMultiple 2 1048576 i → Found (j_bits i)
unfolding j_bits
j_found i h = mapped j_placed (option_and_then (multiple 2) (twos_complement 1048576 i)) (multiple_complement 2 1048576 i h)

u_found : (i : ℤ) → IsMultiple 4096 2147483648 i → Found (u_bits i)
unfolding u_bits
u_found i h = multiple_complement 4096 2147483648 i h

amount_found : (o : ShiftOp) (n : ℕ) → n < amounts o → Found (amount_placed o n)
amount_found o n h = (n * 2 ^ 20, rw (lt-ltb n (amounts o) h) refl)

fence_found : (n : ℕ) → n < 4096 → Found (fence_placed n)
fence_found n h = (n * 2 ^ 20, rw (lt-ltb n 4096 h) refl)

-- ---- the fields joined

one : (a : ℕ) → IsRegister a → is_register a ≡ true
one a h = lt-ltb a 32 h

two : (a b : ℕ) → IsRegister a → IsRegister b → (is_register a && is_register b) ≡ true
two a b h k = rw (one a h, one b k) refl

three : (a b c : ℕ) → IsRegister a → IsRegister b → IsRegister c → (is_register a && is_register b && is_register c) ≡ true
three a b c h k l = rw (one a h, one b k, one c l) refl

both_found : (t : Bool) (n : ℕ) (o : Option ℕ) → t ≡ true → Found o → Found (bits_joined t n o)
both_found t n o h k = (n + k.0, rw (h, k.1) refl)

-- ---- the words

pub lui_word : (d : ℕ) (i : ℤ) → IsRegister d → IsMultiple 4096 2147483648 i → HasWord (Lui d i)
unfolding encoded
lui_word d i p h = both_found (is_register d) (0x37 + d * 2 ^ 7) (u_bits i) (one d p) (u_found i h)

pub auipc_word : (d : ℕ) (i : ℤ) → IsRegister d → IsMultiple 4096 2147483648 i → HasWord (Auipc d i)
unfolding encoded
auipc_word d i p h = both_found (is_register d) (0x17 + d * 2 ^ 7) (u_bits i) (one d p) (u_found i h)

pub jal_word : (d : ℕ) (i : ℤ) → IsRegister d → IsMultiple 2 1048576 i → HasWord (Jal d i)
unfolding encoded
jal_word d i p h = both_found (is_register d) _ (j_bits i) (one d p) (j_found i h)

pub jalr_word : (d a : ℕ) (i : ℤ) → IsRegister d → IsRegister a → IsWithin 2048 i → HasWord (Jalr d a i)
unfolding encoded
jalr_word d a i p q h = both_found (is_register d && is_register a) _ (i_bits i) (two d a p q) (i_found i h)

pub branch_word : (o : BranchOp) (a b : ℕ) (i : ℤ) → IsRegister a → IsRegister b → IsMultiple 2 4096 i → HasWord (Branch o a b i)
unfolding encoded
branch_word o a b i p q h = both_found (is_register a && is_register b) _ (b_bits i) (two a b p q) (b_found i h)

pub load_word : (o : LoadOp) (d a : ℕ) (i : ℤ) → IsRegister d → IsRegister a → IsWithin 2048 i → HasWord (Load o d a i)
unfolding encoded
load_word o d a i p q h = both_found (is_register d && is_register a) _ (i_bits i) (two d a p q) (i_found i h)

pub store_word : (o : StoreOp) (a b : ℕ) (i : ℤ) → IsRegister a → IsRegister b → IsWithin 2048 i → HasWord (Store o a b i)
unfolding encoded
store_word o a b i p q h = both_found (is_register a && is_register b) _ (s_bits i) (two a b p q) (s_found i h)

pub immediate_word : (o : ImmediateOp) (d a : ℕ) (i : ℤ) → IsRegister d → IsRegister a → IsWithin 2048 i → HasWord (Immediate o d a i)
unfolding encoded
immediate_word o d a i p q h = both_found (is_register d && is_register a) _ (i_bits i) (two d a p q) (i_found i h)

pub shift_word : (o : ShiftOp) (d a n : ℕ) → IsRegister d → IsRegister a → n < amounts o → HasWord (Shift o d a n)
unfolding encoded
shift_word o d a n p q h = both_found (is_register d && is_register a) _ (amount_placed o n) (two d a p q) (amount_found o n h)

pub register_word : (o : RegisterOp) (d a b : ℕ) → IsRegister d → IsRegister a → IsRegister b → HasWord (Register o d a b)
unfolding encoded
register_word o d a b p q r = both_found (is_register d && is_register a && is_register b) _ (Some (b * 2 ^ 20)) (three d a b p q r) (b * 2 ^ 20, refl)

pub word_word : (o : WordOp) (d a b : ℕ) → IsRegister d → IsRegister a → IsRegister b → HasWord (Word o d a b)
unfolding encoded
word_word o d a b p q r = both_found (is_register d && is_register a && is_register b) _ (Some (b * 2 ^ 20)) (three d a b p q r) (b * 2 ^ 20, refl)

pub fence_word : (d a n : ℕ) → IsRegister d → IsRegister a → n < 4096 → HasWord (Fence d a n)
unfolding encoded
fence_word d a n p q h = both_found (is_register d && is_register a) _ (fence_placed n) (two d a p q) (fence_found n h)

pub ecall_word : HasWord Ecall
unfolding encoded
ecall_word = (0x73, refl)

pub ebreak_word : HasWord Ebreak
unfolding encoded
ebreak_word = (0x100073, refl)

-- ---- operands that are numbers are in the range that is read

pub twelve_bits : (i : ℤ) → IsFrom 2048 2047 i → IsWithin 2048 i
twelve_bits (pos n) h = omega arith
twelve_bits (negsuc n) h = h

pub minus_within : (n : ℕ) → n ≤ 2048 → IsWithin 2048 (neg_ℤ (pos n))
minus_within n h = twelve_bits (neg_ℤ (pos n)) (minus_from 2048 2047 n h)

immediate_within : (text : List ℕ) → IfOk (immediate_in text) (IsWithin 2048)
unfolding immediate_in
immediate_within text = IfOk-weaker (integer_in 2048 2047 text) (IsFrom 2048 2047) (IsWithin 2048) twelve_bits (integer_within 2048 2047 text)

-- ---- addresses

offset_within : (text : List ℕ) → IfOk (offset_in text) (IsWithin 2048)
unfolding offset_in
offset_within text = either_ok (is_blank_text text) (Ok (pos 0)) (immediate_in text) (IsWithin 2048) (omega arith) (immediate_within text)

base_below : (text : List ℕ) → IfOk (base_in text) IsRegister
unfolding base_in
base_below text = either_ok _ (register_in (before right_parenthesis text)) (Err BadOperand) IsRegister (register_below (before right_parenthesis text)) tt

pub address_within : (text : List ℕ) → IfOk (address_in text) (λ x. IsWithin 2048 x.0 × IsRegister x.1)
unfolding address_in
address_within text =
    either_ok (has_byte left_parenthesis text) _ (Err BadOperand) (λ x. IsWithin 2048 x.0 × IsRegister x.1)
    (both_ok (offset_in (before left_parenthesis text)) (base_in (after left_parenthesis text)) (IsWithin 2048) IsRegister (offset_within (before left_parenthesis text)) (base_below (after left_parenthesis text))) tt

pub full_address_within : (text : List ℕ) → IfOk (full_address_in text) (λ x. IsWithin 2048 x.0 × IsRegister x.1)
unfolding full_address_in
full_address_within text =
    either_ok (has_byte left_parenthesis text) _ (Err BadOperand) (λ x. IsWithin 2048 x.0 × IsRegister x.1)
    (both_ok (immediate_in (before left_parenthesis text)) (base_in (after left_parenthesis text)) (IsWithin 2048) IsRegister (immediate_within (before left_parenthesis text)) (base_below (after left_parenthesis text))) tt

-- ---- from 0 to above

natural_to : (above : ℕ) (n : Number) → IfOk (natural above n) (λ x. x ≤ above)
unfolding natural
natural_to above n =
    either_ok n.negative _ _ (λ x. x ≤ above)
    (tested_ok (n.size == 0) 0 RangeOfImmediate (λ x. x ≤ above) (λ e. omega arith))
    (tested_ok (nat_le n.size above) n.size RangeOfImmediate (λ x. x ≤ above) (λ e. leb-true n.size above e))

limited_to : (above : ℕ) (o : Option Number) → IfOk (limited above o) (λ x. x ≤ above)
limited_to above (Some n) = natural_to above n
limited_to above None = tt

pub natural_in_to : (above : ℕ) (text : List ℕ) → IfOk (natural_in above text) (λ x. x ≤ above)
unfolding natural_in
natural_in_to above text = limited_to above (number_in text)

-- ---- the upper 20 bits of a word

lower_half : (m : ℕ) → m ≤ 524288 → IsMultiple 4096 2147483648 (neg_ℤ (pos (m * 4096)))
lower_half zero h = (omega arith, omega arith)
lower_half (suc m) h = by (suc m * 4096) (omega arith) (omega arith) (omega arith)
  where
    by : (k : ℕ) → 0 < k → k ≤ 2147483648 → k % 4096 ≡ 0 → IsMultiple 4096 2147483648 (neg_ℤ (pos k))
    by zero p q r = absurd (omega arith)
    by (suc k) p q r = (omega arith, omega arith)

upper_by : (n : ℕ) → n < 1048576 → (t : Bool) → nat_lt n 524288 ≡ t
    → IsMultiple 4096 2147483648 (cond t (pos (n * 4096)) (neg_ℤ (pos ((1048576 - n) * 4096))))
upper_by n h true e = let k = ltb-true n 524288 e in (omega arith, omega arith)
upper_by n h false e = let k = ltb-false n 524288 e in lower_half (1048576 - n) (omega arith)

pub upper_within : (n : ℕ) → n < 1048576 → IsMultiple 4096 2147483648 (upper n)
upper_within n h = upper_by n h (nat_lt n 524288) refl

pub upper_in_within : (text : List ℕ) → IfOk (upper_in text) (IsMultiple 4096 2147483648)
unfolding upper_in
upper_in_within text =
    read_ok (natural_in 1048575 text) (λ n. Ok (upper n)) (λ n. n ≤ 1048575) (IsMultiple 4096 2147483648)
    (natural_in_to 1048575 text) (λ n h. upper_within n (omega arith))
