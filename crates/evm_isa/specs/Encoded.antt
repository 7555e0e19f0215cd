-- The table read from the instruction's side: the word of an instruction, as a function.
use Rattle.std.specs.Prelude.{ℕ, ℤ, pos, negsuc, ◌+◌, ◌-◌, ◌*◌, ◌/◌, ◌%◌, ◌^◌, Bool, ◌&&◌, nat_lt, Option, Some, None, ◌==◌, if◌then◌else◌}
use Rattle.std.specs.Option.{option_map, option_and_then}
use Rattle.evm_isa.specs.Table.{branch_bits, load_bits, store_bits, immediate_bits, shift_bits, register_bits, word_bits}
use Rattle.evm_isa.specs.declared.inst.Inst.{Inst}
use Rattle.evm_isa.specs.declared.inst.Inst.TheVariants.{Lui, Auipc, Jal, Jalr, Branch, Load, Store, Immediate, Shift, Register, Word, Fence, Ecall, Ebreak}
use Rattle.evm_isa.specs.declared.inst.ShiftOp.{ShiftOp}
use Rattle.evm_isa.specs.declared.inst.ShiftOp.TheVariants.{Slli, Srli, Srai, Slliw, Srliw, Sraiw}

-- The bits of a number in two's complement, where the sign bit has the weight `sign`; None out of range.
abbrev pub twos_complement : ℕ → ℤ → Option ℕ
twos_complement sign (pos n) = if nat_lt n sign then Some n else None
twos_complement sign (negsuc n) = if nat_lt n sign then Some (2 * sign - 1 - n) else None

-- n, where it is a multiple of m
abbrev pub multiple : ℕ → ℕ → Option ℕ
multiple m n = if n % m == 0 then Some n else None

-- ---- the bits of a number in two's complement, at their places in the word

-- at bits 31 to 20
abbrev pub i_placed : ℕ → ℕ
i_placed n = n * 2 ^ 20

-- at bits 31 to 25, and 11 to 7
abbrev pub s_placed : ℕ → ℕ
s_placed n = n / 2 ^ 5 * 2 ^ 25 + n % 2 ^ 5 * 2 ^ 7

-- at bit 31, bit 7, bits 30 to 25, and 11 to 8
abbrev pub b_placed : ℕ → ℕ
b_placed n = n / 2 ^ 12 * 2 ^ 31 + n / 2 ^ 11 % 2 * 2 ^ 7 + n / 2 ^ 5 % 2 ^ 6 * 2 ^ 25 + n / 2 % 2 ^ 4 * 2 ^ 8

-- at bit 31, bits 19 to 12, bit 20, and bits 30 to 21
abbrev pub j_placed : ℕ → ℕ
j_placed n = n / 2 ^ 20 * 2 ^ 31 + n / 2 ^ 12 % 2 ^ 8 * 2 ^ 12 + n / 2 ^ 11 % 2 * 2 ^ 20 + n / 2 % 2 ^ 10 * 2 ^ 21

-- ---- the bits of an immediate in the word, by format; None where it is out of range

unfoldable pub i_bits : ℤ → Option ℕ
i_bits i = option_map i_placed (twos_complement (2 ^ 11) i)

unfoldable pub s_bits : ℤ → Option ℕ
s_bits i = option_map s_placed (twos_complement (2 ^ 11) i)

unfoldable pub b_bits : ℤ → Option ℕ
b_bits i = option_map b_placed (option_and_then (multiple 2) (twos_complement (2 ^ 12) i))

unfoldable pub u_bits : ℤ → Option ℕ
u_bits i = option_and_then (multiple (2 ^ 12)) (twos_complement (2 ^ 31) i)

unfoldable pub j_bits : ℤ → Option ℕ
j_bits i = option_map j_placed (option_and_then (multiple 2) (twos_complement (2 ^ 20) i))

-- ---- a word, where its fields are in range

abbrev pub is_register : ℕ → Bool
is_register r = nat_lt r 32

-- how many amounts a shift has
abbrev pub amounts : ShiftOp → ℕ
amounts Slli = 64
amounts Srli = 64
amounts Srai = 64
amounts Slliw = 32
amounts Srliw = 32
amounts Sraiw = 32

-- at bits 25 to 20
abbrev pub amount_placed : ShiftOp → ℕ → Option ℕ
amount_placed o n = if nat_lt n (amounts o) then Some (n * 2 ^ 20) else None

-- at bits 31 to 20
abbrev pub fence_placed : ℕ → Option ℕ
fence_placed f = if nat_lt f (2 ^ 12) then Some (f * 2 ^ 20) else None

-- the sum of both, where the test is passed
abbrev pub bits_joined : Bool → ℕ → Option ℕ → Option ℕ
bits_joined test n m = if test then option_map (λ x. n + x) m else None

-- The word of an instruction; None where a field is out of range.
unfoldable pub encoded : Inst → Option ℕ
encoded (Lui d i) = bits_joined (is_register d) (0x37 + d * 2 ^ 7) (u_bits i)
encoded (Auipc d i) = bits_joined (is_register d) (0x17 + d * 2 ^ 7) (u_bits i)
encoded (Jal d i) = bits_joined (is_register d) (0x6f + d * 2 ^ 7) (j_bits i)
encoded (Jalr d a i) = bits_joined (is_register d && is_register a) (0x67 + d * 2 ^ 7 + a * 2 ^ 15) (i_bits i)
encoded (Branch o a b i) = bits_joined (is_register a && is_register b) (branch_bits o + a * 2 ^ 15 + b * 2 ^ 20) (b_bits i)
encoded (Load o d a i) = bits_joined (is_register d && is_register a) (load_bits o + d * 2 ^ 7 + a * 2 ^ 15) (i_bits i)
encoded (Store o a b i) = bits_joined (is_register a && is_register b) (store_bits o + a * 2 ^ 15 + b * 2 ^ 20) (s_bits i)
encoded (Immediate o d a i) = bits_joined (is_register d && is_register a) (immediate_bits o + d * 2 ^ 7 + a * 2 ^ 15) (i_bits i)
encoded (Shift o d a n) = bits_joined (is_register d && is_register a) (shift_bits o + d * 2 ^ 7 + a * 2 ^ 15) (amount_placed o n)
encoded (Register o d a b) = bits_joined (is_register d && is_register a && is_register b) (register_bits o + d * 2 ^ 7 + a * 2 ^ 15) (Some (b * 2 ^ 20))
encoded (Word o d a b) = bits_joined (is_register d && is_register a && is_register b) (word_bits o + d * 2 ^ 7 + a * 2 ^ 15) (Some (b * 2 ^ 20))
encoded (Fence d a f) = bits_joined (is_register d && is_register a) (0x0f + d * 2 ^ 7 + a * 2 ^ 15) (fence_placed f)
encoded Ecall = Some 0x00000073
encoded Ebreak = Some 0x00100073
