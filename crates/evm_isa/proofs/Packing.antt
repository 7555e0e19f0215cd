-- A word is the sum of its fields at their places, and each field is found there again. c is the mnemonic's bits,
-- f its funct3 and t its funct7.
use Rattle.std.proofs.Common.{◌≡◌, ℕ, ◌+◌, ◌*◌, ◌/◌, ◌%◌, ◌^◌, ◌<◌, arith}
use Rattle.std.specs.Int.Bits.{bit_and}
use Rattle.evm_isa.specs.Fields.{rd_of, rs1_of, rs2_of, shamt_of}
use Rattle.evm_isa.specs.Encoded.{i_placed, s_placed, b_placed, j_placed}
use Rattle.evm_isa.proofs.Masks.{under_opcode, under_funct3, under_funct6, under_funct7}

-- the fields of i, s, b and j, gathered
abbrev pub i_gathered : ℕ → ℕ
i_gathered w = w / 2 ^ 20 % 2 ^ 12

abbrev pub s_gathered : ℕ → ℕ
s_gathered w = w / 2 ^ 25 % 2 ^ 7 * 2 ^ 5 + w / 2 ^ 7 % 2 ^ 5

abbrev pub b_gathered : ℕ → ℕ
b_gathered w = w / 2 ^ 31 % 2 * 2 ^ 12 + w / 2 ^ 7 % 2 * 2 ^ 11 + w / 2 ^ 25 % 2 ^ 6 * 2 ^ 5 + w / 2 ^ 8 % 2 ^ 4 * 2

abbrev pub u_gathered : ℕ → ℕ
u_gathered w = w / 2 ^ 12 % 2 ^ 20 * 2 ^ 12

abbrev pub j_gathered : ℕ → ℕ
j_gathered w = w / 2 ^ 31 % 2 * 2 ^ 20 + w / 2 ^ 12 % 2 ^ 8 * 2 ^ 12 + w / 2 ^ 20 % 2 * 2 ^ 11 + w / 2 ^ 21 % 2 ^ 10 * 2

-- ---- from the fields to the word

pub record Bits3 (c f : ℕ) : Type 0 where
  pub sum : c ≡ c % 2 ^ 7 + 2 ^ 12 * f
  pub funct3 : f < 2 ^ 3

pub i_word : (c f d a n w : ℕ) → Bits3 c f → d < 32 → a < 32 → n < 2 ^ 12 → w ≡ c + d * 2 ^ 7 + a * 2 ^ 15 + i_placed n →
    (w < 2 ^ 32) × (bit_and w 0x707f ≡ c) × (d ≡ rd_of w) × (a ≡ rs1_of w) × (i_gathered w ≡ n)
i_word c f d a n w k hd ha hn e = (omega arith, omega (arith, under_funct3 w), omega arith, omega arith, omega arith)

pub s_word : (c f a b n w : ℕ) → Bits3 c f → a < 32 → b < 32 → n < 2 ^ 12 → w ≡ c + a * 2 ^ 15 + b * 2 ^ 20 + s_placed n →
    (w < 2 ^ 32) × (bit_and w 0x707f ≡ c) × (a ≡ rs1_of w) × (b ≡ rs2_of w) × (s_gathered w ≡ n)
s_word c f a b n w k ha hb hn e = (omega arith, omega (arith, under_funct3 w), omega arith, omega arith, omega arith)

pub b_word : (c f a b n w : ℕ) → Bits3 c f → a < 32 → b < 32 → n < 2 ^ 13 → n % 2 ≡ 0 → w ≡ c + a * 2 ^ 15 + b * 2 ^ 20 + b_placed n →
    (w < 2 ^ 32) × (bit_and w 0x707f ≡ c) × (a ≡ rs1_of w) × (b ≡ rs2_of w) × (b_gathered w ≡ n)
b_word c f a b n w k ha hb hn z e = (omega arith, omega (arith, under_funct3 w), omega arith, omega arith, omega arith)

pub u_word : (c d n w : ℕ) → c < 2 ^ 7 → d < 32 → n < 2 ^ 32 → n % 2 ^ 12 ≡ 0 → w ≡ c + d * 2 ^ 7 + n →
    (w < 2 ^ 32) × (bit_and w 0x7f ≡ c) × (d ≡ rd_of w) × (u_gathered w ≡ n)
u_word c d n w hc hd hn z e = (omega arith, omega (arith, under_opcode w), omega arith, omega arith)

pub j_word : (c d n w : ℕ) → c < 2 ^ 7 → d < 32 → n < 2 ^ 21 → n % 2 ≡ 0 → w ≡ c + d * 2 ^ 7 + j_placed n →
    (w < 2 ^ 32) × (bit_and w 0x7f ≡ c) × (d ≡ rd_of w) × (j_gathered w ≡ n)
j_word c d n w hc hd hn z e = (omega arith, omega (arith, under_opcode w), omega arith, omega arith)

pub record Bits7 (c f t : ℕ) : Type 0 where
  pub sum : c ≡ c % 2 ^ 7 + 2 ^ 12 * f + 2 ^ 25 * t
  pub funct3 : f < 2 ^ 3
  pub funct7 : t < 2 ^ 7

pub r_word : (c f t d a b w : ℕ) → Bits7 c f t → d < 32 → a < 32 → b < 32 → w ≡ c + d * 2 ^ 7 + a * 2 ^ 15 + b * 2 ^ 20 →
    (w < 2 ^ 32) × (bit_and w 0xfe00707f ≡ c) × (d ≡ rd_of w) × (a ≡ rs1_of w) × (b ≡ rs2_of w)
r_word c f t d a b w k hd ha hb e =
    let h : w < 2 ^ 32 = omega arith in (h, omega (arith, under_funct7 w h), omega arith, omega arith, omega arith)

-- the shifts of 32-bit words have a zero above their amount: t is even
pub word_shift_word : (c f t d a n w : ℕ) → Bits7 c f (2 * t) → d < 32 → a < 32 → n < 32 → w ≡ c + d * 2 ^ 7 + a * 2 ^ 15 + n * 2 ^ 20 →
    (w < 2 ^ 32) × (bit_and w 0xfe00707f ≡ c) × (d ≡ rd_of w) × (a ≡ rs1_of w) × (n ≡ shamt_of w)
word_shift_word c f t d a n w k hd ha hn e =
    let h : w < 2 ^ 32 = omega arith in (h, omega (arith, under_funct7 w h), omega arith, omega arith, omega arith)

pub record Bits6 (c f t : ℕ) : Type 0 where
  pub sum : c ≡ c % 2 ^ 7 + 2 ^ 12 * f + 2 ^ 26 * t
  pub funct3 : f < 2 ^ 3
  pub funct6 : t < 2 ^ 6

pub shift_word : (c f t d a n w : ℕ) → Bits6 c f t → d < 32 → a < 32 → n < 64 → w ≡ c + d * 2 ^ 7 + a * 2 ^ 15 + n * 2 ^ 20 →
    (w < 2 ^ 32) × (bit_and w 0xfc00707f ≡ c) × (d ≡ rd_of w) × (a ≡ rs1_of w) × (n ≡ shamt_of w)
shift_word c f t d a n w k hd ha hn e =
    let h : w < 2 ^ 32 = omega arith in (h, omega (arith, under_funct6 w h), omega arith, omega arith, omega arith)

-- ---- from the word to the sum

pub i_sum : (c w : ℕ) → w < 2 ^ 32 → bit_and w 0x707f ≡ c → c + rd_of w * 2 ^ 7 + rs1_of w * 2 ^ 15 + i_placed (i_gathered w) ≡ w
i_sum c w h e = omega (arith, under_funct3 w)

pub s_sum : (c w : ℕ) → w < 2 ^ 32 → bit_and w 0x707f ≡ c → c + rs1_of w * 2 ^ 15 + rs2_of w * 2 ^ 20 + s_placed (s_gathered w) ≡ w
s_sum c w h e = omega (arith, under_funct3 w)

pub b_sum : (c w : ℕ) → w < 2 ^ 32 → bit_and w 0x707f ≡ c → c + rs1_of w * 2 ^ 15 + rs2_of w * 2 ^ 20 + b_placed (b_gathered w) ≡ w
b_sum c w h e = omega (arith, under_funct3 w)

pub u_sum : (c w : ℕ) → w < 2 ^ 32 → bit_and w 0x7f ≡ c → c + rd_of w * 2 ^ 7 + u_gathered w ≡ w
u_sum c w h e = omega (arith, under_opcode w)

pub j_sum : (c w : ℕ) → w < 2 ^ 32 → bit_and w 0x7f ≡ c → c + rd_of w * 2 ^ 7 + j_placed (j_gathered w) ≡ w
j_sum c w h e = omega (arith, under_opcode w)

pub r_sum : (c w : ℕ) → w < 2 ^ 32 → bit_and w 0xfe00707f ≡ c → c + rd_of w * 2 ^ 7 + rs1_of w * 2 ^ 15 + rs2_of w * 2 ^ 20 ≡ w
r_sum c w h e = omega (arith, under_funct7 w h)

pub shift_sum : (c w : ℕ) → w < 2 ^ 32 → bit_and w 0xfc00707f ≡ c → c + rd_of w * 2 ^ 7 + rs1_of w * 2 ^ 15 + shamt_of w * 2 ^ 20 ≡ w
shift_sum c w h e = omega (arith, under_funct6 w h)

pub word_shift_sum : (c t w : ℕ) → w < 2 ^ 32 → c / 2 ^ 25 ≡ 2 * t → bit_and w 0xfe00707f ≡ c → (shamt_of w < 32) × (c + rd_of w * 2 ^ 7 + rs1_of w * 2 ^ 15 + shamt_of w * 2 ^ 20 ≡ w)
word_shift_sum c t w h k e = (omega (arith, under_funct7 w h), omega (arith, under_funct7 w h))
