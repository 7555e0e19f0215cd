-- A mask of the table keeps runs of bits: what stands under it is a sum of fields, each at its place.
use Rattle.std.proofs.Common.{◌≡◌, ℕ, ◌+◌, ◌*◌, ◌/◌, ◌%◌, ◌^◌, ◌<◌, arith, ap, sym, ◌∙◌, lit<}
use Rattle.std.specs.Int.Bits.{bit_and}
use Rattle.std.proofs.lemmas.Nat.{and_mask, and_block, shr_split, mod_below, pow_pos}

-- opcode
pub under_opcode : (w : ℕ) → bit_and w 0x0000007f ≡ w % 2 ^ 7
under_opcode w = and_mask w 7

-- a mask in two parts
parts : (w k m s : ℕ) → s < 2 ^ k → bit_and w (m * 2 ^ k + s) ≡ bit_and (w / 2 ^ k) m * 2 ^ k + bit_and (w % 2 ^ k) s
parts w k m s h = ap (λ x. bit_and x (m * 2 ^ k + s)) (sym (shr_split w k)) ∙ and_block k (w / 2 ^ k) m (w % 2 ^ k) s (mod_below w (2 ^ k) (pow_pos k)) h

-- opcode and funct3
pub under_funct3 : (w : ℕ) → bit_and w 0x0000707f ≡ w % 2 ^ 7 + 2 ^ 12 * (w / 2 ^ 12 % 2 ^ 3)
under_funct3 w = omega (arith, parts w 12 7 0x7f (lit< tt), and_mask (w / 2 ^ 12) 3, and_mask (w % 2 ^ 12) 7)

-- opcode, funct3 and funct7
pub under_funct7 : (w : ℕ) → w < 2 ^ 32 → bit_and w 0xfe00707f ≡ w % 2 ^ 7 + 2 ^ 12 * (w / 2 ^ 12 % 2 ^ 3) + 2 ^ 25 * (w / 2 ^ 25 % 2 ^ 7)
under_funct7 w h = omega (arith, parts w 25 0x7f 0x707f (lit< tt), and_mask (w / 2 ^ 25) 7, under_funct3 (w % 2 ^ 25))

-- opcode, funct3 and funct6
pub under_funct6 : (w : ℕ) → w < 2 ^ 32 → bit_and w 0xfc00707f ≡ w % 2 ^ 7 + 2 ^ 12 * (w / 2 ^ 12 % 2 ^ 3) + 2 ^ 26 * (w / 2 ^ 26 % 2 ^ 6)
under_funct6 w h = omega (arith, parts w 26 0x3f 0x707f (lit< tt), and_mask (w / 2 ^ 26) 6, under_funct3 (w % 2 ^ 26))

-- The fields of a word that fits a row are those of the row's bits.
pub opcode_under : (w b : ℕ) → bit_and w 0x0000007f ≡ b → w % 2 ^ 7 ≡ b
opcode_under w b e = sym (under_opcode w) ∙ e

pub funct3_under : (w b : ℕ) → bit_and w 0x0000707f ≡ b → (w % 2 ^ 7 ≡ b % 2 ^ 7) × (w / 2 ^ 12 % 2 ^ 3 ≡ b / 2 ^ 12)
funct3_under w b e = (omega (arith, e, under_funct3 w), omega (arith, e, under_funct3 w))

pub funct7_under : (w b : ℕ) → w < 2 ^ 32 → bit_and w 0xfe00707f ≡ b → (w % 2 ^ 7 ≡ b % 2 ^ 7) × (w / 2 ^ 12 % 2 ^ 3 ≡ b / 2 ^ 12 % 2 ^ 3) × (w / 2 ^ 25 % 2 ^ 7 ≡ b / 2 ^ 25)
funct7_under w b h e = (omega (arith, e, under_funct7 w h), omega (arith, e, under_funct7 w h), omega (arith, e, under_funct7 w h))

pub funct6_under : (w b : ℕ) → w < 2 ^ 32 → bit_and w 0xfc00707f ≡ b → (w % 2 ^ 7 ≡ b % 2 ^ 7) × (w / 2 ^ 12 % 2 ^ 3 ≡ b / 2 ^ 12 % 2 ^ 3) × (w / 2 ^ 26 % 2 ^ 6 ≡ b / 2 ^ 26)
funct6_under w b h e = (omega (arith, e, under_funct6 w h), omega (arith, e, under_funct6 w h), omega (arith, e, under_funct6 w h))
