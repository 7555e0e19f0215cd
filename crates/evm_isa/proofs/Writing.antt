-- What is encoded is what the table says.
use Rattle.std.proofs.Common.{◌≡◌, ◌↔◌, ℕ, ◌+◌, ◌*◌, ◌/◌, ◌%◌, ◌^◌, ◌<◌, Bool, true, false, ◌&&◌, arith, refl, ap, sym, ◌∙◌, lit<, Option, Some}
use Rattle.std.specs.Prelude.{ℤ}
use Rattle.std.specs.Int.Bits.{bit_and}
use Rattle.std.proofs.lemmas.Option.{same_Some}
use Rattle.std.proofs.lemmas.Bool.Decides.{nat_tests}
use Rattle.evm_isa.specs.Fields.{sign_extended, rd_of, rs1_of, rs2_of, shamt_of, fence_of}
use Rattle.evm_isa.specs.Table.{branch_bits, load_bits, store_bits, immediate_bits, shift_bits, shift_mask, register_bits, word_bits, Row}
use Rattle.evm_isa.specs.Encoded.{i_placed, s_placed, b_placed, j_placed, i_bits, s_bits, b_bits, u_bits, j_bits, is_register, amounts, amount_placed, fence_placed, bits_joined, encoded}
use Rattle.evm_isa.proofs.Bits.{map_parts, i_sound, i_found, s_sound, s_found, b_sound, b_found, u_sound, u_found, j_sound, j_found}
use Rattle.evm_isa.proofs.Packing.{i_gathered, s_gathered, b_gathered, u_gathered, j_gathered, Bits3, Bits7, i_word, s_word, b_word, u_word, j_word, r_word, shift_word, word_shift_word, i_sum, s_sum, b_sum, u_sum, j_sum, r_sum, shift_sum, word_shift_sum}
use Rattle.evm_isa.specs.declared.inst.Inst.{Inst}
use Rattle.evm_isa.specs.declared.inst.Inst.TheVariants.{Lui, Auipc, Jal, Jalr, Branch, Load, Store, Immediate, Shift, Register, Word, Fence, Ecall, Ebreak}
use Rattle.evm_isa.specs.declared.inst.BranchOp.{BranchOp}
use Rattle.evm_isa.specs.declared.inst.BranchOp.TheVariants.{Beq, Bne, Blt, Bge, Bltu, Bgeu}
use Rattle.evm_isa.specs.declared.inst.LoadOp.{LoadOp}
use Rattle.evm_isa.specs.declared.inst.LoadOp.TheVariants.{Lb, Lh, Lw, Ld, Lbu, Lhu, Lwu}
use Rattle.evm_isa.specs.declared.inst.StoreOp.{StoreOp}
use Rattle.evm_isa.specs.declared.inst.StoreOp.TheVariants.{Sb, Sh, Sw, Sd}
use Rattle.evm_isa.specs.declared.inst.ImmediateOp.{ImmediateOp}
use Rattle.evm_isa.specs.declared.inst.ImmediateOp.TheVariants.{Addi, Slti, Sltiu, Xori, Ori, Andi, Addiw}
use Rattle.evm_isa.specs.declared.inst.ShiftOp.{ShiftOp}
use Rattle.evm_isa.specs.declared.inst.ShiftOp.TheVariants.{Slli, Srli, Srai, Slliw, Srliw, Sraiw}
use Rattle.evm_isa.specs.declared.inst.RegisterOp.{RegisterOp}
use Rattle.evm_isa.specs.declared.inst.RegisterOp.TheVariants.{Add, Sub, Sll, Slt, Sltu, Xor, Srl, Sra, Or, And}
use Rattle.evm_isa.specs.declared.inst.WordOp.{WordOp}
use Rattle.evm_isa.specs.declared.inst.WordOp.TheVariants.{Addw, Subw, Sllw, Srlw, Sraw}

-- ---- a sum that is there

joined_parts : (t : Bool) (n : ℕ) (m : Option ℕ) (w : ℕ) → bits_joined t n m ≡ Some w → (t ≡ true) × (x : ℕ) × (m ≡ Some x) × (w ≡ n + x)
joined_parts false n m w e = absurd (cc)
joined_parts true n m w e = let p = map_parts (λ x. n + x) m w e in (refl, p.0, p.1, p.2)

joined_found : (t : Bool) (n : ℕ) (m : Option ℕ) (x w : ℕ) → t ≡ true → m ≡ Some x → n + x ≡ w → bits_joined t n m ≡ Some w
joined_found t n m x w p q e = rw (p, q, e) refl

one : (a : ℕ) → is_register a ≡ true → a < 32
one a e = grind (arith, nat_tests)

two : (a b : ℕ) → (is_register a && is_register b) ≡ true → (a < 32) × (b < 32)
two a b e = grind (arith, nat_tests)

three : (a b c : ℕ) → (is_register a && is_register b && is_register c) ≡ true → (a < 32) × (b < 32) × (c < 32)
three a b c e = grind (arith, nat_tests)

is_one : (a w k : ℕ) → a ≡ w / k % 2 ^ 5 → is_register a ≡ true
is_one a w k e = grind (arith, nat_tests)

is_two : (a b : ℕ) → is_register a ≡ true → is_register b ≡ true → (is_register a && is_register b) ≡ true
is_two a b p q = rw (p, q) refl

is_three : (a b c : ℕ) → is_register a ≡ true → is_register b ≡ true → is_register c ≡ true → (is_register a && is_register b && is_register c) ≡ true
is_three a b c p q r = rw (p, q, r) refl

amount_parts : (o : ShiftOp) (n x : ℕ) → amount_placed o n ≡ Some x → (n < amounts o) × (x ≡ n * 2 ^ 20)
amount_parts o n x e = grind (arith, nat_tests)

amount_found : (o : ShiftOp) (n : ℕ) → n < amounts o → amount_placed o n ≡ Some (n * 2 ^ 20)
amount_found o n h = grind (arith, nat_tests)

fence_parts : (n x : ℕ) → fence_placed n ≡ Some x → (n < 2 ^ 12) × (x ≡ n * 2 ^ 20)
fence_parts n x e = grind (arith, nat_tests)

fence_found : (n : ℕ) → n < 2 ^ 12 → fence_placed n ≡ Some (n * 2 ^ 20)
fence_found n h = grind (arith, nat_tests)

-- ---- the bits of each mnemonic

branch_three : (o : BranchOp) → Bits3 (branch_bits o) (branch_bits o / 2 ^ 12)
branch_three Beq = record { sum = refl; funct3 = lit< tt }
branch_three Bne = record { sum = refl; funct3 = lit< tt }
branch_three Blt = record { sum = refl; funct3 = lit< tt }
branch_three Bge = record { sum = refl; funct3 = lit< tt }
branch_three Bltu = record { sum = refl; funct3 = lit< tt }
branch_three Bgeu = record { sum = refl; funct3 = lit< tt }

load_three : (o : LoadOp) → Bits3 (load_bits o) (load_bits o / 2 ^ 12)
load_three Lb = record { sum = refl; funct3 = lit< tt }
load_three Lh = record { sum = refl; funct3 = lit< tt }
load_three Lw = record { sum = refl; funct3 = lit< tt }
load_three Ld = record { sum = refl; funct3 = lit< tt }
load_three Lbu = record { sum = refl; funct3 = lit< tt }
load_three Lhu = record { sum = refl; funct3 = lit< tt }
load_three Lwu = record { sum = refl; funct3 = lit< tt }

store_three : (o : StoreOp) → Bits3 (store_bits o) (store_bits o / 2 ^ 12)
store_three Sb = record { sum = refl; funct3 = lit< tt }
store_three Sh = record { sum = refl; funct3 = lit< tt }
store_three Sw = record { sum = refl; funct3 = lit< tt }
store_three Sd = record { sum = refl; funct3 = lit< tt }

immediate_three : (o : ImmediateOp) → Bits3 (immediate_bits o) (immediate_bits o / 2 ^ 12)
immediate_three Addi = record { sum = refl; funct3 = lit< tt }
immediate_three Slti = record { sum = refl; funct3 = lit< tt }
immediate_three Sltiu = record { sum = refl; funct3 = lit< tt }
immediate_three Xori = record { sum = refl; funct3 = lit< tt }
immediate_three Ori = record { sum = refl; funct3 = lit< tt }
immediate_three Andi = record { sum = refl; funct3 = lit< tt }
immediate_three Addiw = record { sum = refl; funct3 = lit< tt }

register_seven : (o : RegisterOp) → Bits7 (register_bits o) (register_bits o / 2 ^ 12 % 2 ^ 3) (register_bits o / 2 ^ 25)
register_seven Add = record { sum = refl; funct3 = lit< tt; funct7 = lit< tt }
register_seven Sub = record { sum = refl; funct3 = lit< tt; funct7 = lit< tt }
register_seven Sll = record { sum = refl; funct3 = lit< tt; funct7 = lit< tt }
register_seven Slt = record { sum = refl; funct3 = lit< tt; funct7 = lit< tt }
register_seven Sltu = record { sum = refl; funct3 = lit< tt; funct7 = lit< tt }
register_seven Xor = record { sum = refl; funct3 = lit< tt; funct7 = lit< tt }
register_seven Srl = record { sum = refl; funct3 = lit< tt; funct7 = lit< tt }
register_seven Sra = record { sum = refl; funct3 = lit< tt; funct7 = lit< tt }
register_seven Or = record { sum = refl; funct3 = lit< tt; funct7 = lit< tt }
register_seven And = record { sum = refl; funct3 = lit< tt; funct7 = lit< tt }

word_seven : (o : WordOp) → Bits7 (word_bits o) (word_bits o / 2 ^ 12 % 2 ^ 3) (word_bits o / 2 ^ 25)
word_seven Addw = record { sum = refl; funct3 = lit< tt; funct7 = lit< tt }
word_seven Subw = record { sum = refl; funct3 = lit< tt; funct7 = lit< tt }
word_seven Sllw = record { sum = refl; funct3 = lit< tt; funct7 = lit< tt }
word_seven Srlw = record { sum = refl; funct3 = lit< tt; funct7 = lit< tt }
word_seven Sraw = record { sum = refl; funct3 = lit< tt; funct7 = lit< tt }

-- the shifts, whose masks differ
shift_fields : (o : ShiftOp) (d a n w : ℕ) → d < 32 → a < 32 → n < amounts o → w ≡ shift_bits o + d * 2 ^ 7 + a * 2 ^ 15 + n * 2 ^ 20 →
    (w < 2 ^ 32) × (bit_and w (shift_mask o) ≡ shift_bits o) × (d ≡ rd_of w) × (a ≡ rs1_of w) × (n ≡ shamt_of w)
shift_fields Slli d a n w = shift_word (shift_bits Slli) 1 0 d a n w (record { sum = refl; funct3 = lit< tt; funct6 = lit< tt })
shift_fields Srli d a n w = shift_word (shift_bits Srli) 5 0 d a n w (record { sum = refl; funct3 = lit< tt; funct6 = lit< tt })
shift_fields Srai d a n w = shift_word (shift_bits Srai) 5 0x10 d a n w (record { sum = refl; funct3 = lit< tt; funct6 = lit< tt })
shift_fields Slliw d a n w = word_shift_word (shift_bits Slliw) 1 0 d a n w (record { sum = refl; funct3 = lit< tt; funct7 = lit< tt })
shift_fields Srliw d a n w = word_shift_word (shift_bits Srliw) 5 0 d a n w (record { sum = refl; funct3 = lit< tt; funct7 = lit< tt })
shift_fields Sraiw d a n w = word_shift_word (shift_bits Sraiw) 5 0x10 d a n w (record { sum = refl; funct3 = lit< tt; funct7 = lit< tt })

shift_adds : (o : ShiftOp) (w : ℕ) → w < 2 ^ 32 → bit_and w (shift_mask o) ≡ shift_bits o →
    (shamt_of w < amounts o) × (shift_bits o + rd_of w * 2 ^ 7 + rs1_of w * 2 ^ 15 + shamt_of w * 2 ^ 20 ≡ w)
shift_adds Slli w h e = (omega arith, shift_sum (shift_bits Slli) w h e)
shift_adds Srli w h e = (omega arith, shift_sum (shift_bits Srli) w h e)
shift_adds Srai w h e = (omega arith, shift_sum (shift_bits Srai) w h e)
shift_adds Slliw w h e = word_shift_sum (shift_bits Slliw) 0 w h refl e
shift_adds Srliw w h e = word_shift_sum (shift_bits Srliw) 0 w h refl e
shift_adds Sraiw w h e = word_shift_sum (shift_bits Sraiw) 0x10 w h refl e

-- ---- what is encoded stands in the table

-- a word of 32 bits that fits the instruction's row
abbrev pub Spells : Inst → ℕ → Type 0
Spells i w = (w < 2 ^ 32) × Row i w

u_spells : (c d : ℕ) (i : ℤ) (w : ℕ) → c < 2 ^ 7 → bits_joined (is_register d) (c + d * 2 ^ 7) (u_bits i) ≡ Some w →
    (w < 2 ^ 32) × (bit_and w 0x7f ≡ c) × (d ≡ rd_of w) × (i ≡ sign_extended (2 ^ 31) (u_gathered w))
u_spells c d i w hc e =
    let p = joined_parts (is_register d) (c + d * 2 ^ 7) (u_bits i) w e in
    let s = u_sound i p.1 p.2 in
    let f = u_word c d p.1 w hc (one d p.0) s.0 s.1 p.3 in
    (f.0, f.1, f.2, s.2 ∙ ap (sign_extended (2 ^ 31)) (sym f.3))

j_spells : (c d : ℕ) (i : ℤ) (w : ℕ) → c < 2 ^ 7 → bits_joined (is_register d) (c + d * 2 ^ 7) (j_bits i) ≡ Some w →
    (w < 2 ^ 32) × (bit_and w 0x7f ≡ c) × (d ≡ rd_of w) × (i ≡ sign_extended (2 ^ 20) (j_gathered w))
j_spells c d i w hc e =
    let p = joined_parts (is_register d) (c + d * 2 ^ 7) (j_bits i) w e in
    let s = j_sound i p.1 p.2 in
    let f = j_word c d s.0 w hc (one d p.0) s.1 s.2 (p.3 ∙ ap (λ x. c + d * 2 ^ 7 + x) s.4) in
    (f.0, f.1, f.2, s.3 ∙ ap (sign_extended (2 ^ 20)) (sym f.3))

i_spells : (c f d a : ℕ) (i : ℤ) (w : ℕ) → Bits3 c f → bits_joined (is_register d && is_register a) (c + d * 2 ^ 7 + a * 2 ^ 15) (i_bits i) ≡ Some w →
    (w < 2 ^ 32) × (bit_and w 0x707f ≡ c) × (d ≡ rd_of w) × (a ≡ rs1_of w) × (i ≡ sign_extended (2 ^ 11) (i_gathered w))
i_spells c f d a i w k e =
    let p = joined_parts (is_register d && is_register a) (c + d * 2 ^ 7 + a * 2 ^ 15) (i_bits i) w e in
    let t = two d a p.0 in
    let s = i_sound i p.1 p.2 in
    let g = i_word c f d a s.0 w k t.0 t.1 s.1 (p.3 ∙ ap (λ x. c + d * 2 ^ 7 + a * 2 ^ 15 + x) s.3) in
    (g.0, g.1, g.2, g.3, s.2 ∙ ap (sign_extended (2 ^ 11)) (sym g.4))

s_spells : (c f a b : ℕ) (i : ℤ) (w : ℕ) → Bits3 c f → bits_joined (is_register a && is_register b) (c + a * 2 ^ 15 + b * 2 ^ 20) (s_bits i) ≡ Some w →
    (w < 2 ^ 32) × (bit_and w 0x707f ≡ c) × (a ≡ rs1_of w) × (b ≡ rs2_of w) × (i ≡ sign_extended (2 ^ 11) (s_gathered w))
s_spells c f a b i w k e =
    let p = joined_parts (is_register a && is_register b) (c + a * 2 ^ 15 + b * 2 ^ 20) (s_bits i) w e in
    let t = two a b p.0 in
    let s = s_sound i p.1 p.2 in
    let g = s_word c f a b s.0 w k t.0 t.1 s.1 (p.3 ∙ ap (λ x. c + a * 2 ^ 15 + b * 2 ^ 20 + x) s.3) in
    (g.0, g.1, g.2, g.3, s.2 ∙ ap (sign_extended (2 ^ 11)) (sym g.4))

b_spells : (c f a b : ℕ) (i : ℤ) (w : ℕ) → Bits3 c f → bits_joined (is_register a && is_register b) (c + a * 2 ^ 15 + b * 2 ^ 20) (b_bits i) ≡ Some w →
    (w < 2 ^ 32) × (bit_and w 0x707f ≡ c) × (a ≡ rs1_of w) × (b ≡ rs2_of w) × (i ≡ sign_extended (2 ^ 12) (b_gathered w))
b_spells c f a b i w k e =
    let p = joined_parts (is_register a && is_register b) (c + a * 2 ^ 15 + b * 2 ^ 20) (b_bits i) w e in
    let t = two a b p.0 in
    let s = b_sound i p.1 p.2 in
    let g = b_word c f a b s.0 w k t.0 t.1 s.1 s.2 (p.3 ∙ ap (λ x. c + a * 2 ^ 15 + b * 2 ^ 20 + x) s.4) in
    (g.0, g.1, g.2, g.3, s.3 ∙ ap (sign_extended (2 ^ 12)) (sym g.4))

r_spells : (c f t d a b w : ℕ) → Bits7 c f t → bits_joined (is_register d && is_register a && is_register b) (c + d * 2 ^ 7 + a * 2 ^ 15) (Some (b * 2 ^ 20)) ≡ Some w →
    (w < 2 ^ 32) × (bit_and w 0xfe00707f ≡ c) × (d ≡ rd_of w) × (a ≡ rs1_of w) × (b ≡ rs2_of w)
r_spells c f t d a b w k e =
    let p = joined_parts (is_register d && is_register a && is_register b) (c + d * 2 ^ 7 + a * 2 ^ 15) (Some (b * 2 ^ 20)) w e in
    let r = three d a b p.0 in
    let x : b * 2 ^ 20 ≡ p.1 = same_Some _ _ p.2 in
    r_word c f t d a b w k r.0 r.1 r.2 (omega arith)

shift_spells : (o : ShiftOp) (d a n w : ℕ) → bits_joined (is_register d && is_register a) (shift_bits o + d * 2 ^ 7 + a * 2 ^ 15) (amount_placed o n) ≡ Some w →
    (w < 2 ^ 32) × (bit_and w (shift_mask o) ≡ shift_bits o) × (d ≡ rd_of w) × (a ≡ rs1_of w) × (n ≡ shamt_of w)
shift_spells o d a n w e =
    let p = joined_parts (is_register d && is_register a) (shift_bits o + d * 2 ^ 7 + a * 2 ^ 15) (amount_placed o n) w e in
    let t = two d a p.0 in
    let s = amount_parts o n p.1 p.2 in
    shift_fields o d a n w t.0 t.1 s.0 (omega arith)

fence_spells : (d a n w : ℕ) → bits_joined (is_register d && is_register a) (0x0f + d * 2 ^ 7 + a * 2 ^ 15) (fence_placed n) ≡ Some w →
    (w < 2 ^ 32) × (bit_and w 0x707f ≡ 0x0f) × (d ≡ rd_of w) × (a ≡ rs1_of w) × (n ≡ fence_of w)
fence_spells d a n w e =
    let p = joined_parts (is_register d && is_register a) (0x0f + d * 2 ^ 7 + a * 2 ^ 15) (fence_placed n) w e in
    let t = two d a p.0 in
    let s = fence_parts n p.1 p.2 in
    let g = i_word 0x0f 0 d a n w (record { sum = refl; funct3 = lit< tt }) t.0 t.1 s.0 (omega arith) in
    (g.0, g.1, g.2, g.3, sym g.4)

zero_three : (c : ℕ) → c < 2 ^ 7 → Bits3 c 0
zero_three c h = record { sum = omega arith; funct3 = lit< tt }

pub encoded_sound : (i : Inst) (w : ℕ) → encoded i ≡ Some w → Spells i w
unfolding encoded Row
encoded_sound (Lui d i) w e = let s = u_spells 0x37 d i w (lit< tt) e in (s.0, (s.1, s.2, s.3))
encoded_sound (Auipc d i) w e = let s = u_spells 0x17 d i w (lit< tt) e in (s.0, (s.1, s.2, s.3))
encoded_sound (Jal d i) w e = let s = j_spells 0x6f d i w (lit< tt) e in (s.0, (s.1, s.2, s.3))
encoded_sound (Jalr d a i) w e = let s = i_spells 0x67 0 d a i w (zero_three 0x67 (lit< tt)) e in (s.0, (s.1, s.2, s.3, s.4))
encoded_sound (Branch o a b i) w e = let s = b_spells (branch_bits o) (branch_bits o / 2 ^ 12) a b i w (branch_three o) e in (s.0, (s.1, s.2, s.3, s.4))
encoded_sound (Load o d a i) w e = let s = i_spells (load_bits o) (load_bits o / 2 ^ 12) d a i w (load_three o) e in (s.0, (s.1, s.2, s.3, s.4))
encoded_sound (Store o a b i) w e = let s = s_spells (store_bits o) (store_bits o / 2 ^ 12) a b i w (store_three o) e in (s.0, (s.1, s.2, s.3, s.4))
encoded_sound (Immediate o d a i) w e = let s = i_spells (immediate_bits o) (immediate_bits o / 2 ^ 12) d a i w (immediate_three o) e in (s.0, (s.1, s.2, s.3, s.4))
encoded_sound (Shift o d a n) w e = let s = shift_spells o d a n w e in (s.0, (s.1, s.2, s.3, s.4))
encoded_sound (Register o d a b) w e = let s = r_spells (register_bits o) (register_bits o / 2 ^ 12 % 2 ^ 3) (register_bits o / 2 ^ 25) d a b w (register_seven o) e in (s.0, (s.1, s.2, s.3, s.4))
encoded_sound (Word o d a b) w e = let s = r_spells (word_bits o) (word_bits o / 2 ^ 12 % 2 ^ 3) (word_bits o / 2 ^ 25) d a b w (word_seven o) e in (s.0, (s.1, s.2, s.3, s.4))
encoded_sound (Fence d a n) w e = let s = fence_spells d a n w e in (s.0, (s.1, s.2, s.3, s.4))
encoded_sound Ecall w e = let x : 0x73 ≡ w = same_Some _ _ e in (omega arith, sym x)
encoded_sound Ebreak w e = let x : 0x100073 ≡ w = same_Some _ _ e in (omega arith, sym x)

-- ---- what stands in the table is encoded

pub encoded_complete : (i : Inst) (w : ℕ) → w < 2 ^ 32 → Row i w → encoded i ≡ Some w
unfolding encoded Row
encoded_complete (Lui d i) w h r =
    joined_found (is_register d) (0x37 + d * 2 ^ 7) (u_bits i) (u_gathered w) w (is_one d w (2 ^ 7) r.1) (u_found (u_gathered w) i (omega arith) (omega arith) r.2) (rw r.1 (u_sum 0x37 w h r.0))
encoded_complete (Auipc d i) w h r =
    joined_found (is_register d) (0x17 + d * 2 ^ 7) (u_bits i) (u_gathered w) w (is_one d w (2 ^ 7) r.1) (u_found (u_gathered w) i (omega arith) (omega arith) r.2) (rw r.1 (u_sum 0x17 w h r.0))
encoded_complete (Jal d i) w h r =
    joined_found (is_register d) (0x6f + d * 2 ^ 7) (j_bits i) (j_placed (j_gathered w)) w (is_one d w (2 ^ 7) r.1) (j_found (j_gathered w) i (omega arith) (omega arith) r.2) (rw r.1 (j_sum 0x6f w h r.0))
encoded_complete (Jalr d a i) w h r =
    joined_found (is_register d && is_register a) (0x67 + d * 2 ^ 7 + a * 2 ^ 15) (i_bits i) (i_placed (i_gathered w)) w (is_two d a (is_one d w (2 ^ 7) r.1) (is_one a w (2 ^ 15) r.2)) (i_found (i_gathered w) i (omega arith) r.3) (rw (r.1, r.2) (i_sum 0x67 w h r.0))
encoded_complete (Branch o a b i) w h r =
    joined_found (is_register a && is_register b) (branch_bits o + a * 2 ^ 15 + b * 2 ^ 20) (b_bits i) (b_placed (b_gathered w)) w (is_two a b (is_one a w (2 ^ 15) r.1) (is_one b w (2 ^ 20) r.2)) (b_found (b_gathered w) i (omega arith) (omega arith) r.3) (rw (r.1, r.2) (b_sum (branch_bits o) w h r.0))
encoded_complete (Load o d a i) w h r =
    joined_found (is_register d && is_register a) (load_bits o + d * 2 ^ 7 + a * 2 ^ 15) (i_bits i) (i_placed (i_gathered w)) w (is_two d a (is_one d w (2 ^ 7) r.1) (is_one a w (2 ^ 15) r.2)) (i_found (i_gathered w) i (omega arith) r.3) (rw (r.1, r.2) (i_sum (load_bits o) w h r.0))
encoded_complete (Store o a b i) w h r =
    joined_found (is_register a && is_register b) (store_bits o + a * 2 ^ 15 + b * 2 ^ 20) (s_bits i) (s_placed (s_gathered w)) w (is_two a b (is_one a w (2 ^ 15) r.1) (is_one b w (2 ^ 20) r.2)) (s_found (s_gathered w) i (omega arith) r.3) (rw (r.1, r.2) (s_sum (store_bits o) w h r.0))
encoded_complete (Immediate o d a i) w h r =
    joined_found (is_register d && is_register a) (immediate_bits o + d * 2 ^ 7 + a * 2 ^ 15) (i_bits i) (i_placed (i_gathered w)) w (is_two d a (is_one d w (2 ^ 7) r.1) (is_one a w (2 ^ 15) r.2)) (i_found (i_gathered w) i (omega arith) r.3) (rw (r.1, r.2) (i_sum (immediate_bits o) w h r.0))
encoded_complete (Shift o d a n) w h r =
    let s = shift_adds o w h r.0 in
    joined_found (is_register d && is_register a) (shift_bits o + d * 2 ^ 7 + a * 2 ^ 15) (amount_placed o n) (n * 2 ^ 20) w (is_two d a (is_one d w (2 ^ 7) r.1) (is_one a w (2 ^ 15) r.2)) (amount_found o n (rw r.3 s.0)) (rw (r.1, r.2, r.3) s.1)
encoded_complete (Register o d a b) w h r =
    joined_found (is_register d && is_register a && is_register b) (register_bits o + d * 2 ^ 7 + a * 2 ^ 15) (Some (b * 2 ^ 20)) (b * 2 ^ 20) w (is_three d a b (is_one d w (2 ^ 7) r.1) (is_one a w (2 ^ 15) r.2) (is_one b w (2 ^ 20) r.3)) refl (rw (r.1, r.2, r.3) (r_sum (register_bits o) w h r.0))
encoded_complete (Word o d a b) w h r =
    joined_found (is_register d && is_register a && is_register b) (word_bits o + d * 2 ^ 7 + a * 2 ^ 15) (Some (b * 2 ^ 20)) (b * 2 ^ 20) w (is_three d a b (is_one d w (2 ^ 7) r.1) (is_one a w (2 ^ 15) r.2) (is_one b w (2 ^ 20) r.3)) refl (rw (r.1, r.2, r.3) (r_sum (word_bits o) w h r.0))
encoded_complete (Fence d a n) w h r =
    joined_found (is_register d && is_register a) (0x0f + d * 2 ^ 7 + a * 2 ^ 15) (fence_placed n) (n * 2 ^ 20) w (is_two d a (is_one d w (2 ^ 7) r.1) (is_one a w (2 ^ 15) r.2)) (fence_found n (omega arith)) (rw (r.1, r.2, r.3) (i_sum 0x0f w h r.0))
encoded_complete Ecall w h r = rw r refl
encoded_complete Ebreak w h r = rw r refl

-- The table, for every instruction and every word.
pub encoded_row : (i : Inst) (w : ℕ) → w < 2 ^ 32 → (encoded i ≡ Some w) ↔ Row i w
encoded_row i w h = (λ e. (encoded_sound i w e).1, encoded_complete i w h)
