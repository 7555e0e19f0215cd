-- What is decoded is what the table says.
use Rattle.std.specs.List.{AllByRecursion}
use Rattle.std.proofs.Common.{◌≡◌, ◌↔◌, ◌∙◌, sym, ap, List, [], ◌∷◌, ℕ, ◌+◌, ◌*◌, ◌/◌, ◌%◌, ◌^◌, ◌<◌, Bool, true, false, cond, arith, refl, subst, IfSome, Option, Some, None}
use Rattle.std.specs.Prelude.{◌==◌, if◌then◌else◌}
use Rattle.std.specs.Option.{option_map}
use Rattle.std.specs.Int.Bits.{bit_and}
use Rattle.std.proofs.lemmas.Bool.Decides.{Decides-eqb}
use Rattle.evm_isa.specs.Fields.{opcode_of, funct3_of}
use Rattle.evm_isa.specs.Table.{branch_bits, load_bits, store_bits, immediate_bits, shift_bits, shift_mask, register_bits, word_bits, Row}
use Rattle.evm_isa.specs.Decoded.{first_with, branches, loads, stores, immediates, shifts, word_shifts, registers, words, jalr_at, branch_at, load_at, store_at, immediate_or_shift, immediate_form, shift_form, immediate_at, word_immediate_at, register_inst_at, word_inst_at, fence_at, system_at, decoded}
use Rattle.evm_isa.proofs.Masks.{under_opcode, under_funct3, opcode_under, funct3_under, funct6_under, funct7_under}
use Rattle.evm_isa.specs.declared.inst.Inst.{Inst}
use Rattle.evm_isa.specs.declared.inst.Inst.TheVariants.{Lui, Auipc, Jal, Jalr, Branch, Load, Store, Immediate, Shift, Register, Word, Fence, Ecall, Ebreak}
use Rattle.evm_isa.specs.declared.inst.BranchOp.{BranchOp}
use Rattle.evm_isa.specs.declared.inst.BranchOp.TheVariants.{Beq, Bne, Blt, Bge, Bltu, Bgeu}
use Rattle.evm_isa.specs.declared.inst.LoadOp.{LoadOp}
use Rattle.evm_isa.specs.declared.inst.LoadOp.TheVariants.{Lb, Lh, Lw, Ld, Lbu, Lhu, Lwu}
use Rattle.evm_isa.specs.declared.inst.StoreOp.{StoreOp}
use Rattle.evm_isa.specs.declared.inst.StoreOp.TheVariants.{Sb, Sh, Sw, Sd}
use Rattle.evm_isa.specs.declared.inst.ImmediateOp.{ImmediateOp}
use Rattle.evm_isa.specs.declared.inst.ImmediateOp.TheVariants.{Addi, Slti, Sltiu, Xori, Ori, Andi, Addiw}
use Rattle.evm_isa.specs.declared.inst.ShiftOp.{ShiftOp}
use Rattle.evm_isa.specs.declared.inst.ShiftOp.TheVariants.{Slli, Srli, Srai, Slliw, Srliw, Sraiw}
use Rattle.evm_isa.specs.declared.inst.RegisterOp.{RegisterOp}
use Rattle.evm_isa.specs.declared.inst.RegisterOp.TheVariants.{Add, Sub, Sll, Slt, Sltu, Xor, Srl, Sra, Or, And}
use Rattle.evm_isa.specs.declared.inst.WordOp.{WordOp}
use Rattle.evm_isa.specs.declared.inst.WordOp.TheVariants.{Addw, Subw, Sllw, Srlw, Sraw}

-- ---- choices

choose : {A : Type 0} (P : A → Type 0) (b : Bool) (x y : A) → (b ≡ true → P x) → P y → P (cond b x y)
choose P true x y f g = f refl
choose P false x y f g = g

if_same : {A : Type 0} (P : A → Type 0) (m n : ℕ) (x y : A) → (m ≡ n → P x) → P y → P (if m == n then x else y)
if_same P m n x y f g = choose P (m == n) x y (λ e. f ((Decides-eqb m n).0 e)) g

mapped : {A B : Type 0} (Q : A → Type 0) (P : B → Type 0) (g : A → B) (r : Option A) → IfSome r Q → ((o : A) → Q o → P (g o)) → IfSome (option_map g r) P
mapped Q P g None q f = tt
mapped Q P g (Some o) q f = f o q

-- ---- a mnemonic that is found by its bits has them

has_bits : {O : Type 0} (bits : O → ℕ) (b : ℕ) (ops : List O) → IfSome (first_with bits b ops) (λ op. bits op ≡ b)
has_bits bits b [] = tt
has_bits bits b (op ∷ ops) = if_same (λ r. IfSome r (λ op. bits op ≡ b)) (bits op) b _ _ (λ e. e) (has_bits bits b ops)

-- ---- what is found in an opcode fits its row

-- an instruction that stands at the word, if there is one
abbrev Stands : ℕ → Option Inst → Type 0
Stands w r = IfSome r (λ i. Row i w)

jalr_stands : (w : ℕ) → opcode_of w ≡ 0x67 → Stands w (jalr_at w)
unfolding jalr_at Row
jalr_stands w e = if_same (Stands w) (funct3_of w) 0 _ _ (λ f. (omega (arith, under_funct3 w), refl, refl, refl)) tt

branch_stands : (w : ℕ) → Stands w (branch_at w)
unfolding branch_at Row
branch_stands w = mapped (λ o. branch_bits o ≡ bit_and w 0x0000707f) (λ i. Row i w) _ (first_with branch_bits (bit_and w 0x0000707f) branches) (has_bits branch_bits (bit_and w 0x0000707f) branches) (λ o q. (sym q, refl, refl, refl))

load_stands : (w : ℕ) → Stands w (load_at w)
unfolding load_at Row
load_stands w = mapped (λ o. load_bits o ≡ bit_and w 0x0000707f) (λ i. Row i w) _ (first_with load_bits (bit_and w 0x0000707f) loads) (has_bits load_bits (bit_and w 0x0000707f) loads) (λ o q. (sym q, refl, refl, refl))

store_stands : (w : ℕ) → Stands w (store_at w)
unfolding store_at Row
store_stands w = mapped (λ o. store_bits o ≡ bit_and w 0x0000707f) (λ i. Row i w) _ (first_with store_bits (bit_and w 0x0000707f) stores) (has_bits store_bits (bit_and w 0x0000707f) stores) (λ o q. (sym q, refl, refl, refl))

either : (w : ℕ) (r : Option ImmediateOp) (s : Option ShiftOp) → IfSome r (λ o. Row (immediate_form w o) w) → IfSome s (λ o. Row (shift_form w o) w) → Stands w (immediate_or_shift w r s)
either w (Some o) s p q = p
either w None None p q = tt
either w None (Some o) p q = q

weaker : {A : Type 0} (P Q : A → Type 0) (r : Option A) → IfSome r P → ((o : A) → P o → Q o) → IfSome r Q
weaker P Q None p f = tt
weaker P Q (Some o) p f = f o p

-- a shift of a list whose mask is this
shifts_fit : (mask b : ℕ) (ops : List ShiftOp) → AllByRecursion (λ op. shift_mask op ≡ mask) ops → IfSome (first_with shift_bits b ops) (λ op. (shift_mask op ≡ mask) × (b ≡ shift_bits op))
shifts_fit mask b [] h = tt
shifts_fit mask b (op ∷ ops) h = if_same (λ r. IfSome r (λ op. (shift_mask op ≡ mask) × (b ≡ shift_bits op))) (shift_bits op) b _ _ (λ e. (h.0, sym e)) (shifts_fit mask b ops h.1)

immediate_fits : (w : ℕ) → IfSome (first_with immediate_bits (bit_and w 0x0000707f) immediates) (λ o. Row (immediate_form w o) w)
unfolding Row
immediate_fits w = weaker (λ o. immediate_bits o ≡ bit_and w 0x0000707f) (λ o. Row (immediate_form w o) w) (first_with immediate_bits (bit_and w 0x0000707f) immediates) (has_bits immediate_bits (bit_and w 0x0000707f) immediates) (λ o q. (sym q, refl, refl, refl))

shift_fits : (w mask : ℕ) (ops : List ShiftOp) → AllByRecursion (λ op. shift_mask op ≡ mask) ops → IfSome (first_with shift_bits (bit_and w mask) ops) (λ o. Row (shift_form w o) w)
unfolding Row
shift_fits w mask ops h = weaker (λ o. (shift_mask o ≡ mask) × (bit_and w mask ≡ shift_bits o)) (λ o. Row (shift_form w o) w) (first_with shift_bits (bit_and w mask) ops) (shifts_fit mask (bit_and w mask) ops h) (λ o q. (rw q.0 q.1, refl, refl, refl))

immediate_stands : (w : ℕ) → Stands w (immediate_at w)
unfolding immediate_at
immediate_stands w = either w _ _ (immediate_fits w) (shift_fits w 0xfc00707f shifts (refl, (refl, (refl, tt))))

word_immediate_stands : (w : ℕ) → Stands w (word_immediate_at w)
unfolding word_immediate_at
word_immediate_stands w = either w _ _ (immediate_fits w) (shift_fits w 0xfe00707f word_shifts (refl, (refl, (refl, tt))))

register_stands : (w : ℕ) → Stands w (register_inst_at w)
unfolding register_inst_at Row
register_stands w = mapped (λ o. register_bits o ≡ bit_and w 0xfe00707f) (λ i. Row i w) _ (first_with register_bits (bit_and w 0xfe00707f) registers) (has_bits register_bits (bit_and w 0xfe00707f) registers) (λ o q. (sym q, refl, refl, refl))

word_stands : (w : ℕ) → Stands w (word_inst_at w)
unfolding word_inst_at Row
word_stands w = mapped (λ o. word_bits o ≡ bit_and w 0xfe00707f) (λ i. Row i w) _ (first_with word_bits (bit_and w 0xfe00707f) words) (has_bits word_bits (bit_and w 0xfe00707f) words) (λ o q. (sym q, refl, refl, refl))

fence_stands : (w : ℕ) → opcode_of w ≡ 0x0f → Stands w (fence_at w)
unfolding fence_at Row
fence_stands w e = if_same (Stands w) (funct3_of w) 0 _ _ (λ f. (omega (arith, under_funct3 w), refl, refl, refl)) tt

system_stands : (w : ℕ) → Stands w (system_at w)
unfolding system_at Row
system_stands w = if_same (Stands w) w 0x73 _ _ (λ e. e) (if_same (Stands w) w 0x100073 _ _ (λ e. e) tt)

pub decoded_sound : (w : ℕ) → Stands w (decoded w)
unfolding decoded Row
decoded_sound w =
    if_same (Stands w) (opcode_of w) 0x37 _ _ (λ e. (omega (arith, under_opcode w), refl, refl))
    (if_same (Stands w) (opcode_of w) 0x17 _ _ (λ e. (omega (arith, under_opcode w), refl, refl))
    (if_same (Stands w) (opcode_of w) 0x6f _ _ (λ e. (omega (arith, under_opcode w), refl, refl))
    (if_same (Stands w) (opcode_of w) 0x67 _ _ (jalr_stands w)
    (if_same (Stands w) (opcode_of w) 0x63 _ _ (λ e. branch_stands w)
    (if_same (Stands w) (opcode_of w) 0x03 _ _ (λ e. load_stands w)
    (if_same (Stands w) (opcode_of w) 0x23 _ _ (λ e. store_stands w)
    (if_same (Stands w) (opcode_of w) 0x13 _ _ (λ e. immediate_stands w)
    (if_same (Stands w) (opcode_of w) 0x33 _ _ (λ e. register_stands w)
    (if_same (Stands w) (opcode_of w) 0x1b _ _ (λ e. word_immediate_stands w)
    (if_same (Stands w) (opcode_of w) 0x3b _ _ (λ e. word_stands w)
    (if_same (Stands w) (opcode_of w) 0x0f _ _ (fence_stands w)
    (if_same (Stands w) (opcode_of w) 0x73 _ _ (λ e. system_stands w) tt))))))))))))

-- ---- each mnemonic is found by its bits

branch_found : (o : BranchOp) → (branch_bits o % 2 ^ 7 ≡ 0x63) × (first_with branch_bits (branch_bits o) branches ≡ Some o)
branch_found Beq = (refl, refl)
branch_found Bne = (refl, refl)
branch_found Blt = (refl, refl)
branch_found Bge = (refl, refl)
branch_found Bltu = (refl, refl)
branch_found Bgeu = (refl, refl)

load_found : (o : LoadOp) → (load_bits o % 2 ^ 7 ≡ 0x03) × (first_with load_bits (load_bits o) loads ≡ Some o)
load_found Lb = (refl, refl)
load_found Lh = (refl, refl)
load_found Lw = (refl, refl)
load_found Ld = (refl, refl)
load_found Lbu = (refl, refl)
load_found Lhu = (refl, refl)
load_found Lwu = (refl, refl)

store_found : (o : StoreOp) → (store_bits o % 2 ^ 7 ≡ 0x23) × (first_with store_bits (store_bits o) stores ≡ Some o)
store_found Sb = (refl, refl)
store_found Sh = (refl, refl)
store_found Sw = (refl, refl)
store_found Sd = (refl, refl)

register_found : (o : RegisterOp) → (register_bits o % 2 ^ 7 ≡ 0x33) × (first_with register_bits (register_bits o) registers ≡ Some o)
register_found Add = (refl, refl)
register_found Sub = (refl, refl)
register_found Sll = (refl, refl)
register_found Slt = (refl, refl)
register_found Sltu = (refl, refl)
register_found Xor = (refl, refl)
register_found Srl = (refl, refl)
register_found Sra = (refl, refl)
register_found Or = (refl, refl)
register_found And = (refl, refl)

word_found : (o : WordOp) → (word_bits o % 2 ^ 7 ≡ 0x3b) × (first_with word_bits (word_bits o) words ≡ Some o)
word_found Addw = (refl, refl)
word_found Subw = (refl, refl)
word_found Sllw = (refl, refl)
word_found Srlw = (refl, refl)
word_found Sraw = (refl, refl)

-- ---- what fits a row is found

-- opcode and funct3 of a word, under their mask
low : (w o f : ℕ) → w % 2 ^ 7 ≡ o → w / 2 ^ 12 % 2 ^ 3 ≡ f → bit_and w 0x0000707f ≡ o + 2 ^ 12 * f
low w o f a b = under_funct3 w ∙ ap (λ x. x + 2 ^ 12 * (w / 2 ^ 12 % 2 ^ 3)) a ∙ ap (λ x. o + 2 ^ 12 * x) b

immediate_of_table : (o : ImmediateOp) (w : ℕ) → opcode_of w ≡ immediate_bits o % 2 ^ 7 → bit_and w 0x0000707f ≡ immediate_bits o → decoded w ≡ Some (immediate_form w o)
unfolding decoded immediate_at word_immediate_at
immediate_of_table Addi w f e = rw (f, e) refl
immediate_of_table Slti w f e = rw (f, e) refl
immediate_of_table Sltiu w f e = rw (f, e) refl
immediate_of_table Xori w f e = rw (f, e) refl
immediate_of_table Ori w f e = rw (f, e) refl
immediate_of_table Andi w f e = rw (f, e) refl
immediate_of_table Addiw w f e = rw (f, e) refl

shift_of_table : (o : ShiftOp) (w : ℕ) → w < 2 ^ 32 → bit_and w (shift_mask o) ≡ shift_bits o → decoded w ≡ Some (shift_form w o)
unfolding decoded immediate_at word_immediate_at
shift_of_table Slli w h e = let f = funct6_under w (shift_bits Slli) h e in rw (f.0, low w _ _ f.0 f.1, e) refl
shift_of_table Srli w h e = let f = funct6_under w (shift_bits Srli) h e in rw (f.0, low w _ _ f.0 f.1, e) refl
shift_of_table Srai w h e = let f = funct6_under w (shift_bits Srai) h e in rw (f.0, low w _ _ f.0 f.1, e) refl
shift_of_table Slliw w h e = let f = funct7_under w (shift_bits Slliw) h e in rw (f.0, low w _ _ f.0 f.1, e) refl
shift_of_table Srliw w h e = let f = funct7_under w (shift_bits Srliw) h e in rw (f.0, low w _ _ f.0 f.1, e) refl
shift_of_table Sraiw w h e = let f = funct7_under w (shift_bits Sraiw) h e in rw (f.0, low w _ _ f.0 f.1, e) refl

pub decoded_complete : (i : Inst) (w : ℕ) → w < 2 ^ 32 → Row i w → decoded w ≡ Some i
unfolding decoded Row jalr_at branch_at load_at store_at register_inst_at word_inst_at fence_at system_at
decoded_complete (Lui d i) w h r = let e = opcode_under w 0x37 r.0 in rw (e, r.1, r.2) refl
decoded_complete (Auipc d i) w h r = let e = opcode_under w 0x17 r.0 in rw (e, r.1, r.2) refl
decoded_complete (Jal d i) w h r = let e = opcode_under w 0x6f r.0 in rw (e, r.1, r.2) refl
decoded_complete (Jalr d a i) w h r = let f = funct3_under w 0x67 r.0 in rw (f.0, f.1, r.1, r.2, r.3) refl
decoded_complete (Branch o a b i) w h r = let f = funct3_under w (branch_bits o) r.0 in rw (f.0, (branch_found o).0, r.0, (branch_found o).1, r.1, r.2, r.3) refl
decoded_complete (Load o d a i) w h r = let f = funct3_under w (load_bits o) r.0 in rw (f.0, (load_found o).0, r.0, (load_found o).1, r.1, r.2, r.3) refl
decoded_complete (Store o a b i) w h r = let f = funct3_under w (store_bits o) r.0 in rw (f.0, (store_found o).0, r.0, (store_found o).1, r.1, r.2, r.3) refl
decoded_complete (Immediate o d a i) w h r = rw (immediate_of_table o w (funct3_under w (immediate_bits o) r.0).0 r.0, r.1, r.2, r.3) refl
decoded_complete (Shift o d a n) w h r = rw (shift_of_table o w h r.0, r.1, r.2, r.3) refl
decoded_complete (Register o d a b) w h r = let f = funct7_under w (register_bits o) h r.0 in rw (f.0, (register_found o).0, r.0, (register_found o).1, r.1, r.2, r.3) refl
decoded_complete (Word o d a b) w h r = let f = funct7_under w (word_bits o) h r.0 in rw (f.0, (word_found o).0, r.0, (word_found o).1, r.1, r.2, r.3) refl
decoded_complete (Fence d a n) w h r = let f = funct3_under w 0x0f r.0 in rw (f.0, f.1, r.1, r.2, r.3) refl
decoded_complete Ecall w h r = rw r refl
decoded_complete Ebreak w h r = rw r refl

-- The table, for every word and every instruction.
pub decoded_row : (w : ℕ) (i : Inst) → w < 2 ^ 32 → (decoded w ≡ Some i) ↔ Row i w
decoded_row w i h = (λ e. subst (Stands w) e (decoded_sound w), decoded_complete i w h)
