-- The rows of the instructions that li and la become, by the assembler's arithmetic.
use Rattle.std.proofs.Common.{◌≡◌, ◌∙◌, ℕ, zero, suc, ◌+◌, ◌-◌, ◌*◌, ◌/◌, ◌%◌, ◌<◌, nat_eq, Bool, true, false, cond, nat_lt, List, Option, Some, length, ℤ, pos, negsuc, neg_ℤ, ◌≤ℤ◌, ap, refl, sym, arith, get_or-set_same}
use Rattle.std.specs.Prelude.{slice_index, slice_set}
use Rattle.std.proofs.lemmas.Int.{ints}
use Rattle.std.proofs.lemmas.List.{set-set}
use Rattle.evm_isa.specs.declared.inst.ImmediateOp.TheVariants.{Addi, Addiw}
use Rattle.evm_isa.specs.declared.inst.Inst.TheVariants.{Lui, Auipc, Immediate}
use Rattle.evm_elf.specs.evm_asm.Items.{load_immediate}
use Rattle.evm_elf.specs.evm_asm.Loading.{in_register, low_extended, left_in_register, LoadsImmediate, LoadsAddress}
use Rattle.evm_elf.specs.evm_asm.Places.{is_small, low_word, low_part, high_part, needs_low_part, load_size}
use Rattle.evm_elf.specs.evm_asm.declared.item.Expansion.TheVariants.{Single, Double}
use Rattle.evm_exec.specs.Does.{does}
use Rattle.evm_exec.specs.Numbers.{extended, word}
use Rattle.evm_exec.specs.Registers.{register_of, with_register}
use Rattle.evm_exec.specs.Values.{sum, immediate_value}
use Rattle.evm_exec.specs.declared.hart.Hart.{Hart}
use Rattle.claims_texts.specs.Pseudo.{expansion_after, loaded, LiLeavesItsNumber, LaLeavesItsAddress}

-- a sum with a signed number
same_sum : (a : ℕ) (i : ℤ) → sum a (extended i) ≡ (a + in_register i) % 18446744073709551616
same_sum a (pos n) = omega arith
same_sum a (negsuc n) = omega arith

-- a signed number in 64 bits
same_number : (i : ℤ) → negsuc 2147483647 ≤ℤ i → i ≤ℤ pos 2147483647 → extended i ≡ in_register i
same_number (pos n) p q = omega (arith, ints)
same_number (negsuc n) p q = omega (arith, ints)

same_negative : (m : ℕ) → m < 18446744073709551616 → extended (neg_ℤ (pos m)) ≡ in_register (neg_ℤ (pos m))
same_negative zero h = omega arith
same_negative (suc m) h = omega arith

same_upper : (n : ℕ) → n < 1048576 → (t : Bool)
    → extended (cond t (pos (n * 4096)) (neg_ℤ (pos ((1048576 - n) * 4096)))) ≡ in_register (cond t (pos (n * 4096)) (neg_ℤ (pos ((1048576 - n) * 4096))))
same_upper n h true = omega arith
same_upper n h false = same_negative ((1048576 - n) * 4096) (omega arith)

same_high : (n : ℕ) → extended (high_part n) ≡ in_register (high_part n)
same_high n = same_upper ((n + 2048) / 4096 % 1048576) (omega arith) (nat_lt ((n + 2048) / 4096 % 1048576) 524288)

-- the low 32 bits
low_word_of : (n : ℕ) → n < 4294967296 → (t : Bool) → nat_lt n 2147483648 ≡ t
    → extended (cond t (pos n) (negsuc (4294967296 - suc n))) ≡ cond t n (n + 18446744069414584320)
low_word_of n h true e = refl
low_word_of n h false e = omega arith

same_word : (x : ℕ) → word (x % 18446744073709551616) ≡ low_extended x
same_word x =
    let same : x % 18446744073709551616 % 4294967296 ≡ x % 4294967296 = omega arith in
    ap (λ (n : ℕ). extended (cond (nat_lt n 2147483648) (pos n) (negsuc (4294967296 - suc n)))) same
    ∙ low_word_of (x % 4294967296) (omega arith) (nat_lt (x % 4294967296) 2147483648) refl

-- a second write to a register, of what is made of the first
twice_by : (f : ℕ → ℕ) (regs : List ℕ) (rd a v : ℕ) → rd < length regs → f a ≡ v → (t : Bool)
    → cond t (cond t regs (slice_set regs rd a)) (slice_set (cond t regs (slice_set regs rd a)) rd (f (cond t 0 (slice_index (cond t regs (slice_set regs rd a)) rd))))
    ≡ cond t regs (slice_set regs rd v)
twice_by f regs rd a v h e true = refl
twice_by f regs rd a v h e false =
    set-set regs rd a (f (slice_index (slice_set regs rd a) rd))
    ∙ ap (λ (x : ℕ). slice_set regs rd (f x)) (get_or-set_same regs rd a 0 h)
    ∙ ap (slice_set regs rd) e

twice : (f : ℕ → ℕ) (regs : List ℕ) (rd a v : ℕ) → rd < length regs → f a ≡ v
    → with_register (with_register regs rd a) rd (f (register_of (with_register regs rd a) rd)) ≡ with_register regs rd v
twice f regs rd a v h e = twice_by f regs rd a v h e (nat_eq rd 0)

-- two instructions of four bytes each
farther : (pc : ℕ) → sum (sum pc 4) 4 ≡ sum pc 8
farther pc = omega arith

hart_with : List ℕ → ℕ → Option Hart
hart_with regs pc = Some (record { regs = regs; pc = pc })

upper_then_word : (rd : ℕ) (i j : ℤ) (hart : Hart) (v : ℕ) → rd < length hart.regs → word (sum (extended i) (extended j)) ≡ v
    → expansion_after (Double (Lui rd i) (Immediate Addiw rd rd j)) hart ≡ Some (loaded rd v 8 hart)
unfolding does immediate_value hart_with
upper_then_word rd i j hart v h e =
    ap (λ (regs : List ℕ). hart_with regs (sum (sum hart.pc 4) 4)) (twice (λ (a : ℕ). word (sum a (extended j))) hart.regs rd (extended i) v h e)
    ∙ ap (hart_with (with_register hart.regs rd v)) (farther hart.pc)

upper_then_add : (rd : ℕ) (i j : ℤ) (hart : Hart) (v : ℕ) → rd < length hart.regs → sum (sum hart.pc (extended i)) (extended j) ≡ v
    → expansion_after (Double (Auipc rd i) (Immediate Addi rd rd j)) hart ≡ Some (loaded rd v 8 hart)
unfolding does immediate_value hart_with
upper_then_add rd i j hart v h e =
    ap (λ (regs : List ℕ). hart_with regs (sum (sum hart.pc 4) 4)) (twice (λ (a : ℕ). sum a (extended j)) hart.regs rd (sum hart.pc (extended i)) v h e)
    ∙ ap (hart_with (with_register hart.regs rd v)) (farther hart.pc)

upper_alone : (rd : ℕ) (i : ℤ) (hart : Hart) (v : ℕ) → extended i ≡ v → expansion_after (Single (Lui rd i)) hart ≡ Some (loaded rd v 4 hart)
unfolding does hart_with
upper_alone rd i hart v e = ap (λ (x : ℕ). hart_with (with_register hart.regs rd x) (sum hart.pc 4)) e

small_alone : (rd : ℕ) (i : ℤ) (hart : Hart) (v : ℕ) → sum 0 (extended i) ≡ v → expansion_after (Single (Immediate Addi rd 0 i)) hart ≡ Some (loaded rd v 4 hart)
unfolding does immediate_value hart_with
small_alone rd i hart v e = ap (λ (x : ℕ). hart_with (with_register hart.regs rd x) (sum hart.pc 4)) e

-- li, by what its parts are
number_left : (rd : ℕ) (value hi lo : ℤ) (hart : Hart) → rd < length hart.regs → extended value ≡ in_register value → extended hi ≡ in_register hi → (t u : Bool)
    → left_in_register (cond t (Single (Immediate Addi rd 0 value)) (cond u (Double (Lui rd hi) (Immediate Addiw rd rd lo)) (Single (Lui rd hi)))) hart.pc ≡ in_register value
    → expansion_after (cond t (Single (Immediate Addi rd 0 value)) (cond u (Double (Lui rd hi) (Immediate Addiw rd rd lo)) (Single (Lui rd hi)))) hart
    ≡ Some (loaded rd (extended value) (cond t 4 (cond u 8 4)) hart)
number_left rd value hi lo hart h same high true u e = small_alone rd value hart (extended value) (same_sum 0 value ∙ e ∙ sym same)
number_left rd value hi lo hart h same high false true e =
    upper_then_word rd hi lo hart (extended value) h
    (ap word (same_sum (extended hi) lo)
    ∙ same_word (extended hi + in_register lo)
    ∙ ap (λ (a : ℕ). low_extended (a + in_register lo)) high
    ∙ e
    ∙ sym same)
number_left rd value hi lo hart h same high false false e = upper_alone rd hi hart (extended value) (high ∙ e ∙ sym same)

pub li_leaves_its_number : LoadsImmediate → LiLeavesItsNumber
unfolding load_immediate load_size
li_leaves_its_number law rd value hart h p q =
    number_left rd value (high_part (low_word value)) (low_part (low_word value)) hart h (same_number value p q) (same_high (low_word value))
    (is_small value) (needs_low_part (low_word value)) (law rd hart.pc value p q)

address_left : (rd target : ℕ) (hi lo : ℤ) (hart : Hart) → rd < length hart.regs → extended hi ≡ in_register hi
    → ((hart.pc + in_register hi) % 18446744073709551616 + in_register lo) % 18446744073709551616 ≡ target
    → expansion_after (Double (Auipc rd hi) (Immediate Addi rd rd lo)) hart ≡ Some (loaded rd target 8 hart)
address_left rd target hi lo hart h high e =
    upper_then_add rd hi lo hart target h
    (same_sum (sum hart.pc (extended hi)) lo
    ∙ ap (λ (a : ℕ). ((hart.pc + a) % 18446744073709551616 + in_register lo) % 18446744073709551616) high
    ∙ e)

pub la_leaves_its_address : LoadsAddress → LaLeavesItsAddress
la_leaves_its_address law rd target hart h p q r s =
    let by : ℕ = (target + 4294967296 - hart.pc) % 4294967296 in
    address_left rd target (high_part by) (low_part by) hart h (same_high by) (law rd hart.pc target p q r s)
