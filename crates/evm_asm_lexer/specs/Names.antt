-- The names of the language, each with what it stands for: registers, mnemonics, pseudo instructions, directives.
use Rattle.std.specs.Prelude.{◌≡◌, ℕ, Bool, true, not, ◌&&◌, List, [], ◌∷◌, ◌++◌, map, Option, Some, None, if◌then◌else◌, codes}
use Rattle.std.specs.List.{list_any}
use Rattle.std.specs.Str.{bytes_eq}
use Rattle.evm_isa.specs.declared.inst.BranchOp.{BranchOp}
use Rattle.evm_isa.specs.declared.inst.BranchOp.TheVariants as branch
use Rattle.evm_isa.specs.declared.inst.ImmediateOp.{ImmediateOp}
use Rattle.evm_isa.specs.declared.inst.ImmediateOp.TheVariants as immediate
use Rattle.evm_isa.specs.declared.inst.LoadOp.{LoadOp}
use Rattle.evm_isa.specs.declared.inst.LoadOp.TheVariants as load
use Rattle.evm_isa.specs.declared.inst.RegisterOp.{RegisterOp}
use Rattle.evm_isa.specs.declared.inst.RegisterOp.TheVariants as register
use Rattle.evm_isa.specs.declared.inst.ShiftOp.{ShiftOp}
use Rattle.evm_isa.specs.declared.inst.ShiftOp.TheVariants as shift
use Rattle.evm_isa.specs.declared.inst.StoreOp.{StoreOp}
use Rattle.evm_isa.specs.declared.inst.StoreOp.TheVariants as store
use Rattle.evm_isa.specs.declared.inst.WordOp.{WordOp}
use Rattle.evm_isa.specs.declared.inst.WordOp.TheVariants as words
use Rattle.evm_asm_lexer.specs.declared.mnemonic.BareOp.{BareOp}
use Rattle.evm_asm_lexer.specs.declared.mnemonic.BareOp.TheVariants as bare
use Rattle.evm_asm_lexer.specs.declared.mnemonic.UnaryOp.{UnaryOp}
use Rattle.evm_asm_lexer.specs.declared.mnemonic.UnaryOp.TheVariants as unary
use Rattle.evm_asm_lexer.specs.declared.mnemonic.Section.TheVariants as section
use Rattle.evm_asm_lexer.specs.declared.mnemonic.DataWidth.TheVariants as width
use Rattle.evm_asm_lexer.specs.declared.mnemonic.Mnemonic.{Mnemonic}
use Rattle.evm_asm_lexer.specs.declared.mnemonic.Mnemonic.TheVariants.{Register, Word, Immediate, Shift, Load, Store, Branch, Bare, Unary, BranchSwapped, BranchZero, ZeroBranch, Lui, Auipc, Jal, Jalr, Jump, JumpRegister, LoadImmediate, LoadAddress, Section, Numbers, Space, Align, Global}

-- what the first entry of that name has
abbrev pub named : {A : Type 0} → List (List ℕ × A) → List ℕ → Option A
named [] name = None
named (entry ∷ entries) name = if bytes_eq name entry.0 then Some entry.1 else named entries name

unfoldable pub fixed_registers : List (List ℕ × ℕ)
fixed_registers =
    (codes "zero", 0) ∷ (codes "ra", 1) ∷ (codes "sp", 2) ∷ (codes "gp", 3) ∷ (codes "tp", 4) ∷
    (codes "fp", 8) ∷ []

unfoldable pub argument_registers : List (List ℕ × ℕ)
argument_registers =
    (codes "a0", 10) ∷ (codes "a1", 11) ∷ (codes "a2", 12) ∷ (codes "a3", 13) ∷ (codes "a4", 14) ∷
    (codes "a5", 15) ∷ (codes "a6", 16) ∷ (codes "a7", 17) ∷ []

unfoldable pub saved_registers : List (List ℕ × ℕ)
saved_registers =
    (codes "s0", 8) ∷ (codes "s1", 9) ∷ (codes "s2", 18) ∷ (codes "s3", 19) ∷ (codes "s4", 20) ∷
    (codes "s5", 21) ∷ (codes "s6", 22) ∷ (codes "s7", 23) ∷ (codes "s8", 24) ∷ (codes "s9", 25) ∷
    (codes "s10", 26) ∷ (codes "s11", 27) ∷ []

unfoldable pub temporary_registers : List (List ℕ × ℕ)
temporary_registers =
    (codes "t0", 5) ∷ (codes "t1", 6) ∷ (codes "t2", 7) ∷ (codes "t3", 28) ∷ (codes "t4", 29) ∷
    (codes "t5", 30) ∷ (codes "t6", 31) ∷ []

unfoldable pub registers_to_7 : List (List ℕ × ℕ)
registers_to_7 =
    (codes "x0", 0) ∷ (codes "x1", 1) ∷ (codes "x2", 2) ∷ (codes "x3", 3) ∷ (codes "x4", 4) ∷ (codes "x5", 5) ∷
    (codes "x6", 6) ∷ (codes "x7", 7) ∷ []

unfoldable pub registers_to_15 : List (List ℕ × ℕ)
registers_to_15 =
    (codes "x8", 8) ∷ (codes "x9", 9) ∷ (codes "x10", 10) ∷ (codes "x11", 11) ∷ (codes "x12", 12) ∷
    (codes "x13", 13) ∷ (codes "x14", 14) ∷ (codes "x15", 15) ∷ []

unfoldable pub registers_to_23 : List (List ℕ × ℕ)
registers_to_23 =
    (codes "x16", 16) ∷ (codes "x17", 17) ∷ (codes "x18", 18) ∷ (codes "x19", 19) ∷ (codes "x20", 20) ∷
    (codes "x21", 21) ∷ (codes "x22", 22) ∷ (codes "x23", 23) ∷ []

unfoldable pub registers_to_31 : List (List ℕ × ℕ)
registers_to_31 =
    (codes "x24", 24) ∷ (codes "x25", 25) ∷ (codes "x26", 26) ∷ (codes "x27", 27) ∷ (codes "x28", 28) ∷
    (codes "x29", 29) ∷ (codes "x30", 30) ∷ (codes "x31", 31) ∷ []

-- the names of the registers, each with its number
unfoldable pub register_names : List (List ℕ × ℕ)
register_names =
    fixed_registers ++ argument_registers ++ saved_registers ++ temporary_registers
    ++ registers_to_7 ++ registers_to_15 ++ registers_to_23 ++ registers_to_31

-- the number of the register of this name
unfoldable pub register_named : List ℕ → Option ℕ
register_named name = named register_names name

unfoldable pub register_ops : List (List ℕ × RegisterOp)
register_ops =
    (codes "add", register.Add) ∷ (codes "sub", register.Sub) ∷ (codes "sll", register.Sll) ∷
    (codes "slt", register.Slt) ∷ (codes "sltu", register.Sltu) ∷ (codes "xor", register.Xor) ∷
    (codes "srl", register.Srl) ∷ (codes "sra", register.Sra) ∷ (codes "or", register.Or) ∷
    (codes "and", register.And) ∷ []

unfoldable pub word_ops : List (List ℕ × WordOp)
word_ops =
    (codes "addw", words.Addw) ∷ (codes "subw", words.Subw) ∷ (codes "sllw", words.Sllw) ∷
    (codes "srlw", words.Srlw) ∷ (codes "sraw", words.Sraw) ∷ []

unfoldable pub immediate_ops : List (List ℕ × ImmediateOp)
immediate_ops =
    (codes "addi", immediate.Addi) ∷ (codes "slti", immediate.Slti) ∷ (codes "sltiu", immediate.Sltiu) ∷
    (codes "xori", immediate.Xori) ∷ (codes "ori", immediate.Ori) ∷ (codes "andi", immediate.Andi) ∷
    (codes "addiw", immediate.Addiw) ∷ []

unfoldable pub shift_ops : List (List ℕ × ShiftOp)
shift_ops =
    (codes "slli", shift.Slli) ∷ (codes "srli", shift.Srli) ∷ (codes "srai", shift.Srai) ∷
    (codes "slliw", shift.Slliw) ∷ (codes "srliw", shift.Srliw) ∷ (codes "sraiw", shift.Sraiw) ∷ []

unfoldable pub load_ops : List (List ℕ × LoadOp)
load_ops =
    (codes "lb", load.Lb) ∷ (codes "lh", load.Lh) ∷ (codes "lw", load.Lw) ∷ (codes "ld", load.Ld) ∷
    (codes "lbu", load.Lbu) ∷ (codes "lhu", load.Lhu) ∷ (codes "lwu", load.Lwu) ∷ []

unfoldable pub store_ops : List (List ℕ × StoreOp)
store_ops =
    (codes "sb", store.Sb) ∷ (codes "sh", store.Sh) ∷ (codes "sw", store.Sw) ∷ (codes "sd", store.Sd) ∷ []

unfoldable pub branch_ops : List (List ℕ × BranchOp)
branch_ops =
    (codes "beq", branch.Beq) ∷ (codes "bne", branch.Bne) ∷ (codes "blt", branch.Blt) ∷
    (codes "bge", branch.Bge) ∷ (codes "bltu", branch.Bltu) ∷ (codes "bgeu", branch.Bgeu) ∷ []

unfoldable pub bare_ops : List (List ℕ × BareOp)
bare_ops =
    (codes "fence", bare.Fence) ∷ (codes "ecall", bare.Ecall) ∷ (codes "ebreak", bare.Ebreak) ∷
    (codes "nop", bare.Nop) ∷ (codes "ret", bare.Ret) ∷ []

unfoldable pub unary_ops : List (List ℕ × UnaryOp)
unary_ops =
    (codes "mv", unary.Mv) ∷ (codes "not", unary.Not) ∷ (codes "neg", unary.Neg) ∷ (codes "negw", unary.Negw) ∷
    (codes "sext.w", unary.SextW) ∷ (codes "seqz", unary.Seqz) ∷ (codes "snez", unary.Snez) ∷
    (codes "sltz", unary.Sltz) ∷ (codes "sgtz", unary.Sgtz) ∷ []

unfoldable pub branch_pseudos : List (List ℕ × Mnemonic)
branch_pseudos =
    (codes "bgt", BranchSwapped branch.Blt) ∷ (codes "ble", BranchSwapped branch.Bge) ∷
    (codes "bgtu", BranchSwapped branch.Bltu) ∷ (codes "bleu", BranchSwapped branch.Bgeu) ∷
    (codes "beqz", BranchZero branch.Beq) ∷ (codes "bnez", BranchZero branch.Bne) ∷
    (codes "bltz", BranchZero branch.Blt) ∷ (codes "bgez", BranchZero branch.Bge) ∷
    (codes "bgtz", ZeroBranch branch.Blt) ∷ (codes "blez", ZeroBranch branch.Bge) ∷ []

unfoldable pub jumps_and_loads : List (List ℕ × Mnemonic)
jumps_and_loads =
    (codes "lui", Lui) ∷ (codes "auipc", Auipc) ∷ (codes "jal", Jal) ∷ (codes "jalr", Jalr) ∷
    (codes "j", Jump) ∷ (codes "jr", JumpRegister) ∷ (codes "li", LoadImmediate) ∷ (codes "la", LoadAddress) ∷ []

unfoldable pub directives : List (List ℕ × Mnemonic)
directives =
    (codes ".text", Section section.Text) ∷ (codes ".data", Section section.Data) ∷
    (codes ".byte", Numbers width.Byte) ∷ (codes ".word", Numbers width.Word) ∷
    (codes ".dword", Numbers width.Dword) ∷ (codes ".space", Space) ∷ (codes ".align", Align) ∷
    (codes ".globl", Global) ∷ (codes ".global", Global) ∷ []

-- a table of operations, as one of mnemonics
abbrev pub each_as : {A : Type 0} → (A → Mnemonic) → List (List ℕ × A) → List (List ℕ × Mnemonic)
each_as f entries = map (λ e. (e.0, f e.1)) entries

-- the names of the mnemonics, pseudo instructions and directives, each with what it is
unfoldable pub mnemonics : List (List ℕ × Mnemonic)
mnemonics =
    each_as Register register_ops ++ each_as Word word_ops ++ each_as Immediate immediate_ops ++ each_as Shift shift_ops
    ++ each_as Load load_ops ++ each_as Store store_ops ++ each_as Branch branch_ops ++ each_as Bare bare_ops
    ++ each_as Unary unary_ops ++ branch_pseudos ++ jumps_and_loads ++ directives

-- what the mnemonic, pseudo instruction or directive of this name is
unfoldable pub mnemonic_named : List ℕ → Option Mnemonic
mnemonic_named name = named mnemonics name

-- Whether no name of a table stands in two of its entries.
abbrev pub no_name_twice : {A : Type 0} → List (List ℕ × A) → Bool
no_name_twice [] = true
no_name_twice (entry ∷ entries) = not (list_any (λ e. bytes_eq e.0 entry.0) entries) && no_name_twice entries

-- Each register and each mnemonic stands in its table by a name that is no other's.
abbrev pub NoNameStandsTwice : Type 0
NoNameStandsTwice = (no_name_twice register_names ≡ true) × (no_name_twice mnemonics ≡ true)
