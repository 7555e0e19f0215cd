-- What li and la leave in a hart, by the rows of the instructions that they become.
use Rattle.std.specs.Prelude.{◌≡◌, ◌≢◌, ℕ, ◌+◌, ◌-◌, ◌%◌, ◌<◌, ◌≤◌, List, length, Option, Some, option_and_then, Ok, ℤ, pos, negsuc, ◌≤ℤ◌}
use Rattle.evm_isa.specs.declared.inst.Inst.{Inst}
use Rattle.evm_elf.specs.evm_asm_parser.declared.spot.Spot.{Spot}
use Rattle.evm_elf.specs.evm_asm_parser.declared.statement.Statement.{Statement}
use Rattle.evm_elf.specs.evm_asm_parser.declared.statement.Statement.TheVariants.{LoadImmediate, LoadAddress}
use Rattle.evm_elf.specs.evm_asm.Items.{address, expanded, load_immediate, load_address_by}
use Rattle.evm_elf.specs.evm_asm.Places.{load_size}
use Rattle.evm_elf.specs.evm_asm.Sizes.{Says, address_of_line, size_of_text}
use Rattle.evm_elf.specs.evm_asm.declared.item.Expansion.{Expansion}
use Rattle.evm_elf.specs.evm_asm.declared.item.Expansion.TheVariants.{Empty, Single, Double}
use Rattle.evm_exec.specs.declared.hart.TheConstants.{REGISTERS}
use Rattle.evm_exec.specs.Does.{does, hart_after}
use Rattle.evm_exec.specs.Numbers.{extended}
use Rattle.evm_exec.specs.Registers.{register_of, with_register}
use Rattle.evm_exec.specs.Values.{sum}
use Rattle.evm_exec.specs.declared.hart.Hart.{Hart}

-- a hart after one instruction, if that touches nothing but the hart
abbrev pub instruction_after : Inst → Hart → Option Hart
instruction_after inst hart = hart_after hart (does inst hart.regs hart.pc)

-- a hart after the instructions of a statement, one after the other
abbrev pub expansion_after : Expansion → Hart → Option Hart
expansion_after Empty hart = Some hart
expansion_after (Single i) hart = instruction_after i hart
expansion_after (Double i j) hart = option_and_then (instruction_after j) (instruction_after i hart)

-- the hart with a number in rd and its pc behind the bytes of the instructions; all else is as before
abbrev pub loaded : ℕ → ℕ → ℕ → Hart → Hart
loaded rd number size hart = record { regs = with_register hart.regs rd number; pc = sum hart.pc size }

-- li leaves every 32-bit number, as one of 64 bits
abbrev pub LiLeavesItsNumber : Type 0
LiLeavesItsNumber =
    (rd : ℕ) (value : ℤ) (hart : Hart) → rd < length hart.regs → negsuc 2147483647 ≤ℤ value → value ≤ℤ pos 2147483647
    → expansion_after (load_immediate rd value) hart ≡ Some (loaded rd (extended value) (load_size value) hart)

-- la leaves every address that isn't too far from the pc, from the 32 bits of its distance
abbrev pub LaLeavesItsAddress : Type 0
LaLeavesItsAddress =
    (rd target : ℕ) (hart : Hart) → rd < length hart.regs → hart.pc ≤ target + 2147483648 → target < hart.pc + 2147481600
    → hart.pc < 18446744073709551616 → target < 18446744073709551616
    → expansion_after (load_address_by rd ((target + 4294967296 - hart.pc) % 4294967296)) hart ≡ Some (loaded rd target 8 hart)

-- rd reads the number, each other register what it read before, and the pc is behind the bytes of the instructions
pub record ReadsNumber (rd number size : ℕ) (before after : Hart) : Type 0 where
  pub number_there : register_of after.regs rd ≡ number
  pub others : (n : ℕ) → n ≢ rd → register_of after.regs n ≡ register_of before.regs n
  pub pc : after.pc ≡ (before.pc + size) % 18446744073709551616

-- what the registers of such a hart read, where rd isn't x0
abbrev pub WhatIsLoadedIsRead : Type 0
WhatIsLoadedIsRead =
    (rd number size : ℕ) (hart : Hart) → 0 < rd → rd < length hart.regs → ReadsNumber rd number size hart (loaded rd number size hart)

-- Line n of a source says a statement, which becomes these instructions at the line's address.
pub record Becomes (source : List ℕ) (n : ℕ) (statement : Statement) (expansion : Expansion) : Type 0 where
  pub says : Says source n statement
  pub becomes : expanded (size_of_text source) (address_of_line source n) statement ≡ Ok expansion

-- every li of every source leaves the number that its line says
abbrev pub EachLiLoads : Type 0
EachLiLoads =
    (source : List ℕ) (n rd : ℕ) (value : ℤ) (expansion : Expansion) (hart : Hart) → Becomes source n (LoadImmediate rd value) expansion
    → length hart.regs ≡ REGISTERS → expansion_after expansion hart ≡ Some (loaded rd (extended value) (load_size value) hart)

-- every la of every source leaves the address of the label that its line says, where the pc is at the line
abbrev pub EachLaLoads : Type 0
EachLaLoads =
    (source : List ℕ) (n rd : ℕ) (spot : Spot) (expansion : Expansion) (hart : Hart) → Becomes source n (LoadAddress rd (Some spot)) expansion
    → length hart.regs ≡ REGISTERS → hart.pc ≡ address_of_line source n
    → expansion_after expansion hart ≡ Some (loaded rd (address (size_of_text source) spot) 8 hart)

-- the registers of both are there, and the numbers of li have 32 bits
abbrev pub OperandsAreInRange : Type 0
OperandsAreInRange =
    (source : List ℕ) (n rd : ℕ)
    → ((value : ℤ) → Says source n (LoadImmediate rd value) → (rd < REGISTERS) × (negsuc 2147483647 ≤ℤ value) × (value ≤ℤ pos 2147483647))
    × ((target : Option Spot) → Says source n (LoadAddress rd target) → rd < REGISTERS)
