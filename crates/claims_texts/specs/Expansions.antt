-- What a task does at the li and la of a source, where the words of the program stand in RAM.
use Rattle.std.specs.Prelude.{◌≡◌, ℕ, List, Some, Ok, slice_get, length, All, ℤ}
use Rattle.evm_elf.specs.evm_asm_parser.declared.spot.Spot.{Spot}
use Rattle.evm_elf.specs.evm_asm_parser.declared.statement.Statement.TheVariants.{LoadImmediate, LoadAddress}
use Rattle.evm_elf.specs.evm_asm.Assembled.{Assembled, program_of}
use Rattle.evm_elf.specs.evm_asm.Items.{address}
use Rattle.evm_elf.specs.evm_asm.Places.{load_size}
use Rattle.evm_elf.specs.evm_asm.Sizes.{address_of_line, size_of_text}
use Rattle.evm_elf.specs.evm_asm.declared.item.Expansion.{Expansion}
use Rattle.evm_elf.specs.evm_asm.declared.item.Expansion.TheVariants.{Empty, Single, Double}
use Rattle.evm_exec.specs.declared.hart.TheConstants.{REGISTERS}
use Rattle.evm_exec.specs.Numbers.{extended}
use Rattle.evm_exec.specs.declared.hart.Hart.{Hart}
use Rattle.evm_model.specs.State.{Board, on_hart, on_parts}
use Rattle.claims_texts.specs.Pseudo.{Becomes, loaded}
use Rattle.claims_texts.specs.Running.{HasLine, execute_task}

-- task t of processor c executes as many instructions as a statement becomes
abbrev pub all_executed : Expansion → ℕ → ℕ → Board → Board
all_executed Empty c t b = b
all_executed (Single i) c t b = execute_task c t b
all_executed (Double i j) c t b = execute_task c t (execute_task c t b)

-- the words of a program stand in RAM, and the pc of task t, which has all registers, is at line n of the source
pub record ComesTo (source : List ℕ) (p : Assembled) (n t : ℕ) (hart : Hart) (b : Board) : Type 0 where
  pub assembled : program_of source ≡ Ok p
  pub words : All (HasLine b.memory) p.lines
  pub there : slice_get b.parts.harts t ≡ Some hart
  pub pc : hart.pc ≡ address_of_line source n
  pub registers : length hart.regs ≡ REGISTERS

-- at li the task gets its number, and nothing else of the machine changes
abbrev pub EachLiIsExecuted : Type 0
EachLiIsExecuted =
    (source : List ℕ) (p : Assembled) (n rd : ℕ) (value : ℤ) (expansion : Expansion) → Becomes source n (LoadImmediate rd value) expansion
    → (c t : ℕ) (hart : Hart) (b : Board) → ComesTo source p n t hart b
    → all_executed expansion c t b ≡ on_parts (on_hart t (loaded rd (extended value) (load_size value))) b

-- at la it gets the label's address
abbrev pub EachLaIsExecuted : Type 0
EachLaIsExecuted =
    (source : List ℕ) (p : Assembled) (n rd : ℕ) (spot : Spot) (expansion : Expansion) → Becomes source n (LoadAddress rd (Some spot)) expansion
    → (c t : ℕ) (hart : Hart) (b : Board) → ComesTo source p n t hart b
    → all_executed expansion c t b ≡ on_parts (on_hart t (loaded rd (address (size_of_text source) spot) 8)) b
