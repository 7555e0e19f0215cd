-- What loading an assembled program makes of a machine that was booted.
use Rattle.std.specs.Prelude.{◌≡◌, ℕ, ◌<◌, ◌≤◌, List, Some, Result, Ok, Err, false, slice_get, option_map, length, All}
use Rattle.evm_elf.specs.evm_asm.Assembled.{Assembled, program_of}
use Rattle.evm_elf.specs.evm_asm.declared.output.ProgramLine.{ProgramLine}
use Rattle.evm_elf.specs.Files.{image_of_bytes}
use Rattle.evm_ram.specs.Images.{range_start}
use Rattle.evm_ram.specs.Ram.{bytes_at}
use Rattle.evm_model.specs.declared.refusal.Refusal.{Refusal}
use Rattle.evm_model.specs.declared.refusal.Refusal.TheVariants.{BadAddress}
use Rattle.evm_core.specs.Load.{load}
use Rattle.evm_model.specs.Devices.{Attached}
use Rattle.evm_model.specs.Harts.{first_hart}
use Rattle.evm_model.specs.Replay.{bad_boot, start, accept, apply}
use Rattle.evm_model.specs.Settle.{settle_and_nudge}
use Rattle.evm_model.specs.State.{State, Board, on_parts}
use Rattle.evm_model.specs.declared.boot.Boot.{Boot}
use Rattle.evm_model.specs.declared.event.Answer.TheVariants.{Ran}
use Rattle.evm_model.specs.declared.event.Event.TheVariants.{Step}
use Rattle.claims_texts.specs.Running.{HasLine, line_done}

-- the program's bytes stand in RAM from its start on, and each line's word at the line's address; task 0 begins there
pub record HoldsProgram (p : Assembled) (b : Board) : Type 0 where
  pub bytes : bytes_at b.memory.ram range_start (length p.bytes) ≡ Some p.bytes
  pub lines : All (HasLine b.memory) p.lines
  pub begins : option_map (λ hart. hart.pc) (slice_get b.parts.harts 0) ≡ Some range_start

-- a machine is booted with devices, and the program's image loaded into it
abbrev pub booted_with : List Attached → Boot → Assembled → Result State Refusal
booted_with devices boot p = load (image_of_bytes p.bytes) (start devices boot)

-- RAM that is long enough takes the program
abbrev pub LoadsWhereItFits : Type 0
LoadsWhereItFits =
    (source : List ℕ) (p : Assembled) (devices : List Attached) (boot : Boot) → program_of source ≡ Ok p → length p.bytes ≤ boot.ram
    → (s : State) × (booted_with devices boot p ≡ Ok s) × HoldsProgram p s.board

-- RAM that is shorter doesn't
abbrev pub RefusedWhereItDoesNot : Type 0
RefusedWhereItDoesNot =
    (source : List ℕ) (p : Assembled) (devices : List Attached) (boot : Boot) → program_of source ≡ Ok p → boot.ram < length p.bytes
    → booted_with devices boot p ≡ Err BadAddress

-- the first Step of processor 0 does the line that stands at the start of RAM, with the registers of boot
abbrev pub BeginsWithLine : Boot → State → ProgramLine → Type 0
BeginsWithLine boot s l =
    l.address ≡ range_start
    → apply s (Step 0) ≡ Ok (accept (Step 0) (on_parts (settle_and_nudge (Some 0) 0) (line_done l (first_hart boot.ram) 0 0 s.board), Ran 0) s)

abbrev pub AssembledAndRun : Type 0
AssembledAndRun =
    (source : List ℕ) (p : Assembled) (devices : List Attached) (boot : Boot) (s : State) → program_of source ≡ Ok p → bad_boot boot ≡ false
    → booted_with devices boot p ≡ Ok s → All (BeginsWithLine boot s) p.lines
