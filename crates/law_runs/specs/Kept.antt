-- What no event changes.
use Rattle.std.specs.Prelude.{◌≡◌, ℕ, ◌≤◌, List, Some, slice_get, length, map}
use Rattle.evm_dev.specs.declared.kind.Kind.{Kind}
use Rattle.evm_exec.specs.declared.hart.Hart.{Hart}
use Rattle.evm_exec.specs.declared.hart.TheConstants.{REGISTERS}
use Rattle.evm_model.specs.Devices.{Attached}
use Rattle.evm_model.specs.Load.{start_loaded}
use Rattle.evm_model.specs.Replay.{start, replay}
use Rattle.evm_model.specs.State.{State, Board}
use Rattle.evm_model.specs.declared.boot.Boot.{Boot}
use Rattle.evm_model.specs.Event.{Event}
use Rattle.evm_model.specs.declared.limits.TheConstants.{TASK_LIMIT}

-- as many registers as a hart has, and x0 is zero
pub record AreRegisters (regs : List ℕ) : Type 0 where
  pub count : length regs ≡ REGISTERS
  pub zero_first : slice_get regs 0 ≡ Some 0

abbrev pub AllHaveRegisters : List Hart → Type 0
AllHaveRegisters harts = (t : ℕ) (hart : Hart) → slice_get harts t ≡ Some hart → AreRegisters hart.regs

-- of which kind each device is
abbrev pub kinds : List Attached → List Kind
kinds devices = map (λ (device : Attached). device.kind) devices

-- as many processors, pipes and bytes of RAM as before, devices of the same kinds, at least as many tasks, a hart for each, and no more of them than there may be; tasks keep their registers
pub record SameSizes (old new : Board) : Type 0 where
  pub processors : length new.parts.processors ≡ length old.parts.processors
  pub pipes : length new.parts.pipes ≡ length old.parts.pipes
  pub ram : length new.memory.ram ≡ length old.memory.ram
  pub devices : kinds new.memory.devices ≡ kinds old.memory.devices
  pub tasks : length old.parts.tasks ≤ length new.parts.tasks
  pub harts : length old.parts.harts ≤ length new.parts.harts
  pub few_tasks : length old.parts.tasks ≤ TASK_LIMIT → length new.parts.tasks ≤ TASK_LIMIT
  pub a_hart_each : length old.parts.harts ≡ length old.parts.tasks → length new.parts.harts ≡ length new.parts.tasks
  pub registers : AllHaveRegisters old.parts.harts → AllHaveRegisters new.parts.harts

-- no list of events changes a size, nor the boot numbers
pub record KeepsSizes (old new : State) : Type 0 where
  pub boot : new.boot ≡ old.boot
  pub sizes : SameSizes old.board new.board

abbrev pub SizesStay : Type 0
SizesStay = (s : State) (events : List Event) → KeepsSizes s (replay s events)

-- as many processors, pipes and bytes as the boot numbers say, devices of these kinds, 1 to 64 tasks, a hart for each, and x0 is zero
pub record IsAsBooted (devices : List Attached) (boot : Boot) (s : State) : Type 0 where
  pub boot_kept : s.boot ≡ boot
  pub processors : length s.board.parts.processors ≡ boot.cpus
  pub pipes : length s.board.parts.pipes ≡ boot.cpus
  pub ram : length s.board.memory.ram ≡ boot.ram
  pub devices_kept : kinds s.board.memory.devices ≡ kinds devices
  pub some_tasks : 1 ≤ length s.board.parts.tasks
  pub few_tasks : length s.board.parts.tasks ≤ TASK_LIMIT
  pub harts : length s.board.parts.harts ≡ length s.board.parts.tasks
  pub registers : AllHaveRegisters s.board.parts.harts

-- from boot on, also where an image was loaded before
abbrev pub StaysAsBooted : Type 0
StaysAsBooted = (devices : List Attached) (boot : Boot) (events : List Event) → IsAsBooted devices boot (replay (start devices boot) events)

abbrev pub StaysAsLoaded : Type 0
StaysAsLoaded = (devices : List Attached) (byte : ℕ → ℕ) (entry : ℕ) (boot : Boot) (events : List Event) → IsAsBooted devices boot (replay (start_loaded devices byte entry boot) events)
