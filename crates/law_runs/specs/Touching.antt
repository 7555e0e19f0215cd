-- What loads, stores and ticks change of memory and of devices.
use Rattle.std.specs.Prelude.{◌≡◌, ℕ, suc, ◌+◌, List, [], ◌∷◌, Option, Some, None, if◌then◌else◌, slice_get, option_map, map}
use Rattle.evm_dev.specs.Rows.{touched, ticked}
use Rattle.evm_dev.specs.Touched.{Touched}
use Rattle.evm_dev.specs.declared.touch.Op.{Op}
use Rattle.evm_dev.specs.declared.touch.Op.TheVariants.{Fetch, Put}
use Rattle.evm_isa.specs.Decoded.{decoded}
use Rattle.evm_isa.specs.declared.inst.Inst.{Inst}
use Rattle.evm_isa.specs.declared.inst.LoadOp.{LoadOp}
use Rattle.evm_exec.specs.Does.{does}
use Rattle.evm_exec.specs.Memory.{width_of_load}
use Rattle.evm_exec.specs.declared.hart.Hart.{Hart}
use Rattle.evm_exec.specs.declared.outcome.Effect.{Effect}
use Rattle.evm_exec.specs.declared.outcome.Effect.TheVariants.{Load, Store}
use Rattle.evm_ram.specs.Ram.{write_at}
use Rattle.evm_ram.specs.declared.width.Width.{Width}
use Rattle.evm_ram.specs.declared.width.Width.TheVariants.{Double}
use Rattle.evm_model.specs.Devices.{Attached, line_if, register_at, tick_device}
use Rattle.evm_model.specs.Memory.{fetch}
use Rattle.evm_model.specs.Pipes.{Pipe, raise}
use Rattle.evm_model.specs.Settle.{current}
use Rattle.evm_model.specs.State.{Board}
use Rattle.evm_model.specs.declared.event.Answer.{Answer}
use Rattle.evm_model.specs.declared.event.Answer.TheVariants.{Ran}
use Rattle.evm_model.specs.declared.limits.TheConstants.{DEVICE_LINE}
use Rattle.law_runs.specs.Places.{OneChanges}

-- a pipe on which the lines of devices were raised that raise theirs by a tick, one after another; the first is device i
unfoldable pub tick_pipe : ℕ → List Attached → Pipe → Pipe
tick_pipe i [] p = p
tick_pipe i (device ∷ devices) p = tick_pipe (suc i) devices (if (ticked device.kind device.words).raise then raise (DEVICE_LINE + i) p else p)

-- the clock goes on by one, each device ticks, the lines of those that raise them by that are raised on processor 0, then line 0 on every processor, and nothing else changes
pub record ClockTicks (old new : Board) : Type 0 where
  pub rest : new ≡ record old { memory = record old.memory { devices = new.memory.devices }; parts = record old.parts { ticks = old.parts.ticks + 1; pipes = new.parts.pipes } }
  pub devices : new.memory.devices ≡ map tick_device old.memory.devices
  pub first : slice_get new.parts.pipes 0 ≡ option_map (λ p. raise 0 (tick_pipe 0 old.memory.devices p)) (slice_get old.parts.pipes 0)
  pub others : (c : ℕ) → (c ≡ 0 → ⊥) → slice_get new.parts.pipes c ≡ option_map (raise 0) (slice_get old.parts.pipes c)

-- ---- a load or a store
-- a store of the current task of c has written
pub record StoreWrites (c : ℕ) (old new : Board) : Type 0 where
  pub task : ℕ
  pub hart : Hart
  pub word : ℕ
  pub inst : Inst
  pub width : Width
  pub address : ℕ
  pub value : ℕ
  pub runs : current c old.parts ≡ Some task
  pub has : slice_get old.parts.harts task ≡ Some hart
  pub fetched : fetch hart.pc old.memory ≡ Some word
  pub decodes : decoded word ≡ Some inst
  pub stores : does inst hart.regs hart.pc ≡ Store width address value
  pub rest : new.memory ≡ record old.memory { ram = new.memory.ram }
  pub ram : write_at old.memory.ram address width value ≡ Some new.memory.ram

-- an access of 8 bytes at an address: a load of any register, or a store
pub data Accesses (address : ℕ) : Effect → Op → ℕ → Type 0 where
  loads : (op : LoadOp) (rd : ℕ) → width_of_load op ≡ Double → Accesses address (Load op rd address) Fetch 0
  stores : (value : ℕ) → Accesses address (Store Double address value) Put value

-- in a step that answers so, the current task of c has touched a register of a device, which answered: the device's words are as the row of the register says, and nothing else of memory changes
pub record DeviceTouched (c : ℕ) (answer : Answer) (line : Option ℕ) (old new : Board) : Type 0 where
  pub task : ℕ
  pub hart : Hart
  pub word : ℕ
  pub inst : Inst
  pub op : Op
  pub address : ℕ
  pub value : ℕ
  pub device : ℕ
  pub register : ℕ
  pub attached : Attached
  pub after : Touched
  pub number : ℕ
  pub runs : current c old.parts ≡ Some task
  pub ran : answer ≡ Ran task
  pub has : slice_get old.parts.harts task ≡ Some hart
  pub fetched : fetch hart.pc old.memory ≡ Some word
  pub decodes : decoded word ≡ Some inst
  pub accesses : Accesses address (does inst hart.regs hart.pc) op value
  pub place : register_at address ≡ Some (device, register)
  pub there : slice_get old.memory.devices device ≡ Some attached
  pub row : after ≡ touched attached.kind op register value attached.words
  pub answers : after.touch.answer ≡ Some number
  pub rest : new.memory ≡ record old.memory { devices = new.memory.devices }
  pub devices : OneChanges device (λ one. record one { words = after.words }) old.memory.devices new.memory.devices
  -- its line is raised if the row says so
  pub raises : line ≡ line_if after.touch.raise device

-- memory stands, or changes by a store into RAM or by a device that is touched, which may raise a line
pub data MemoryChanges (c : ℕ) (answer : Answer) (old new : Board) : Option ℕ → Type 0 where
  stands : new.memory ≡ old.memory → MemoryChanges c answer old new None
  written : StoreWrites c old new → MemoryChanges c answer old new None
  touches : (line : Option ℕ) → DeviceTouched c answer line old new → MemoryChanges c answer old new line
