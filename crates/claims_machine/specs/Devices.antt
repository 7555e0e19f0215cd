-- What a step may change of devices.
use Rattle.std.specs.Prelude.{◌≡◌, ◌≢◌, ◌+◌, ℕ, List, Option, Some, None, if◌then◌else◌, slice_get}
use Rattle.evm_dev.specs.Rows.{touched}
use Rattle.evm_dev.specs.Touched.{Touched}
use Rattle.evm_dev.specs.declared.touch.Op.{Op}
use Rattle.evm_dev.specs.declared.touch.Op.TheVariants.{Fetch, Put}
use Rattle.evm_exec.specs.Memory.{width_of_load}
use Rattle.evm_exec.specs.declared.hart.Hart.{Hart}
use Rattle.evm_exec.specs.declared.outcome.Effect.{Effect}
use Rattle.evm_exec.specs.declared.outcome.Effect.TheVariants.{Load, Store}
use Rattle.evm_isa.specs.declared.inst.LoadOp.{LoadOp}
use Rattle.evm_model.specs.Devices.{Attached, register_at}
use Rattle.evm_model.specs.State.{Memory}
use Rattle.evm_ram.specs.declared.width.Width.TheVariants.{Double}
use Rattle.claims_machine.specs.About.{IsAbout}

-- an instruction loads 8 bytes from an address, into whatever register, or stores a value of 8 bytes there
pub data IsAccess (address : ℕ) : Effect → Op → ℕ → Type 0 where
  loads : (op : LoadOp) (rd : ℕ) → width_of_load op ≡ Double → IsAccess address (Load op rd address) Fetch 0
  stores : (value : ℕ) → IsAccess address (Store Double address value) Put value

-- the current task's instruction touches register r of device i, which answers: the device has the words of the register's row, and raises line 2 + i, of processor 0, if the row says so
pub record IsTouched (runs : Option ℕ) (harts : List Hart) (memory : Memory) (devices : List Attached) (line : Option ℕ) : Type 0 where
  pub task : ℕ
  pub hart : Hart
  pub effect : Effect
  pub op : Op
  pub address : ℕ
  pub value : ℕ
  pub i : ℕ
  pub r : ℕ
  pub device : Attached
  pub after : Touched
  pub number : ℕ
  pub does_it : IsAbout runs task hart effect harts memory
  pub accesses : IsAccess address effect op value
  pub place : register_at address ≡ Some (i, r)
  pub there : slice_get memory.devices i ≡ Some device
  pub row : after ≡ touched device.kind op r value device.words
  pub answers : after.touch.answer ≡ Some number
  pub here : slice_get devices i ≡ Some (record device { words = after.words })
  pub others : (j : ℕ) → j ≢ i → slice_get devices j ≡ slice_get memory.devices j
  pub raises : line ≡ (if after.touch.raise then Some (2 + i) else None)

-- the devices stand, and raise nothing; or one is touched
pub data DevicesAfter (runs : Option ℕ) (harts : List Hart) (memory : Memory) (devices : List Attached) : Option ℕ → Type 0 where
  stand : devices ≡ memory.devices → DevicesAfter runs harts memory devices None
  touches : (line : Option ℕ) → IsTouched runs harts memory devices line → DevicesAfter runs harts memory devices line
