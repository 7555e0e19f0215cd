-- Accesses that neither RAM nor a device answers, and what a load does whatever its register.
use Rattle.std.specs.Prelude.{◌≡◌, ℕ, Some, None, slice_get}
use Rattle.evm_dev.specs.Rows.{touched}
use Rattle.evm_dev.specs.declared.touch.Op.{Op}
use Rattle.evm_exec.specs.Memory.{width_of_load}
use Rattle.evm_exec.specs.declared.outcome.Effect.TheVariants.{Load, Store}
use Rattle.evm_isa.specs.declared.inst.LoadOp.{LoadOp}
use Rattle.evm_ram.specs.declared.width.Width.{Width}
use Rattle.evm_ram.specs.declared.width.Width.TheVariants.{Double}
use Rattle.evm_model.specs.Devices.{Accessed, Attached, register_at, touch}
use Rattle.evm_model.specs.Instructions.{fault, finish}
use Rattle.evm_model.specs.Memory.{access_device, read, write}
use Rattle.evm_model.specs.State.{Board, Memory, on_parts}
use Rattle.evm_model.specs.declared.fault.Fault.TheVariants.{Load as Bad_load, Store as Bad_store}

-- they are faults, by which memory stands
pub record Faults (c t : ℕ) (b : Board) : Type 0 where
  pub load : (op : LoadOp) (rd address : ℕ) → read address (width_of_load op) b.memory ≡ None → finish (Load op rd address) c t b ≡ on_parts (fault c t Bad_load) b
  pub store : (width : Width) (address value : ℕ) → write address width value b.memory ≡ None → finish (Store width address value) c t b ≡ on_parts (fault c t Bad_store) b

abbrev pub UnansweredFaults : Type 0
UnansweredFaults = (c t : ℕ) (b : Board) → Faults c t b

-- a device is accessed by 8 bytes alone; no register, no device, and a row without an answer are no access
pub record AnswersNone (op : Op) (address value : ℕ) (m : Memory) : Type 0 where
  pub narrow : (width : Width) → (width ≡ Double → ⊥) → access_device op width address value m ≡ None
  pub no_register : register_at address ≡ None → touch op address value m ≡ None
  pub no_device : (i r : ℕ) → register_at address ≡ Some (i, r) → slice_get m.devices i ≡ None → touch op address value m ≡ None
  pub no_answer : (i r : ℕ) (device : Attached) → register_at address ≡ Some (i, r) → slice_get m.devices i ≡ Some device → (touched device.kind op r value device.words).touch.answer ≡ None → touch op address value m ≡ None

abbrev pub WhoAnswersNone : Type 0
WhoAnswersNone = (op : Op) (address value : ℕ) (m : Memory) → AnswersNone op address value m

-- a load that is answered leaves memory as the access did, whatever its register
abbrev pub LoadsTouch : Type 0
LoadsTouch = (op : LoadOp) (rd address c t : ℕ) (b : Board) (access : Accessed) → read address (width_of_load op) b.memory ≡ Some access → (finish (Load op rd address) c t b).memory ≡ access.memory
