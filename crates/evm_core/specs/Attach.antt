-- A device in a machine that has had no event.
use Rattle.std.specs.Prelude.{ℕ, ◌==◌, [], ◌∷◌, ◌++◌, nat_le, if◌then◌else◌, length, Option, Some, None, Result, Ok, Err}
use Rattle.evm_model.specs.Devices.{Attached}
use Rattle.evm_model.specs.State.{State, on_memory}
use Rattle.evm_model.specs.declared.limits.TheConstants.{DEVICE_LIMIT}
use Rattle.evm_model.specs.declared.refusal.Refusal.{Refusal}
use Rattle.evm_model.specs.declared.refusal.Refusal.TheVariants.{NoSlot, Started}

-- why a device isn't attached
abbrev pub attach_refusal : State → Option Refusal
attach_refusal s =
    if nat_le DEVICE_LIMIT (length s.board.memory.devices) then Some NoSlot else (if length s.journal == 0 then None else Some Started)

abbrev pub attach_unless : Option Refusal → Attached → State → Result (State × ℕ) Refusal
attach_unless (Some refusal) device s = Err refusal
attach_unless None device s =
    Ok (record s { board = on_memory (λ m. record m { devices = m.devices ++ device ∷ [] }) s.board }, length s.board.memory.devices)

-- a device more in a machine that has had no event, and its number
unfoldable pub attach : Attached → State → Result (State × ℕ) Refusal
attach device s = attach_unless (attach_refusal s) device s
