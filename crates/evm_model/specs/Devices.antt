-- The devices of a machine: where their registers are, and what accesses and ticks make of them.
use Rattle.std.specs.Prelude.{ℕ, suc, ◌≡◌, ◌<◌, ◌+◌, ◌-◌, ◌*◌, ◌/◌, ◌%◌, ◌==◌, ◌&&◌, List, [], ◌∷◌, Option, Some, None, Bool, nat_le, nat_lt, if◌then◌else◌, slice_get, map}
pub use Rattle.evm_dev.specs.Attached.{Attached, IsDevice}
use Rattle.evm_dev.specs.Rows.{touched, ticked}
use Rattle.evm_dev.specs.Touched.{Touched}
use Rattle.evm_dev.specs.declared.touch.Op.{Op}
use Rattle.evm_model.specs.Lists.{change}
use Rattle.evm_model.specs.Pipes.{raise}
use Rattle.evm_model.specs.State.{Board, Memory, Parts, on_pipe}
use Rattle.evm_model.specs.declared.limits.TheConstants.{DEVICE_BASE, DEVICE_LINE, DEVICE_SPAN, REGISTERS_PER_DEVICE}

-- register r of device i is at this address
pub record IsRegisterAt (i r address : ℕ) : Type 0 where
  pub number : r < REGISTERS_PER_DEVICE
  pub place : address ≡ DEVICE_BASE + DEVICE_SPAN * i + 8 * r

-- the device and the register at an offset from the first one's registers
abbrev pub register_of_offset : ℕ → Option (ℕ × ℕ)
register_of_offset offset =
    if offset % 8 == 0 && nat_lt (offset % DEVICE_SPAN / 8) REGISTERS_PER_DEVICE
    then Some (offset / DEVICE_SPAN, offset % DEVICE_SPAN / 8)
    else None

-- the numbers of the device and of its register at an address
abbrev pub register_at : ℕ → Option (ℕ × ℕ)
register_at address = if nat_le DEVICE_BASE address then register_of_offset (address - DEVICE_BASE) else None

-- ---- an access
-- the line that device i raises, on processor 0
abbrev pub line_if : Bool → ℕ → Option ℕ
line_if raise i = if raise then Some (DEVICE_LINE + i) else None

-- what an access makes: the number that is read (a store reads none, so 0), memory after it, and the line that a device raises by it
pub record Accessed : Type 0 where
  pub number : ℕ
  pub memory : Memory
  pub line : Option ℕ

-- device i has these words, and others have what they had
abbrev pub with_words : ℕ → List ℕ → Memory → Memory
with_words i words m = record m { devices = change (λ device. record device { words = words }) m.devices i }

-- a touch without an answer is no access
abbrev pub answered_by : Option ℕ → ℕ → Touched → Memory → Option Accessed
answered_by None i after m = None
answered_by (Some answer) i after m = Some (record { number = answer; memory = with_words i after.words m; line = line_if after.touch.raise i })

abbrev pub touch_device : Option Attached → ℕ → Op → ℕ → ℕ → Memory → Option Accessed
touch_device None i op r value m = None
touch_device (Some device) i op r value m =
    answered_by (touched device.kind op r value device.words).touch.answer i (touched device.kind op r value device.words) m

abbrev pub touch_register : Option (ℕ × ℕ) → Op → ℕ → Memory → Option Accessed
touch_register None op value m = None
touch_register (Some place) op value m = touch_device (slice_get m.devices place.0) place.0 op place.1 value m

-- the register at an address is touched; None if there is no device, or it lacks the register
unfoldable pub touch : Op → ℕ → ℕ → Memory → Option Accessed
touch op address value m = touch_register (register_at address) op value m

-- ---- lines
-- a line is raised on processor 0, if there is one
abbrev pub raise_line : Option ℕ → Parts → Parts
raise_line None p = p
raise_line (Some l) p = on_pipe 0 (raise l) p

-- ---- a tick
abbrev pub tick_device : Attached → Attached
tick_device device = record device { words = (ticked device.kind device.words).words }

-- the devices, of which the first is device i, raise their lines by their ticks, in the order of their numbers
unfoldable pub raise_by_ticks : ℕ → List Attached → Parts → Parts
raise_by_ticks i [] p = p
raise_by_ticks i (device ∷ devices) p =
    raise_by_ticks (suc i) devices (raise_line (line_if (ticked device.kind device.words).raise i) p)

-- each device ticks
unfoldable pub tick_devices : Board → Board
tick_devices b = record b { memory = record b.memory { devices = map tick_device b.memory.devices }; parts = raise_by_ticks 0 b.memory.devices b.parts }
