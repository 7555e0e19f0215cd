-- Which events raise a line.
use Rattle.std.specs.Prelude.{◌≢◌, ◌+◌, ◌<◌, ◌≤◌, ◌⊎◌, ℕ, List, Bool, false, ◌==◌, ◌&&◌, length}
use Rattle.evm_model.specs.Devices.{Attached}
use Rattle.evm_model.specs.Event.{Event}
use Rattle.evm_model.specs.declared.event.Event.TheVariants.{Tick, Raise, Bell}

-- the event raises line l on processor c: a tick the timer's on every one, a raise and a bell the line that they name
abbrev pub raises : ℕ → ℕ → Event → Bool
raises c l Tick = l == 0
raises c l (Raise d m) = d == c && m == l
raises c l (Bell d m) = d == c && m == l
raises c l _ = false

-- line l of processor c is that of no device: a device's are on processor 0, that of device i is line 2 + i
abbrev pub NoDevicesLine : ℕ → ℕ → List Attached → Type 0
NoDevicesLine c l devices = (c ≢ 0) ⊎ (l < 2) ⊎ (2 + length devices ≤ l)
