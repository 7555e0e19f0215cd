use Rattle.std.proofs.Common.{◌≡◌, ◌<◌, ℕ}
use Rattle.evm_core.specs.Views.{device_word}
use Rattle.hunt_states.proofs.memory.same_devices.Given as goal

abbrev pub invariant-devices : goal.invariant-devices
invariant-devices g l = (j k : ℕ) → j < l.i → device_word j k l.a.board.memory.devices ≡ device_word j k l.b.board.memory.devices
