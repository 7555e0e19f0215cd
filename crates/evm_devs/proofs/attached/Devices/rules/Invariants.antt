use Rattle.std.proofs.Common.{◌≡◌, ◌<◌, ℕ, Some}
use Rattle.std.specs.Prelude.{slice_get}
use Rattle.evm_dev.specs.Attached.{Attached, IsDevice}
use Rattle.evm_devs.proofs.attached.Devices.rules.Given as goal

-- the devices so far
abbrev pub invariant-loop-device : goal.invariant-loop-device
invariant-loop-device g l = (i : ℕ) (device : Attached) → i < l.device-index → slice_get l.self i ≡ Some device → IsDevice device
