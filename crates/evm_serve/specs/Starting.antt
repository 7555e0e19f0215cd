-- The machine that a run begins with: booted with its devices, and with an image in it, if there is one.
use Rattle.std.specs.Prelude.{◌≡◌, Option, Some, None, Result, Ok, Err, false, if◌then◌else◌}
use Rattle.evm_diagnostics.specs.evm_core.Load.{load}
use Rattle.evm_ram.specs.Images.{Contents}
use Rattle.evm_serve.specs.RunOptions.{RunOptions}
use Rattle.evm_serve.specs.Memory.{MemoryRefused}
use Rattle.evm_model.specs.declared.refusal.Refusal.{Refusal}
use Rattle.evm_model.specs.declared.refusal.Refusal.TheVariants.{BadSize, NoMemory}
use Rattle.evm_model.specs.State.{State}
use Rattle.evm_model.specs.Replay.{start, bad_boot}
use Rattle.evm_model.specs.declared.boot.Boot.{Boot}

-- an image in a machine that has had no event, if there is an image
abbrev pub with_image : Option Contents → State → Result State Refusal
with_image None s = Ok s
with_image (Some image) s = load image s

-- the machine of a boot, or why there is none: bad numbers go before what the image is refused for
abbrev pub started : RunOptions → Boot → Result State Refusal
started options boot = if bad_boot boot then Err BadSize else with_image options.image (start options.devices boot)

-- what the code answers is that, unless memory is refused to a good boot
abbrev pub Starts : RunOptions → Boot → Result State Refusal → Type 0
Starts options boot (Ok s) = started options boot ≡ Ok s
Starts options boot (Err NoMemory) = (bad_boot boot ≡ false) × MemoryRefused
Starts options boot (Err refusal) = started options boot ≡ Err refusal
