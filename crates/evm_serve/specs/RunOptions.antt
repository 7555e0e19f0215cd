-- The options of a run.
use Rattle.std.specs.Prelude.{◌≡◌, List, Option, Some, None, ⊤}
use Rattle.evm_ram.specs.Images.{Contents}
pub use Rattle.evm_model.specs.Devices.{Attached}
use Rattle.evm_model.specs.State.{State}

-- the image and the devices that its machine boots with; there may be no image
pub record RunOptions : Type 0 where
  pub image : Option Contents
  pub devices : List Attached

-- devices and an image
abbrev pub image_options : List Attached → Contents → RunOptions
image_options devices image = record { image = Some image; devices = devices }

-- devices, and no image
abbrev pub bare_options : List Attached → RunOptions
bare_options devices = record { image = None; devices = devices }

-- until a machine is booted, its devices are there
abbrev pub HoldsDevices : Option State → Option (List Attached) → List Attached → Type 0
HoldsDevices None held devices = held ≡ Some devices
HoldsDevices (Some s) held devices = ⊤
