-- The lines of a session, run as a script with the same devices and image: each is done, and the machine is the session's.
use Rattle.std.specs.Prelude.{◌≡◌, List, Some}
use Rattle.evm_ram.specs.Images.{Contents}
use Rattle.evm_model.specs.Devices.{Attached}
use Rattle.claims_texts.specs.Scripts.{machine_left}
use Rattle.evm_serve.specs.RunOptions.{image_options}
use Rattle.evm_serve.specs.Script.{script_report}
use Rattle.evm_serve.specs.declared.ending.Verdict.TheVariants.{Done}
use Rattle.evm_serve.specs.Sitting.{Sitting}
use Rattle.evm_serve.specs.Scripted.{IsScripted, script_of}

abbrev pub IsRunAgain : Type 0
IsRunAgain = (devices : List Attached) (image : Contents) (s : Sitting) → IsScripted devices image s
    → (machine_left (image_options devices image) (script_of s.lines) ≡ Some s.machine)
    × ((script_report (image_options devices image) (script_of s.lines)).verdict ≡ Done)
