-- The lines of a session as a script.
use Rattle.std.specs.Prelude.{◌≡◌, List, Some}
use Rattle.evm_ram.specs.Images.{Contents}
use Rattle.evm_model.specs.Devices.{Attached}
use Rattle.evm_diagnostics.specs.evm_text.Lines.{text_lines}
use Rattle.evm_serve.specs.Sitting.{Sitting}
use Rattle.evm_serve.specs.Scripted.{IsScripted, script_machine, script_of}

-- the lines of the text leave the machine
abbrev pub TextIsScript : Type 0
TextIsScript = (devices : List Attached) (image : Contents) (s : Sitting) → IsScripted devices image s
    → script_machine devices image (text_lines (script_of s.lines)) ≡ Some s.machine
