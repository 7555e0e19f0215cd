-- The machine with which each run begins.
use Rattle.std.specs.Prelude.{◌≡◌, Ok}
use Rattle.evm_core.specs.Load.{load}
use Rattle.evm_ram.specs.Images.{Contents}
use Rattle.evm_model.specs.Replay.{start, IsReplayOf}
use Rattle.evm_model.specs.State.{State}
use Rattle.evm_model.specs.declared.boot.Boot.{Boot}
use Rattle.evm_devs.specs.Devices.{program_devices}

-- a machine that was booted with the devices of evltool and has an image, and no event yet
abbrev pub Begins : Contents → Boot → State → Type 0
Begins image boot s = load image (start program_devices boot) ≡ Ok s

-- a machine that events have made of one that begins so: it is the replay of its journal
abbrev pub ComesFrom : Contents → Boot → State → Type 0
ComesFrom image boot s = (first : State) × Begins image boot first × IsReplayOf first s
