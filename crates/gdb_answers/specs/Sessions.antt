-- The machine that a session begins with.
use Rattle.std.specs.Prelude.{ℕ, length}
use Rattle.evm_ram.specs.Images.{Contents}
use Rattle.evm_model.specs.State.{State}
use Rattle.gdb_tape.specs.Tape.{IsFrontOf}

-- events have made it of one that booted with an image and the devices of the programs
abbrev pub IsMadeFrom : Contents → State → Type 0
IsMadeFrom image m = IsFrontOf image m (length m.journal) m
