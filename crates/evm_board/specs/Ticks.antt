-- One device's tick, and the lines that devices raise.
use Rattle.std.specs.Prelude.{ℕ, ◌<◌, Option, Some, None, ⊤}
use Rattle.evm_devs.specs.Bus.{tick_bus}
use Rattle.evm_lines.specs.declared.TheConstants.{LINES}
use Rattle.evm_model.specs.Devices.{line_if, raise_line}
use Rattle.evm_model.specs.State.{Board}

-- a line that there is, if any
abbrev pub IsLineNumber : Option ℕ → Type 0
IsLineNumber None = ⊤
IsLineNumber (Some l) = l < LINES

-- device i has ticked, and its line is raised if it is to
abbrev pub ticked_once : ℕ → Board → Board
ticked_once i b =
    record b { memory = record b.memory { devices = (tick_bus i b.memory.devices).0 }; parts = raise_line (line_if (tick_bus i b.memory.devices).1 i) b.parts }
