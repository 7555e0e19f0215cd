-- What a contract sees of the output so far.
use Rattle.evm_asm.specs.declared.output.Output.{Output}
use Rattle.evm_asm.specs.Programs.{Spelled}

abbrev pub view : Output → Spelled
view out = record { lines = out.lines.items; text_bytes = out.text_bytes.items; data_bytes = out.data_bytes.items }
