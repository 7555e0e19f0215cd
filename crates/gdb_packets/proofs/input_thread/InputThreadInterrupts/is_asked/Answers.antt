use Rattle.gdb_packets.specs.Trusted.{trusted_heard}
use Rattle.gdb_packets.proofs.input_thread.InputThreadInterrupts.is_asked.Goals as goal

pub returns : goal.returns
returns g c = trusted_heard _ _
