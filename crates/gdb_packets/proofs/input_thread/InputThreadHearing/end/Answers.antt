use Rattle.gdb_packets.specs.Trusted.{trusted_ended}
use Rattle.gdb_packets.proofs.input_thread.InputThreadHearing.end.Goals as goal

pub returns : goal.returns
returns g c = trusted_ended _ _
