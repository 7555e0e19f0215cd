use Rattle.std.proofs.Common.{refl}
use Rattle.gdb_packets.specs.Framing.{escaped}
use Rattle.gdb_packets.proofs.Escapes.{escaped_none}
use Rattle.gdb_packets.proofs.framing.push_escaped.Goals as goal

pub loop-byte-init : goal.loop-byte-init
unfolding escaped
loop-byte-init c = record { told = escaped_none c.args.out.now.items; sum = refl }
