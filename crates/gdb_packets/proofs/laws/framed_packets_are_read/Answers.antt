use Rattle.gdb_packets.specs.Framing.{framed}
use Rattle.gdb_packets.proofs.Bodies.{framed-packet, item_at-packet}
use Rattle.gdb_packets.proofs.laws.framed_packets_are_read.Goals as goal

pub returns : goal.returns
returns c payload rest short = let is = framed-packet payload short in (is, item_at-packet payload (framed payload) rest is)
