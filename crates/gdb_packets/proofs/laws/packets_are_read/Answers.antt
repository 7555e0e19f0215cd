use Rattle.std.proofs.Common.{◌∙◌, ap}
use Rattle.gdb_packets.specs.Items.{item_at}
use Rattle.gdb_packets.proofs.Bodies.{item_at-stands, item_at-packet}
use Rattle.gdb_packets.proofs.laws.packets_are_read.Goals as goal

pub returns : goal.returns
returns c payload rest bytes = (
  item_at-stands payload rest bytes,
  λ h. ap item_at h.2 ∙ item_at-packet payload h.0 rest h.1,
)
