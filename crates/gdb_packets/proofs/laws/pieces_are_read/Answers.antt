use Rattle.gdb_packets.proofs.Pieces.{item_at-more}
use Rattle.gdb_packets.proofs.laws.pieces_are_read.Goals as goal

pub returns : goal.returns
returns c item rest bytes more e = item_at-more item rest bytes more e
