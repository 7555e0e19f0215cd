use Rattle.std.proofs.Common.{◌≡◌, length}
use Rattle.gdb_packets.specs.Items.{payload_on, payload_of}
use Rattle.gdb_packets.proofs.item.read_payload.Given as goal

abbrev pub invariant-loop-rest : goal.invariant-loop-rest
invariant-loop-rest l = payload_on l.escape l.payload.items l.rest ≡ payload_of l.body

abbrev pub decreases-loop-rest : goal.decreases-loop-rest
decreases-loop-rest l = length l.rest
