use Rattle.std.proofs.Common.{◌≡◌, take}
use Rattle.gdb_packets.specs.Framing.{checksum}
use Rattle.gdb_packets.proofs.item.checksum.Given as goal

abbrev pub invariant-loop-byte : goal.invariant-loop-byte
invariant-loop-byte l = l.sum ≡ checksum (take l.byte-index l.bytes)
