use Rattle.std.proofs.Common.{◌≡◌, ◌++◌, take}
use Rattle.gdb_packets.specs.Framing.{escaped, checksum}
use Rattle.gdb_packets.proofs.framing.push_escaped.Given as goal

abbrev pub invariant-loop-byte : goal.invariant-loop-byte
invariant-loop-byte l = record {
  told : l.out.items ≡ l.fn.out.items ++ escaped (take l.byte-index l.payload);
  sum : l.sum ≡ checksum (escaped (take l.byte-index l.payload));
}
