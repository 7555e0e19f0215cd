use Rattle.std.proofs.Common.{◌≡◌, ◌++◌, take}
use Rattle.evm_text.specs.Written.{pairs}
use Rattle.gdb_packets.proofs.hexadecimal.push_digits.Given as goal

abbrev pub invariant-loop-byte : goal.invariant-loop-byte
invariant-loop-byte l = l.out.items ≡ l.fn.out.items ++ pairs (take l.byte-index l.bytes)
