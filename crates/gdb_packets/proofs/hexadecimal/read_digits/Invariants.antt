use Rattle.std.proofs.Common.{◌≡◌, length}
use Rattle.gdb_packets.specs.Hexadecimal.{bytes_on, bytes_of_digits}
use Rattle.gdb_packets.proofs.hexadecimal.read_digits.Given as goal

abbrev pub invariant-loop-rest : goal.invariant-loop-rest
invariant-loop-rest l = bytes_on l.bytes.items l.rest ≡ bytes_of_digits l.digits

abbrev pub decreases-loop-rest : goal.decreases-loop-rest
decreases-loop-rest l = length l.rest
