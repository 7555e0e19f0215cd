-- the bytes from here on decide
use Rattle.std.proofs.Common.{◌≡◌, drop}
use Rattle.evm_serve.specs.Scripted.{is_one_line}
use Rattle.evm_serve.proofs.plain.is_one_line.Given as goal

abbrev pub invariant-loop-byte : goal.invariant-loop-byte
invariant-loop-byte l = is_one_line l.bytes ≡ is_one_line (drop l.byte-index l.bytes)
