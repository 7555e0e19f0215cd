-- the bytes from here on decide
use Rattle.std.proofs.Common.{◌≡◌, drop}
use Rattle.text_symbols.specs.Names.{zero_from}
use Rattle.text_symbols.proofs.names.zero_in.Given as goal

abbrev pub invariant-loop-i : goal.invariant-loop-i
invariant-loop-i l = zero_from 0 l.bytes ≡ zero_from l.i (drop l.i l.bytes)
