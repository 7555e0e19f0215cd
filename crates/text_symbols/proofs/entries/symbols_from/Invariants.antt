-- the symbols so far, and those of the entries from here on
use Rattle.std.proofs.Common.{◌≡◌, ◌+◌, ◌*◌, ◌-◌, ◌++◌}
use Rattle.text_symbols.specs.Entries.{symbols_from}
use Rattle.text_symbols.proofs.entries.symbols_from.Given as goal

abbrev pub invariant-loop-i : goal.invariant-loop-i
invariant-loop-i l = symbols_from l.file l.names l.offset l.count ≡ l.symbols.items ++ symbols_from l.file l.names (l.offset + 24 * l.i) (l.count - l.i)
