-- the symbols from here on decide
use Rattle.std.proofs.Common.{◌≡◌, drop}
use Rattle.std.specs.List.{find}
use Rattle.text_symbols.specs.Nearest.{is_named}
use Rattle.text_symbols.proofs.nearest.value_of.Given as goal

abbrev pub invariant-loop-symbol : goal.invariant-loop-symbol
invariant-loop-symbol l = find (is_named l.name) l.symbols ≡ find (is_named l.name) (drop l.symbol-index l.symbols)
