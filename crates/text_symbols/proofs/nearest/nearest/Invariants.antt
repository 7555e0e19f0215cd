-- the best of those from here on
use Rattle.std.proofs.Common.{◌≡◌, ◌≤◌, drop, length}
use Rattle.std.specs.Prelude.{option_copied}
use Rattle.text_symbols.specs.Nearest.{passes, nearest}
use Rattle.text_symbols.proofs.nearest.nearest.Given as goal

abbrev pub invariant-loop-i : goal.invariant-loop-i
invariant-loop-i l = record {
  best : option_copied l.best ≡ nearest (passes l.search l.address) (drop l.i l.symbols);
  within : l.i ≤ length l.symbols;
}

abbrev pub decreases-loop-i : goal.decreases-loop-i
decreases-loop-i l = l.i
