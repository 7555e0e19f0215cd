-- the sections from here on decide
use Rattle.std.proofs.Common.{◌≡◌, ◌-◌}
use Rattle.std.specs.List.{find}
use Rattle.text_symbols.specs.Sections.{is_symbol_table, sections_from}
use Rattle.text_symbols.proofs.sections.symbol_table.Given as goal

abbrev pub invariant-loop-i : goal.invariant-loop-i
invariant-loop-i l = find is_symbol_table (sections_from l.file 0 l.count) ≡ find is_symbol_table (sections_from l.file l.i (l.count - l.i))
