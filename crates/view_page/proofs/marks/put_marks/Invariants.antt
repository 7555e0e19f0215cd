use Rattle.std.proofs.Common.{◌≡◌, ◌++◌, take, flat_map}
use Rattle.view_page.specs.Entries.{mark_numbers}
use Rattle.view_page.proofs.marks.put_marks.Given as goal

-- the marks so far were appended
abbrev pub invariant-loop-mark : goal.invariant-loop-mark
invariant-loop-mark l = l.row.items ≡ l.fn.row.items ++ flat_map mark_numbers (take l.mark-index l.marks)
