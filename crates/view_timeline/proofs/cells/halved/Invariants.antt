use Rattle.std.proofs.Common.{ℕ, ◌<◌, ◌^◌, List, drop}
use Rattle.view_timeline.specs.Rows.{Halves, IsRow, Outline}
use Rattle.view_timeline.proofs.cells.halved.Given as goal

-- what was joined and what is left are the row
abbrev pub invariant-loop-i : goal.invariant-loop-i
invariant-loop-i l = (events : List Outline) (from to : ℕ) → to < 2 ^ 64 → IsRow events from l.fn.cells to → Halves events from (drop l.i l.fn.cells) to l.new.items
