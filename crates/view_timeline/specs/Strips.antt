-- Strips of cells that stand side by side.
use Rattle.std.specs.Prelude.{ℕ, ◌==◌, ◌+◌, ◌*◌, ◌/◌, ◌%◌, List, drop, if◌then◌else◌, take}
use Rattle.view_timeline.specs.declared.cells.Cell.{Cell}
use Rattle.view_timeline.specs.declared.strips.TheConstants.{STRIP}

-- the cells of a strip: each cell stands in one
abbrev pub strip_at : ℕ → List Cell → List Cell
strip_at number cells = take STRIP (drop (number * STRIP) cells)

-- how many strips hold a number of cells
abbrev pub strips_of : ℕ → ℕ
strips_of cells = cells / STRIP + (if cells % STRIP == 0 then 0 else 1)
