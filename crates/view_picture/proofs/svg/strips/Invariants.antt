use Rattle.std.proofs.Common.{◌≡◌, ◌*◌, drop}
use Rattle.view_timeline.specs.run_marks.Lists.{below}
use Rattle.view_timeline.specs.Strips.{strip_at}
use Rattle.view_timeline.specs.declared.strips.TheConstants.{STRIP}
use Rattle.view_picture.specs.Boxes.{strip_boxes, with_boxes}
use Rattle.view_picture.proofs.svg.strips.Given as goal

-- the boxes of the strips so far, and the cells behind them
abbrev pub invariant-loop-number : goal.invariant-loop-number
invariant-loop-number l =
    (l.draft ≡ with_boxes (below (λ number. strip_boxes l.picture.timeline.now.cpu_count (strip_at number l.picture.timeline.now.cells.items)) l.number) l.fn.draft)
    × (l.cells ≡ drop (l.number * STRIP) l.picture.timeline.now.cells.items)
