use Rattle.std.proofs.Common.{◌≡◌, take}
use Rattle.view_picture.specs.Boxes.{lane_boxes, with_boxes}
use Rattle.view_picture.proofs.events.boxes.Given as goal

-- the boxes of the cells so far
abbrev pub invariant-loop-cell : goal.invariant-loop-cell
invariant-loop-cell l = l.draft ≡ with_boxes (lane_boxes l.lane.number (take l.cell-index l.cells)) l.initial.draft
