use Rattle.std.proofs.Common.{◌≡◌, ◌++◌}
use Rattle.evm_model.specs.declared.limits.TheConstants.{PROCESSOR_LIMIT}
use Rattle.view_timeline.specs.run_marks.Lists.{below}
use Rattle.view_picture.specs.Boxes.{lane_boxes, with_boxes}
use Rattle.view_picture.proofs.svg.draw_strip.Given as goal

-- the boxes of the lanes so far
abbrev pub invariant-loop-cpu : goal.invariant-loop-cpu
invariant-loop-cpu l = l.draft ≡ with_boxes (lane_boxes PROCESSOR_LIMIT l.strip.cells.now ++ below (λ cpu. lane_boxes cpu l.strip.cells.now) l.cpu) l.fn.draft
