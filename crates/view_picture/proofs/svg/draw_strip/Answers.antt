use Rattle.std.proofs.Common.{ap, ◌∙◌}
use Rattle.evm_model.specs.declared.limits.TheConstants.{PROCESSOR_LIMIT}
use Rattle.view_picture.specs.Boxes.{lane_boxes, with_boxes}
use Rattle.view_picture.proofs.BoxLemmas.{lanes-begin, lanes-more}
use Rattle.view_picture.proofs.svg.draw_strip.Goals as goal

pub loop-cpu-init : goal.loop-cpu-init
loop-cpu-init c =
    let cells = c.args.strip.now.cells.now in
    lanes-begin (lane_boxes PROCESSOR_LIMIT cells) (λ cpu. lane_boxes cpu cells) c.args.draft c.in_ok-draft-3.draft
    (c.in_ok-draft-3.ensures ∙ ap (λ d. with_boxes (lane_boxes PROCESSOR_LIMIT cells) d) (c.in_ok-draft-2.ensures ∙ c.in_ok-draft.ensures))

pub loop-cpu-preserved : goal.loop-cpu-preserved
loop-cpu-preserved c =
    let cells = c.args.strip.now.cells.now in
    lanes-more (lane_boxes PROCESSOR_LIMIT cells) (λ cpu. lane_boxes cpu cells) c.loop-cpu.cpu c.args.draft c.loop-cpu.draft c.in_ok-draft-4.draft c.loop-cpu.invariant
    c.in_ok-draft-4.ensures
