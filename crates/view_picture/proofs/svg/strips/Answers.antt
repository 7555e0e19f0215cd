use Rattle.view_timeline.specs.Strips.{strip_at}
use Rattle.view_picture.specs.Boxes.{strip_boxes}
use Rattle.view_picture.proofs.BoxLemmas.{strips-begin, strips-more}
use Rattle.view_picture.proofs.svg.strips.Goals as goal

pub loop-number-init : goal.loop-number-init
loop-number-init c =
    let timeline = c.args.picture.now.timeline.now in
    (strips-begin (λ number. strip_boxes timeline.cpu_count (strip_at number timeline.cells.items)) c.args.draft, c.as_slice-cells.ensures.value)

pub loop-number-preserved : goal.loop-number-preserved
loop-number-preserved c =
    let timeline = c.args.picture.now.timeline.now in
    strips-more timeline.cpu_count timeline.cells.items c.loop-number.cells.now c.strip_of-one.result.cells.now c.loop-number.number c.min-at.result c.strip_of-one.result.cpu_count
    c.args.draft c.loop-number.draft c.in_ok-draft.draft c.loop-number.invariant c.min-at.ensures c.strip_of-one.ensures.cells c.strip_of-one.ensures.count c.in_ok-draft.ensures
