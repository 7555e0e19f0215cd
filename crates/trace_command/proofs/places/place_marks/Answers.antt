use Rattle.std.proofs.Common.{sym, append-nil}
use Rattle.trace_command.proofs.Placed.{placed_more}
use Rattle.trace_command.proofs.places.place_marks.Goals as goal

pub loop-mark-init : goal.loop-mark-init
loop-mark-init c = sym (append-nil c.args.list.now.items)

pub loop-mark-preserved : goal.loop-mark-preserved
loop-mark-preserved c =
    placed_more c.args.machine.now.board.parts.harts c.args.at c.args.marks.now c.loop-mark.mark-index _ c.args.list.now.items c.loop-mark.list.items c.place_mark.new.list.items
    c.loop-mark-test.true c.loop-mark.invariant c.in_ok-place_mark.ensures
