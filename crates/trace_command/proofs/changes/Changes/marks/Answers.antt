use Rattle.std.proofs.Common.{sym, append-nil}
use Rattle.trace_command.specs.Instants.{instants_in}
use Rattle.trace_command.proofs.Told.{told_more}
use Rattle.trace_command.proofs.changes.Changes.marks.Goals as goal

pub loop-mark-init : goal.loop-mark-init
loop-mark-init c = sym (append-nil (instants_in c.args.list.now.items))

pub loop-mark-preserved : goal.loop-mark-preserved
loop-mark-preserved c =
    told_more c.args.moment.wakes c.args.moment.span.at c.args.marks.now c.loop-mark.mark-index _ (instants_in c.args.list.now.items) (instants_in c.loop-mark.list.items) (instants_in c.mark.new.list.items)
    c.loop-mark-test.true c.loop-mark.invariant c.in_ok-mark.ensures
