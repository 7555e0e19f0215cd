use Rattle.view_timeline.proofs.RowLemmas.{halves-more}
use Rattle.view_timeline.proofs.cells.put_numbered.Goals as goal

pub returns-in-Some : goal.returns-in-Some
returns-in-Some c =
    halves-more c.put_cell.result c.args.cells.now c.args.i c.in-Some.cell.now c.args.new.now.items c.put_cell.new.cells.items c.in-Some.ensures.lookup.0 c.in-Some.ensures.lookup.1 c.put_cell.ensures
