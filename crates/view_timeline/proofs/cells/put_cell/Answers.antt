use Rattle.view_timeline.proofs.RowLemmas.{stands}
use Rattle.view_timeline.proofs.cells.put_cell.Goals as goal

pub returns-else-joins : goal.returns-else-joins
returns-else-joins c = stands c.put.result c.args.cells.now.items c.put.new.items.items c.args.cell.now c.put.ensures
