use Rattle.std.proofs.Common.{rules, refl}
use Rattle.view_timeline.proofs.RowLemmas.{tells-item}
use Rattle.view_timeline.proofs.cells.cell_of.Goals as goal

pub returns-clause-tells : goal.returns-clause-tells
returns-clause-tells c some = tells-item _ c.args.item.now.count c.args.item.now.event (search rules) refl c.shares_of.ensures some
