use Rattle.std.proofs.Common.{rules, refl}
use Rattle.view_timeline.proofs.RowLemmas.{tells-joined}
use Rattle.view_timeline.proofs.cells.join.Goals as goal

pub returns-clause-tells : goal.returns-clause-tells
returns-clause-tells c front back fits one two =
    tells-joined c.args.one.now c.args.two.now _ front back (λ h. search (rules, h)) refl c.summed-one.ensures fits one two
