use Rattle.std.proofs.Common.{rules, ◌≡◌, ◌+◌, get_or, refl, ap, ◌∙◌}
use Rattle.std.specs.Prelude.{◌==◌, if◌then◌else◌}
use Rattle.view_timeline.proofs.RowLemmas.{tells-more}
use Rattle.view_timeline.specs.Rows.{event_lane}
use Rattle.view_timeline.proofs.cells.join_item.Goals as goal

pub returns-clause-tells : goal.returns-clause-tells
returns-clause-tells c front fits one =
    let at : c.lane_index.result ≡ event_lane c.args.item.now.event = search rules in
    tells-more c.args.cell.now _ c.args.item.now.count c.args.item.now.event front (λ h. search (rules, h)) refl
    (λ lane h few. c.add_share.ensures lane h few ∙ ap (λ l. get_or c.args.cell.now.shares lane 0 + (if l == lane then c.args.item.now.count else 0)) at) fits one
