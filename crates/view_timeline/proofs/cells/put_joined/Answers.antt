use Rattle.std.proofs.Common.{rules, ◌≡◌, ◌+◌, Some, length, refl, sym, arith}
use Rattle.std.specs.Prelude.{slice_get}
use Rattle.std.proofs.lemmas.Option.{slice_get_read}
use Rattle.view_timeline.proofs.RowLemmas.{joins-last}
use Rattle.view_timeline.specs.Rows.{stretch}
use Rattle.view_timeline.proofs.cells.put_joined.Goals as goal

pub returns-in-Some : goal.returns-in-Some
returns-in-Some c =
    let items = c.args.cells.now.items in
    let i = c.saturating_sub-last.result in
    let there : slice_get items i ≡ Some c.in-Some.last.now = slice_get_read _ _ i _ refl c.in-Some.ensures.item.3.0 c.in-Some.ensures.item.1 in
    let count : c.len.result ≡ length items = search rules in
    let long : length items ≡ i + 1 = omega (arith, count, c.saturating_sub-last.ensures, c.in-Some.ensures.item.3.0) in
    λ events from fits some tells row.
    joins-last items i c.in-Some.last.now c.join.new.one c.args.cell.now.first c.args.cell.now.count long there c.join.ensures.first events from fits some (sym tells.count)
    (λ front sum h. c.join.ensures.tells front (stretch events c.args.cell.now.first c.args.cell.now.count) sum h tells) row
