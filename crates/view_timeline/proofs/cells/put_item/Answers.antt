use Rattle.std.proofs.Common.{rules, ◌≡◌, ◌+◌, Some, length, refl, arith}
use Rattle.std.specs.Prelude.{slice_get}
use Rattle.std.proofs.lemmas.Option.{slice_get_read}
use Rattle.view_timeline.proofs.RowLemmas.{item-joins-last, item-stands}
use Rattle.view_timeline.proofs.cells.put_item.Goals as goal

pub returns-in-Some : goal.returns-in-Some
returns-in-Some c =
    let items = c.args.cells.now.items in
    let i = c.saturating_sub-last.result in
    let there : slice_get items i ≡ Some c.in-Some.last.now = slice_get_read _ _ i _ refl c.in-Some.ensures.item.3.0 c.in-Some.ensures.item.1 in
    let count : c.len.result ≡ length items = search rules in
    let long : length items ≡ i + 1 = omega (arith, count, c.saturating_sub-last.ensures, c.in-Some.ensures.item.3.0) in
    item-joins-last items i c.in-Some.last.now c.join_item.new.cell c.args.item.now.first c.args.item.now.count c.args.item.now.event long there c.join_item.ensures.first c.join_item.ensures.tells

pub returns-then-not-joins : goal.returns-then-not-joins
returns-then-not-joins c =
    item-stands c.put.result c.args.cells.now.items c.put.new.items.items c.cell_of.result c.args.item.now.first c.args.item.now.count c.args.item.now.event c.cell_of.ensures.first c.cell_of.ensures.count
    c.cell_of.ensures.tells c.put.ensures
