use Rattle.std.proofs.Common.{◌≡◌, [], rules}
use Rattle.evm_text.specs.Lines.{text_lines}
use Rattle.view_page.proofs.Poked.{ends, goes}
use Rattle.view_page.proofs.poking.push_pokes.Goals as goal

pub lines-preserved : goal.lines-preserved
lines-preserved c = goes _ _ _ _ _ _ _ _ c.in-Some.ensures.lines (c.in_ok-later.ensures (text_lines c.in-Some.behind.now)) c.lines.invariant

pub returns : goal.returns
returns c =
    let none : c.lines.rest.now ≡ [] = search rules in
    ends _ _ _ _ _ _ none c.push_text.ensures.ok c.lines.invariant
