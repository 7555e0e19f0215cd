use Rattle.std.proofs.Common.{◌≡◌, ◌++◌, false, length}
use Rattle.std.specs.String.{string_bytes}
use Rattle.evm_text.specs.Lines.{text_lines}
use Rattle.text_markup.specs.Text.{items_text}
use Rattle.view_page.specs.Pokes.{poke_items}
use Rattle.view_page.proofs.poking.push_pokes.Given as goal

-- what is written and what is to come are all
abbrev pub invariant-lines : goal.invariant-lines
invariant-lines l =
    string_bytes l.out ++ items_text l.later (poke_items (text_lines l.rest)) ≡ string_bytes l.fn.out ++ items_text false (poke_items (text_lines l.journal))

abbrev pub decreases-lines : goal.decreases-lines
decreases-lines l = length l.rest
