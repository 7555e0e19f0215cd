use Rattle.std.proofs.Common.{◌≡◌, ◌∙◌, ℕ, List, [], sym, ap, rules}
use Rattle.std.specs.Prelude.{slice_get}
use Rattle.evm_debug.specs.evm_text.Lines.{text_of, text_lines}
use Rattle.evm_diagnostics.proofs.lookup.line_numbered.Goals as goal

pub returns : goal.returns
unfolding text_lines text_of
returns c =
    let none : c.lines.rest.now ≡ [] = search rules in
    ap (λ (text : List ℕ). slice_get (text_lines text) c.lines.before) (sym none) ∙ c.lines.invariant
