use Rattle.std.proofs.Common.{◌≡◌, ◌∙◌, ℕ, List, [], sym, ap, rules}
use Rattle.evm_debug.specs.evm_text.Lines.{text_of, text_lines}
use Rattle.evm_diagnostics.specs.Lookup.{boot_among}
use Rattle.evm_diagnostics.proofs.BootLines.{boot_first, boot_next}
use Rattle.evm_diagnostics.proofs.lookup.boot_among.Goals as goal

pub returns-in-Some-boot_of : goal.returns-in-Some-boot_of
returns-in-Some-boot_of c = boot_first _ _ _ _ c.in-Some.ensures.lines c.in-Some-boot_of.ensures ∙ c.lines.invariant

pub lines-preserved : goal.lines-preserved
lines-preserved c = boot_next _ _ _ c.in-Some.ensures.lines c.in-None.ensures ∙ c.lines.invariant

pub returns : goal.returns
unfolding text_lines text_of boot_among
returns c =
    let none : c.lines.rest.now ≡ [] = search rules in
    ap (λ (text : List ℕ). boot_among (text_lines text)) (sym none) ∙ c.lines.invariant
