use Rattle.std.proofs.Common.{◌≡◌, false, true, sym, ◌∙◌, ap}
use Rattle.std.specs.Prelude.{slice_get}
use Rattle.evm_lines.specs.Lines.{has_line}
use Rattle.run_marks.proofs.Sets.{either}
use Rattle.run_marks.proofs.line_marks.own_lines.Goals as goal

pub returns-then-step-eq0 : goal.returns-then-step-eq0
returns-then-step-eq0 c =
    λ was now p q leaves before after x y l h none.
    let waited : has_line c.args.step.now.waiting l ≡ false =
    either (has_line c.args.step.now.waiting l) (has_line c.args.step.now.waiting l ≡ false) (λ is. let no : true ≡ false = sym (c.with_raised.ensures.lines l h is) ∙ none in absurd cc) (λ is. is) in
    let same = leaves.own l h waited p q before after (λ first device. rw (x, y) (c.with_raised.ensures.raised l device none)) in
    ap (λ s. slice_get s l) (sym y) ∙ same ∙ ap (λ s. slice_get s l) x
