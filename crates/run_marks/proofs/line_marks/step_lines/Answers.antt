use Rattle.std.proofs.Common.{◌≡◌, false, sym, ap, ◌∙◌}
use Rattle.std.specs.Prelude.{slice_get}
use Rattle.evm_lines.specs.Lines.{has_line}
use Rattle.evm_model.specs.State.{Parts}
use Rattle.run_marks.proofs.line_marks.step_lines.Goals as goal

pub returns-then-cpu-step : goal.returns-then-cpu-step
returns-then-cpu-step g c =
    λ was p q leaves before after.
    let at : (k : Parts) → slice_get k.pipes c.args.cpu ≡ slice_get k.pipes c.args.step.now.cpu = λ k. ap (slice_get k.pipes) c.if-cpu-step.true in
    c.own_lines.ensures was c.args.machine.now.board.parts p q leaves (sym (at was) ∙ before) (sym (at c.args.machine.now.board.parts) ∙ after)

pub returns-else-cpu-step : goal.returns-else-cpu-step
returns-else-cpu-step g c =
    λ was p q leaves before after x y l h none.
    let off : has_line q.wire l ≡ false = ap (λ s. has_line s l) (sym (c.wire_lines.ensures q after)) ∙ none in
    ap (λ s. slice_get s l) (sym y) ∙ leaves.others c.args.cpu l c.if-cpu-step.false h p q before after off ∙ ap (λ s. slice_get s l) x
