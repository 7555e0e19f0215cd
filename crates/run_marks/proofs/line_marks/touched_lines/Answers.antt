use Rattle.std.proofs.Common.{◌≡◌, Some, sym, subst, ap, ◌∙◌}
use Rattle.std.specs.Prelude.{slice_get}
use Rattle.evm_model.specs.Pipes.{Pipe}
use Rattle.run_marks.specs.Tallies.{LeavesCounts, OnlyRaises, StepLeaves}
use Rattle.run_marks.specs.declared.tally.Reach.{Reach}
use Rattle.run_marks.proofs.line_marks.touched_lines.Goals as goal

pub returns-in-ByLine : goal.returns-in-ByLine
returns-in-ByLine g c =
    λ was p q far before after x y l h none.
    let only : OnlyRaises c.in-ByLine.acting c.in-ByLine.field-1 was c.args.machine.now.board.parts = subst (λ (r : Reach). LeavesCounts r was c.args.machine.now.board.parts) c.in-ByLine.is far.leaves in
    let two : Some q ≡ Some p = sym after ∙ only.others c.args.cpu c.if-cpu-acting.true ∙ before in
    let same : q ≡ p = cc in
    ap (λ s. slice_get s l) (sym y ∙ ap (λ (z : Pipe). z.counts) same ∙ x)

pub returns-in-ByStep : goal.returns-in-ByStep
returns-in-ByStep g c =
    λ was p q far before after x y.
    let leaves : StepLeaves c.in-ByStep.step was c.args.machine.now.board.parts = subst (λ (r : Reach). LeavesCounts r was c.args.machine.now.board.parts) c.in-ByStep.is far.leaves in
    c.step_lines.ensures was p q leaves before after x y
