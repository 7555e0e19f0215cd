-- one Step more is made and noted
use Rattle.std.proofs.Common.{◌≡◌, ◌<◌, ◌∙◌, Some, ap, sym, arith}
use Rattle.std.proofs.lemmas.Result.{err_from_is_err_and}
use Rattle.evm_serve.specs.Noted.{noted_step}
use Rattle.evm_serve.specs.Noting.{noted_steps}
use Rattle.evm_serve.proofs.OneByOne.{noted-accepted, noted-ended, noted-few, steps-accepted, steps-ended, steps-refused}
use Rattle.evm_serve.proofs.noting.noted_steps.Goals as goal

pub note_step-requires : goal.note_step-requires
note_step-requires g c = omega (arith, c.loop-left.invariant.few, c.loop-left-test.true, c.ranges.count)

pub loop-left-preserved : goal.loop-left-preserved
loop-left-preserved g c =
    let at = c.loop-left in
    let some : 0 < at.left = omega (arith, c.loop-left-test.true) in
    let accepted = c.in_ok-answer.ensures.ok in
    let notes = c.note_step.ensures ∙ ap (λ ahead. noted_step c.in_ok-answer.answer ahead at.notes) c.ahead_of-ahead.ensures in
    record {
      others = at.invariant.others ∙ steps-accepted c.args.c at.left at.machine c.apply.new.self c.in_ok-answer.answer some accepted;
      noted = at.invariant.noted ∙ noted-accepted c.args.c at.left at.machine c.apply.new.self c.in_ok-answer.answer at.notes some accepted ∙ ap (noted_steps c.args.c _ c.apply.new.self) (sym notes);
      few = omega (arith, at.invariant.few, noted-few c.in_ok-answer.answer c.ahead_of-ahead.result at.notes, ap (λ n. n.swallowed) c.note_step.ensures);
    }

pub returns-clause-made : goal.returns-clause-made
returns-clause-made g c = c.loop-left.invariant.others ∙ steps-ended c.args.c c.loop-left.left c.loop-left.machine (omega arith)

pub returns-clause-noted : goal.returns-clause-noted
returns-clause-noted g c = sym (c.loop-left.invariant.noted ∙ noted-ended c.args.c c.loop-left.left c.loop-left.machine c.loop-left.notes (omega arith))

pub returns-in_err-answer-clause-made : goal.returns-in_err-answer-clause-made
returns-in_err-answer-clause-made g c =
    let some : 0 < c.loop-left.left = omega (arith, c.loop-left-test.true) in
    let p = err_from_is_err_and c.from_residual.result c.from_residual.ensures.1 in
    rw (p.1, p.2) (c.loop-left.invariant.others ∙ steps-refused c.args.c c.loop-left.left c.loop-left.machine c.in_err-answer.field-0.0 some c.in_err-answer.ensures.err ∙ ap (λ s. (s, Some c.in_err-answer.field-0.0)) (sym c.in_err-answer.ensures.unchanged))
