use Rattle.std.proofs.Common.{◌∙◌, sym}
use Rattle.std.proofs.lemmas.Result.{err_from_is_err_and}
use Rattle.evm_asm.proofs.Line_by_line.{numbers-ok, numbers-stop, numbers-done}
use Rattle.evm_asm.proofs.meaning.push_numbers.Goals as goal

pub returns-in_err-push_number : goal.returns-in_err-push_number
returns-in_err-push_number c =
    let p = err_from_is_err_and c.from_residual.result c.from_residual.ensures.1 in
    rw (p.1, p.2)
    (numbers-stop c.in_err-push_number.field-0.0 c.args.layout.now.labels c.args.layout.now.place.text_size c.args.line.now.place.section c.args.width c.args.count c.loop.counter c.loop.rest.now c.loop.items.items _ c.loop-test.true
    (rw c.first_operand.ensures at c.in_err-push_number.ensures) c.loop.invariant)

pub loop-preserved : goal.loop-preserved
loop-preserved c =
    rw c.other_operands-rest.ensures
    (sym (numbers-ok c.args.layout.now.labels c.args.layout.now.place.text_size c.args.line.now.place.section c.args.width c.args.count c.loop.counter c.loop.rest.now c.loop.items.items _ c.loop-test.true
    (rw c.first_operand.ensures at c.in_ok-push_number.ensures)) ∙ c.loop.invariant)

pub returns : goal.returns
returns c =
    sym c.loop.invariant ∙ numbers-done c.args.layout.now.labels c.args.layout.now.place.text_size c.args.line.now.place.section c.args.width c.args.count c.loop.counter c.loop.rest.now c.loop.items.items c.loop-test.false
