use Rattle.std.proofs.Common.{◌∙◌, sym}
use Rattle.evm_asm_parser.proofs.Operands_read.{with_data-more, with_data-done}
use Rattle.evm_asm_parser.proofs.directive.with_data.Goals as goal

pub loop-preserved : goal.loop-preserved
loop-preserved c =
    rw (c.other_operands-rest.ensures, c.also-read.ensures, c.datum_in.ensures, c.first_operand.ensures)
    (sym (with_data-more c.args.labels.now c.args.width c.args.count c.loop.counter c.loop.read c.loop.rest.now c.loop-test.true) ∙ c.loop.invariant)

pub returns : goal.returns
returns c =
    sym (with_data-done c.args.labels.now c.args.width c.args.count c.loop.counter c.loop.read c.loop.rest.now c.loop-test.false) ∙ c.loop.invariant
