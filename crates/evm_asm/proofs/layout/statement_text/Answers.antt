use Rattle.std.proofs.Common.{◌∙◌, ◌-◌, sym, length}
use Rattle.evm_asm.proofs.Line_by_line.{behind_labels-none, behind_labels-some, behind_labels-done}
use Rattle.evm_asm.proofs.layout.statement_text.Goals as goal

pub returns-in-None : goal.returns-in-None
returns-in-None c =
    sym (behind_labels-none (length c.args.text.now - c.loop.counter) c.loop.rest.now (sym c.in-None.ensures)) ∙ c.loop.invariant

pub loop-preserved : goal.loop-preserved
loop-preserved c =
    sym (behind_labels-some (length c.args.text.now) c.loop.counter c.loop.rest.now c.in-Some.field-0-0.now c.in-Some.tail.now c.loop-test.true (sym c.in-Some.ensures)) ∙ c.loop.invariant

pub returns : goal.returns
returns c = sym (behind_labels-done (length c.args.text.now) c.loop.counter c.loop.rest.now c.loop-test.false) ∙ c.loop.invariant
