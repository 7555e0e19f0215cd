use Rattle.std.proofs.Common.{◌∙◌, ◌-◌, ◌+◌, sym, ap}
use Rattle.evm_asm.specs.Quoting.{behind_lines}
use Rattle.evm_asm.proofs.Behind.{behind_lines-more, behind_lines-done}
use Rattle.evm_asm.proofs.quoting.behind_lines.Goals as goal

pub loop-preserved : goal.loop-preserved
loop-preserved c =
    ap (λ t. behind_lines (c.args.lines - (c.loop.counter + 1)) t) c.after-rest.ensures
    ∙ sym (behind_lines-more c.args.lines c.loop.counter c.loop.rest.now c.loop-test.true) ∙ c.loop.invariant

pub returns : goal.returns
returns c = sym (behind_lines-done c.args.lines c.loop.counter c.loop.rest.now c.loop-test.false) ∙ c.loop.invariant
