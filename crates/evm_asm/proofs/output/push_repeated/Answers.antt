use Rattle.std.proofs.Common.{◌∙◌, ◌-◌, ◌+◌, sym, ap}
use Rattle.evm_asm.specs.Programs.{repeated}
use Rattle.evm_asm.proofs.Line_by_line.{repeated-more, repeated-done}
use Rattle.evm_asm.proofs.output.push_repeated.Goals as goal

pub loop-preserved : goal.loop-preserved
loop-preserved c =
    ap (λ b. repeated (c.args.count - (c.loop.counter + 1)) c.args.unit.now b) c.in_ok-extend_bytes.ensures.ok
    ∙ sym (repeated-more c.args.count c.loop.counter c.args.unit.now c.loop.bytes.items c.loop-test.true) ∙ c.loop.invariant

pub returns-clause-ok : goal.returns-clause-ok
returns-clause-ok c = sym (repeated-done c.args.count c.loop.counter c.args.unit.now c.loop.bytes.items c.loop-test.false) ∙ c.loop.invariant
