use Rattle.std.proofs.Common.{arith, refl, ◌∙◌}
use Rattle.evm_shared.specs.Receipts.{bells_below}
use Rattle.evm_shared.proofs.Bells.{few_bells, no_bell, one_bell}
use Rattle.evm_shared.proofs.receipt.bell_count.Goals.{then-word-line-eq1, else-word-line-eq1}
use Rattle.evm_shared.proofs.receipt.bell_count.Goals as goal

pub overflow_add-count : goal.overflow_add-count
overflow_add-count c = omega (arith, c.loop-line.invariant.count, few_bells c.args.cpu c.args.word c.loop-line.line)

pub loop-line-preserved : goal.loop-line-preserved
loop-line-preserved c = elim c.if-word-line-eq1.branch [
  | then-word-line-eq1 w ↦ record { count = w.count-is ∙ one_bell c.args.cpu c.args.word c.loop-line.line c.loop-line.count w.if-word-line-eq1.true c.loop-line.invariant.count }
  | else-word-line-eq1 w ↦ record { count = w.count-is ∙ no_bell c.args.cpu c.args.word c.loop-line.line c.loop-line.count w.if-word-line-eq1.false c.loop-line.invariant.count }
]

pub loop-line-init : goal.loop-line-init
unfolding bells_below
loop-line-init c = record { count = refl }
