use Rattle.std.proofs.Common.{arith}
use Rattle.evm_shared.specs.Receipts.{IsBefore}
use Rattle.evm_shared.proofs.Tested.{all_more}
use Rattle.evm_shared.proofs.checking.first_not_before.Goals as goal

pub loop-next-preserved : goal.loop-next-preserved
loop-next-preserved c = record {
  within = omega (arith, c.loop-next-test.true);
  passed = all_more (λ r. IsBefore r c.args.later.now) c.args.receipts.now c.loop-next.next c.index-receipts-next.result c.loop-next-test.true c.index-receipts-next.is (c.is_before.ensures.0 c.if-not-is_before.false) c.loop-next.invariant.passed;
}
