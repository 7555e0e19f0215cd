use Rattle.std.proofs.Common.{◌-◌, ◌≤◌, length, take}
use Rattle.std.specs.Prelude.{All}
use Rattle.evm_shared.specs.Receipts.{IsBefore}
use Rattle.evm_shared.proofs.checking.first_not_before.Given as goal

abbrev pub invariant-loop-next : goal.invariant-loop-next
invariant-loop-next l = record {
  within : l.next ≤ length l.receipts;
  passed : All (λ r. IsBefore r l.later) (take l.next l.receipts);
}

abbrev pub decreases-loop-next : goal.decreases-loop-next
decreases-loop-next l = length l.receipts - l.next
