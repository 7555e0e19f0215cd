use Rattle.std.proofs.Common.{◌≤◌, length}
use Rattle.evm_shared.specs.Cursors.{AreApartFrom}
use Rattle.evm_shared.proofs.Walks.{ArePassed}
use Rattle.evm_shared.proofs.checking.first_shared.Given as goal

abbrev pub invariant-loop-index : goal.invariant-loop-index
invariant-loop-index l = record {
  within : l.next ≤ length l.others;
  apart : AreApartFrom l.others l.receipts l.index;
  passed : ArePassed l.others l.receipts l.next l.index l.limit;
}
