use Rattle.std.proofs.Common.{◌≤◌, ◌<◌, take, get_or}
use Rattle.std.specs.Prelude.{All}
use Rattle.evm_shared.specs.Checks.{lent}
use Rattle.evm_shared.specs.Cursors.{AreApartFrom}
use Rattle.evm_shared.specs.Receipts.{AreApart}
use Rattle.evm_shared.specs.declared.receipt.Receipt.{Receipt}
use Rattle.evm_shared.proofs.checking.first_shared_by_ports.Given as goal

abbrev pub invariant-loop-other : goal.invariant-loop-other
invariant-loop-other g l = record {
  within : l.index ≤ l.limit;
  apart : All (λ p. AreApartFrom p.receipts l.receipts l.index) (take l.other-index (lent l.others));
  shared : l.index < l.limit → (d : Receipt) → All (λ p. All (λ o. AreApart o (get_or l.receipts l.index d)) p.receipts) (lent l.others) → ⊥;
}
