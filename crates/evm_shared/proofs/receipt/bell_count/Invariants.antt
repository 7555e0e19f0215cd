use Rattle.std.proofs.Common.{◌≡◌, length}
use Rattle.evm_shared.specs.Receipts.{bells_below}
use Rattle.evm_shared.proofs.receipt.bell_count.Given as goal

abbrev pub invariant-loop-line : goal.invariant-loop-line
invariant-loop-line l = record { count : l.count ≡ length (bells_below l.cpu l.word l.line) }
