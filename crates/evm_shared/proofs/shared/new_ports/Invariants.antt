use Rattle.std.proofs.Common.{◌≡◌, ◌-◌, ◌≤◌, replicate}
use Rattle.std.specs.Prelude.{vec_capacity}
use Rattle.evm_shared.specs.EventCounts.{none}
use Rattle.evm_shared.specs.Ports.{fresh_port, shares_of}
use Rattle.evm_shared.proofs.shared.new_ports.Given as goal

abbrev pub invariant-loop : goal.invariant-loop
invariant-loop g l = record {
  all : l.all ≡ shares_of (l.fn.ports - l.counter) none;
  made : l.made.items ≡ replicate l.counter (fresh_port l.receipts l.since);
  room : l.fn.ports ≤ vec_capacity l.made;
}
