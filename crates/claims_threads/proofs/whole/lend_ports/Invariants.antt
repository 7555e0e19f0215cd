use Rattle.std.proofs.Common.{◌≡◌, ◌≤◌, length, take}
use Rattle.std.specs.Prelude.{vec_capacity}
use Rattle.evm_shared.specs.Checks.{lent}
use Rattle.claims_threads.proofs.whole.lend_ports.Given as goal

abbrev pub invariant-loop-port : goal.invariant-loop-port
invariant-loop-port g l = record {
  so_far : lent l.refs.items ≡ take l.port-index l.ports;
  count : length l.refs.items ≡ l.port-index;
  room : length l.ports ≤ vec_capacity l.refs;
}
