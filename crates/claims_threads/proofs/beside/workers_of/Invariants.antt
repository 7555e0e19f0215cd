use Rattle.std.proofs.Common.{◌≡◌, ◌+◌, ◌*◌, ◌≤◌, ℕ, length}
use Rattle.std.specs.Prelude.{All, vec_capacity}
use Rattle.evm_bells.specs.Seats.{IsNewTaker}
use Rattle.evm_shared.specs.EventCounts.{event_total}
use Rattle.evm_shared.specs.Ports.{PortValue, fresh_port}
use Rattle.claims_threads.specs.Said.{IsSaidWithRoom}
use Rattle.claims_threads.proofs.beside.workers_of.Given as goal

abbrev pub invariant-loop-cpu : goal.invariant-loop-cpu
invariant-loop-cpu g l = record {
  made : length l.workers.items ≡ l.cpu;
  room : l.fn.bells.cpus ≤ vec_capacity l.workers;
  ports : All (λ (p : PortValue). (since : ℕ) × (p ≡ fresh_port (2 * l.fn.turns) since) × (event_total g.O.Origin.base ≤ since)) l.ports.items;
  takers : All (IsNewTaker l.fn.bells.id) l.takers.items;
  workers : All (IsSaidWithRoom l.fn.bells (event_total g.O.Origin.base) l.fn.turns) l.workers.items;
}
