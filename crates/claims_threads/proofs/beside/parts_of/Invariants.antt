use Rattle.std.proofs.Common.{◌≡◌, ◌+◌, ◌≤◌, length}
use Rattle.std.specs.Prelude.{All, vec_capacity}
use Rattle.evm_bells.specs.Seats.{TakerValue}
use Rattle.evm_shared.specs.EventCounts.{event_total}
use Rattle.evm_shared.specs.Ports.{PortValue}
use Rattle.claims_threads.specs.Said.{IsSaid, SayTaken}
use Rattle.claims_threads.proofs.beside.parts_of.Given as goal

abbrev pub invariant-loop-worker : goal.invariant-loop-worker
invariant-loop-worker g l = record {
  all : length l.ports.items + length l.workers.items ≡ length l.fn.workers.items;
  both : length l.takers.items ≡ length l.ports.items;
  room : length l.fn.workers.items ≤ vec_capacity l.ports;
  seats : length l.fn.workers.items ≤ vec_capacity l.takers;
  workers : All (IsSaid l.fn.bells (event_total g.O.Origin.base)) l.workers.items;
  since : All (λ (p : PortValue). event_total g.O.Origin.base ≤ p.since) l.ports.items;
  pairs : SayTaken l.ports.items l.takers.items;
  takers : All (λ (t : TakerValue). t.bells ≡ l.fn.bells.id) l.takers.items;
}

abbrev pub decreases-loop-worker : goal.decreases-loop-worker
decreases-loop-worker g l = length l.workers.items
