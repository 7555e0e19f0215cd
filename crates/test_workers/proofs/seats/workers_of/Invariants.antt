use Rattle.std.proofs.Common.{◌≡◌, All}
use Rattle.evm_bells.specs.Seats.{IsNewTaker}
use Rattle.evm_shared.specs.Workers.{WorkerValue}
use Rattle.test_workers.proofs.seats.workers_of.Given as goal

abbrev pub invariant-loop-cpu : goal.invariant-loop-cpu
invariant-loop-cpu g l = record {
  takers : All (IsNewTaker l.fn.bells.id) l.takers.items;
  workers : All (λ (w : WorkerValue). w.taker.bells ≡ l.fn.bells.id) l.workers.items;
}
