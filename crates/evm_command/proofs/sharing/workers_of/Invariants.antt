use Rattle.std.proofs.Common.{◌≡◌, ◌≤◌, length}
use Rattle.std.specs.Prelude.{All, vec_capacity}
use Rattle.evm_bells.specs.Seats.{TakerValue}
use Rattle.evm_shared.specs.Workers.{WorkerValue}
use Rattle.evm_command.proofs.sharing.workers_of.Given as goal

abbrev pub invariant-loop-cpu : goal.invariant-loop-cpu
invariant-loop-cpu g l = record {
  made : length l.workers.items ≡ l.cpu;
  room : 2 ≤ vec_capacity l.workers;
  takers : All (λ (t : TakerValue). t.bells ≡ l.fn.bells.id) l.takers.items;
  workers : All (λ (w : WorkerValue). w.taker.bells ≡ l.fn.bells.id) l.workers.items;
}
