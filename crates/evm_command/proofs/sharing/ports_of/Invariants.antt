use Rattle.std.proofs.Common.{◌≡◌, ℕ, ◌≤◌, ◌+◌, length}
use Rattle.std.specs.Prelude.{All, vec_capacity}
use Rattle.evm_shared.specs.Ports.{PortValue}
use Rattle.evm_shared.specs.Workers.{WorkerValue}
use Rattle.evm_command.proofs.sharing.ports_of.Given as goal

abbrev pub invariant-loop-worker : goal.invariant-loop-worker
invariant-loop-worker g l = record {
  all : length l.ports.items + length l.workers.items ≡ length l.fn.workers.items;
  room : length l.fn.workers.items ≤ vec_capacity l.ports;
  steps : (n : ℕ) → All (λ (w : WorkerValue). n ≤ w.port.share.steps) l.fn.workers.items
      → All (λ (w : WorkerValue). n ≤ w.port.share.steps) l.workers.items × All (λ (p : PortValue). n ≤ p.share.steps) l.ports.items;
}

abbrev pub decreases-loop-worker : goal.decreases-loop-worker
decreases-loop-worker g l = length l.workers.items
