use Rattle.evm_ready.specs.Queues.{AreEmpty}
use Rattle.evm_ready.proofs.queues.clear_all.Given as goal

abbrev pub invariant-loop-queue : goal.invariant-loop-queue
invariant-loop-queue l = AreEmpty l.queue-items 0 l.queue-index
