use Rattle.evm_task.proofs.Early.{IsEarlyBelow}
use Rattle.evm_task.proofs.tasks.Tasks.least_deadline.Given as goal

-- no deadline of the tasks so far is before the least
abbrev pub invariant-loop-t : goal.invariant-loop-t
invariant-loop-t l = IsEarlyBelow l.least l.t l.self
