use Rattle.evm_task.proofs.Early.{early-push}
use Rattle.evm_task.proofs.tasks.Tasks.push.Goals as goal

pub invariant_of-self : goal.invariant_of-self
invariant_of-self c =
    rw (c.push.ensures.items, c.lowered-self-inside.ensures) (early-push _ _ _ c.self.invariant)
