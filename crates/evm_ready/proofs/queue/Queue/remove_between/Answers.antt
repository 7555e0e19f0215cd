use Rattle.evm_ready.proofs.Members.{has-remove, in_order-remove}
use Rattle.evm_ready.proofs.queue.Queue.remove_between.Goals as goal

pub returns-in-Some-clause-order : goal.returns-in-Some-clause-order
returns-in-Some-clause-order c = rw c.remove_at.ensures (in_order-remove c.args.turns.now c.args.self.now c.in-Some.place c.requires)

pub returns-in-Some-clause-members : goal.returns-in-Some-clause-members
returns-in-Some-clause-members c =
    λ u. rw c.remove_at.ensures (has-remove c.args.turns.now c.args.self.now c.in-Some.place c.args.t u c.requires c.in-Some.ensures.found)
