use Rattle.evm_ready.specs.Queues.{AreQueuedBut}
use Rattle.evm_ready.proofs.Restamping.{turned-out}
use Rattle.evm_ready.proofs.Turning.{turned}
use Rattle.evm_ready.proofs.turns.Turns.set.Goals as goal

pub join_apart-requires-clause-queued : goal.join_apart-requires-clause-queued
join_apart-requires-clause-queued c =
    let left : AreQueuedBut c.args.t c.self.inside.turns.items c.leave.new.self = rw (← c.as_slice.ensures.value) c.leave.ensures.queued in
    rw (c.as_slice-then-is_some.ensures.value, c.set_turn.ensures) (turned c.self.inside.turns.items c.args.t c.args.turn c.leave.new.self left)

pub invariant_of-self-else-is_some : goal.invariant_of-self-else-is_some
invariant_of-self-else-is_some c =
    let left : AreQueuedBut c.args.t c.self.inside.turns.items c.leave.new.self = rw (← c.as_slice.ensures.value) c.leave.ensures.queued in
    rw c.set_turn.ensures (turned-out c.self.inside.turns.items c.args.t c.args.turn c.leave.new.self c.if-is_some.ensures left)
