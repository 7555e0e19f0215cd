use Rattle.std.proofs.Common.{◌∙◌, ap}
use Rattle.evm_ready.specs.Queues.{AreQueuedBut, Queued}
use Rattle.evm_ready.proofs.Filing.{leave-none, queue_of}
use Rattle.evm_ready.proofs.Turning.{turned}
use Rattle.evm_ready.proofs.turns.Turns.enter.Goals as goal

pub join-requires-clause-queued : goal.join-requires-clause-queued
join-requires-clause-queued c =
    let away : AreQueuedBut c.args.t c.self.inside.turns.items c.self.inside.queues =
    leave-none c.self.inside.turns.items c.args.t c.self.inside.queues (ap (λ (v : Queued). queue_of v.turns c.args.t) c.self.view_is ∙ c.requires) c.self.invariant in
    rw (c.as_slice.ensures.value, c.set_turn.ensures) (turned c.self.inside.turns.items c.args.t c.args.turn c.self.inside.queues away)
