use Rattle.std.proofs.Common.{◌≡◌, length, rules}
use Rattle.evm_ready.proofs.Turning.{pushed}
use Rattle.evm_ready.proofs.turns.Turns.push.Goals as goal

pub join_apart-requires-clause-queued : goal.join_apart-requires-clause-queued
join_apart-requires-clause-queued c =
    let last : c.len-t.result ≡ length c.self.inside.turns.items = search rules in
    rw (c.as_slice.ensures.value, c.push.ensures.items, last) (pushed c.self.inside.turns.items c.args.turn c.self.inside.queues c.self.invariant)
