use Rattle.std.proofs.Common.{◌<◌, length, drop, ap, ◌∙◌, arith, rules}
use Rattle.evm_ready.proofs.Ring.{length-ring, drop-ring}
use Rattle.evm_ready.proofs.queue.Queue.drop_head.Goals as goal

pub returns : goal.returns
returns c =
    let q = c.self.inside in
    let long = length-ring 64 q.tasks q.start q.len c.self.invariant.0 c.self.invariant.1 (search rules) in
    let same = ap length c.self.view_is in
    let some : 0 < q.len = omega arith in
    drop-ring 64 q.tasks q.start q.len c.self.invariant.0 c.self.invariant.1 (search rules) some ∙ ap (drop 1) c.self.view_is
