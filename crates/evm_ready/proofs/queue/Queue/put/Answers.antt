use Rattle.std.proofs.Common.{ℕ, List, ◌<◌, length, set, ap, ◌∙◌, arith, rules}
use Rattle.evm_ready.proofs.Ring.{length-ring, put-ring}
use Rattle.evm_ready.proofs.queue.Queue.put.Goals as goal

pub returns : goal.returns
returns c =
    let q = c.self.inside in
    let long = length-ring 64 q.tasks q.start q.len c.self.invariant.0 c.self.invariant.1 (search rules) in
    let same = ap length c.self.view_is in
    let within : c.args.i < q.len = omega arith in
    put-ring 64 q.tasks q.start q.len c.self.invariant.0 c.self.invariant.1 (search rules) c.args.i c.args.t within
    ∙ ap (λ (tasks : List ℕ). set tasks c.args.i c.args.t) c.self.view_is
