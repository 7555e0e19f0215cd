use Rattle.std.proofs.Common.{ℕ, List, ◌∷◌, ◌<◌, length, ap, ◌∙◌, arith, rules}
use Rattle.evm_ready.proofs.Ring.{length-ring, front-ring}
use Rattle.evm_ready.proofs.queue.Queue.push_head.Goals as goal

pub returns : goal.returns
returns c =
    let q = c.self.inside in
    let long = length-ring 64 q.tasks q.start q.len c.self.invariant.0 c.self.invariant.1 (search rules) in
    let same = ap length c.self.view_is in
    let room : q.len < 64 = omega arith in
    front-ring 64 q.tasks q.start q.len c.self.invariant.0 c.self.invariant.1 (search rules) c.args.t room
    ∙ ap (λ (tasks : List ℕ). c.args.t ∷ tasks) c.self.view_is
