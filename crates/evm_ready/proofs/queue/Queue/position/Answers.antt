use Rattle.std.proofs.Common.{arith}
use Rattle.evm_model.proofs.Lists.{slice_get-below}
use Rattle.evm_ready.proofs.Members.{has-none}
use Rattle.evm_ready.proofs.queue.Queue.position.Goals as goal

pub returns-clause-none : goal.returns-clause-none
returns-clause-none c =
    has-none c.args.self.now c.args.t (λ i u e same.
    let below = slice_get-below c.args.self.now i u e in
    c.loop-i.invariant i u (omega (arith, below, c.loop-i-test.false)) e same)
