use Rattle.std.proofs.Common.{◌∙◌}
use Rattle.evm_wait.proofs.Wait_queues.{waiting-head}
use Rattle.evm_wait.proofs.waiting.Waiting.first.Goals as goal

pub returns-in-Some : goal.returns-in-Some
returns-in-Some c =
    c.head.ensures
    ∙ rw (← c.self.view_is, c.self.invariant.turns)
    (waiting-head c.self.inside.waiters.items c.self.inside.ranks.items c.args.wait c.in-Some.q c.self.invariant.ranked c.in-Some.ensures)
