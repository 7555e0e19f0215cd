use Rattle.std.proofs.Common.{◌∙◌}
use Rattle.evm_ready.proofs.Queued_first.{in_band-head}
use Rattle.evm_ready.proofs.ready.Ready.next_in_band.Goals as goal

pub returns-then-c-self : goal.returns-then-c-self
returns-then-c-self c =
    c.head.ensures ∙ rw (← c.self.view_is, c.self.invariant.turns) (in_band-head c.self.inside.places.items c.self.inside.ranks.items c.args.c c.self.invariant.ranked)
