use Rattle.std.proofs.Common.{◌∙◌}
use Rattle.hunt_space.proofs.Walks.{comes-of-turn}
use Rattle.hunt_space.proofs.turning.turn.Goals as goal

pub returns-clause-comes : goal.returns-clause-comes
returns-clause-comes c =
    comes-of-turn c.args.going.now c.args.front.now c.args.last.now c.take_to.new.self.machine.value c.go_back.new.machine c.make.new.machine c.make.result c.requires.turns c.requires.first c.in-Ok.ensures.at (c.in-Ok-go_back.ensures ∙ c.deref.ensures) c.make.ensures.made
