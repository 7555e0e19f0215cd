use Rattle.std.proofs.Common.{refl}
use Rattle.hunt_space.proofs.Stands.{stands_at_boot}
use Rattle.hunt_space.proofs.standing.Stand.new.Goals as goal

pub returns : goal.returns
returns c = stands_at_boot c.args.machine.value _ c.new-turns.ensures.items refl refl c.requires
