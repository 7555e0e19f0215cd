use Rattle.hunt_space.proofs.Stands.{both_stand}
use Rattle.hunt_space.proofs.searching.begun.Goals as goal

pub returns-clause-stands : goal.returns-clause-stands
returns-clause-stands c first begins = both_stand first c.in-Ok-stand-2.kept c.in-Ok-stand.seen c.in-Ok-new.visited.seen (c.in-Ok-stand-2.ensures first begins) (c.in-Ok-stand.ensures first begins) c.in-Ok-new.ensures.seen
