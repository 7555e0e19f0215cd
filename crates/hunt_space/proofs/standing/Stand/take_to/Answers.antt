use Rattle.hunt_space.proofs.Stands.{stands_farther, stands_there}
use Rattle.hunt_space.proofs.standing.Stand.take_to.Goals as goal

pub returns-clause-at : goal.returns-clause-at
returns-clause-at c =
    stands_farther c.args.first.now c.set_out.new.self c.make_steps.new.self c.args.turns.now c.args.cpu c.args.steps c.in-Ok.ensures.stands c.in-Ok.ensures.way c.make_steps.ensures.repeats

pub returns-clause-stands : goal.returns-clause-stands
returns-clause-stands c =
    let far = c.make_steps.new.self in
    let at = stands_farther c.args.first.now c.set_out.new.self far c.args.turns.now c.args.cpu c.args.steps c.in-Ok.ensures.stands c.in-Ok.ensures.way c.make_steps.ensures.repeats in
    stands_there c.args.first.now c.set_out.new.self far c.args.turns.now c.args.cpu c.args.steps c.in-Ok.ensures.way c.make_steps.ensures.turns c.make_steps.ensures.cpu c.make_steps.ensures.steps at
    (c.make_steps.ensures.replays c.args.first.now c.in-Ok.ensures.stands.replays)
