use Rattle.std.proofs.Common.{sym}
use Rattle.hunt_search.proofs.Branching.{goes-to}
use Rattle.hunt_search.proofs.seeing.goes.Goals as goal

pub returns-in-None-take_steps : goal.returns-in-None-take_steps
returns-in-None-take_steps c done =
    goes-to c.args.wanted.now c.args.branch.now c.as_slice.result.now c.args.machine.now c.begin_with.new.machine c.take_steps.new.machine c.args.steps (sym c.as_slice.ensures.value)
    c.in-None.ensures.passes c.in-None-take_steps.ensures.passes
