use Rattle.std.proofs.Common.{Some, None}
use Rattle.hunt_space.proofs.Reaching.{steps-made}
use Rattle.hunt_space.proofs.replaying.repeat_steps.Goals as goal

pub returns-in-Ok-clause-repeats : goal.returns-in-Ok-clause-repeats
returns-in-Ok-clause-repeats c = steps-made c.args.cpu c.args.steps c.args.machine.now c.steps.new.self None c.in-Ok.ensures.made

pub returns-in-Err-clause-repeats : goal.returns-in-Err-clause-repeats
returns-in-Err-clause-repeats c = steps-made c.args.cpu c.args.steps c.args.machine.now c.steps.new.self (Some c.in-Err.field-0) c.in-Err.ensures.made
