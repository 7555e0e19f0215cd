use Rattle.std.proofs.Common.{ap}
use Rattle.evm_serve.specs.Script.{steps_outcome}
use Rattle.evm_serve.proofs.script_line.run_steps.Goals as goal

pub returns-in-Ok-clause-outcome : goal.returns-in-Ok-clause-outcome
returns-in-Ok-clause-outcome g c = ap (steps_outcome c.args.number c.args.c) c.in-Ok.ensures.made

pub returns-in-Err-clause-outcome : goal.returns-in-Err-clause-outcome
returns-in-Err-clause-outcome g c = ap (steps_outcome c.args.number c.args.c) c.in-Err.ensures.made
