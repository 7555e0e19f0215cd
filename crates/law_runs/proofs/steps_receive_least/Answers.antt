use Rattle.law_runs.proofs.Order.{steps_receive_least}
use Rattle.law_runs.proofs.steps_receive_least.Goals as goal

pub returns : goal.returns
returns c = steps_receive_least
