use Rattle.law_runs.proofs.Commands.{raises_one_line}
use Rattle.law_runs.proofs.raises_one_line.Goals as goal

pub returns : goal.returns
returns c = raises_one_line
