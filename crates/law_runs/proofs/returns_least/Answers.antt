use Rattle.law_runs.proofs.Least.{always_tells_least}
use Rattle.law_runs.proofs.returns_least.Goals as goal

pub returns : goal.returns
returns c = always_tells_least
