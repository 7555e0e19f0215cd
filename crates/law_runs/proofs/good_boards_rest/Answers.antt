use Rattle.law_runs.proofs.Alike.AheadResting.{good_boards_rest}
use Rattle.law_runs.proofs.good_boards_rest.Goals as goal

pub returns : goal.returns
returns c = good_boards_rest
