use Rattle.law_runs.proofs.Kept.{sizes_stay}
use Rattle.law_runs.proofs.sizes_stay.Goals as goal

pub returns : goal.returns
returns c = sizes_stay
