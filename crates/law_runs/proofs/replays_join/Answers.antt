use Rattle.law_runs.proofs.Replays.{replays_join}
use Rattle.law_runs.proofs.replays_join.Goals as goal

pub returns : goal.returns
returns c = replays_join
