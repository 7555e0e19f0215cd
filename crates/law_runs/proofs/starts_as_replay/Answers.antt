use Rattle.law_runs.proofs.Replays.{starts_as_replay}
use Rattle.law_runs.proofs.starts_as_replay.Goals as goal

pub returns : goal.returns
returns c = starts_as_replay
