use Rattle.law_runs.proofs.Replays.{stays_replay}
use Rattle.law_runs.proofs.stays_replay.Goals as goal

pub returns : goal.returns
returns c = stays_replay
