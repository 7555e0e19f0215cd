use Rattle.law_runs.proofs.Commands.{events_change_only}
use Rattle.law_runs.proofs.events_change_only.Goals as goal

pub returns : goal.returns
returns c = events_change_only
