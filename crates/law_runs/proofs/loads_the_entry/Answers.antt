use Rattle.law_runs.proofs.Replays.{harts_loaded, loads_no_more}
use Rattle.law_runs.proofs.loads_the_entry.Goals as goal

pub returns : goal.returns
returns c = record { harts = harts_loaded; rest = loads_no_more }
