use Rattle.law_runs.proofs.Alike.Rows.{rows_keep_alike}
use Rattle.law_runs.proofs.rows_keep_alike.Goals as goal

pub returns : goal.returns
returns c = rows_keep_alike
