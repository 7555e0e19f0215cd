use Rattle.law_runs.proofs.Alike.TimelessLaws.{rows_keep_alike_timeless}
use Rattle.law_runs.proofs.rows_keep_alike_timeless.Goals as goal

pub returns : goal.returns
returns c = rows_keep_alike_timeless
