use Rattle.law_runs.proofs.Alike.TimelessRows.{timeless_rows}
use Rattle.law_runs.proofs.rows_read_no_clock.Goals as goal

pub returns : goal.returns
returns c = timeless_rows
