use Rattle.law_rules.proofs.Rows.{private_rows}
use Rattle.law_rules.proofs.private_rows_change_one_hart.Goals as goal

pub returns : goal.returns
returns c = private_rows
