use Rattle.view_page.proofs.Safe.{safe-row}
use Rattle.view_page.proofs.laws.rows_are_safe.Goals as goal

pub returns : goal.returns
returns c = safe-row
