use Rattle.view_page.proofs.Runs.{safe-run}
use Rattle.view_page.proofs.laws.runs_are_safe.Goals as goal

pub returns : goal.returns
returns c = safe-run
