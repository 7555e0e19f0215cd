use Rattle.view_page.proofs.Safe.{safe-header}
use Rattle.view_page.proofs.laws.headers_are_safe.Goals as goal

pub returns : goal.returns
returns c = safe-header
