use Rattle.std.proofs.Common.{length}
use Rattle.view_page.proofs.row.+push_both.Given as goal

abbrev pub decreases-push_both : goal.decreases-push_both
decreases-push_both l = length l.numbers.now
