use Rattle.std.proofs.Common.{length}
use Rattle.text_markup.proofs.quoted.+push_escaped.Given as goal

abbrev pub decreases-push_escaped : goal.decreases-push_escaped
decreases-push_escaped l = length l.content.now
