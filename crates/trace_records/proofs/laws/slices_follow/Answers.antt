use Rattle.trace_records.proofs.Follows.{follows}
use Rattle.trace_records.proofs.laws.slices_follow.Goals as goal

pub returns : goal.returns
returns c = follows
