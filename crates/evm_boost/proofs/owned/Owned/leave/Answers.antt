use Rattle.std.proofs.Common.{◌∙◌}
use Rattle.evm_boost.proofs.Owning.{parted}
use Rattle.evm_boost.proofs.owned.Owned.leave.Goals as goal

pub returns-in-Some : goal.returns-in-Some
returns-in-Some c = λ owner had are. rw c.part.ensures (parted _ owner c.in-Some.t c.args.m (had ∙ c.in-Some.is) are)
