use Rattle.evm_boost.proofs.Owning.{joined}
use Rattle.evm_boost.proofs.owned.Owned.hold.Goals as goal

pub returns : goal.returns
returns c = λ owner free are. rw c.join.ensures (joined _ owner c.args.t c.args.m free are)
