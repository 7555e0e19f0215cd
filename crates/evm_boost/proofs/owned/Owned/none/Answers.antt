use Rattle.evm_boost.proofs.Owning.{owned-none}
use Rattle.evm_boost.proofs.owned.Owned.none.Goals as goal

pub returns : goal.returns
returns c = owned-none 256 _ c.new.ensures
