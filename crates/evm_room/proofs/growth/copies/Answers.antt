use Rattle.evm_room.specs.Growth.{trusted_refusal}
use Rattle.evm_room.proofs.growth.copies.Goals as goal

pub invariant_of-result : goal.invariant_of-result
invariant_of-result g c = trusted_refusal c.args.count
