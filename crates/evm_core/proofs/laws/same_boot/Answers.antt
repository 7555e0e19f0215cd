use Rattle.evm_core.proofs.Outcomes as outcomes
use Rattle.evm_core.proofs.laws.same_boot.Goals as goal

pub returns : goal.returns
returns c = outcomes.same_boot
