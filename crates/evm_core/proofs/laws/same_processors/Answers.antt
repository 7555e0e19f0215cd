use Rattle.evm_core.proofs.Outcomes as outcomes
use Rattle.evm_core.proofs.laws.same_processors.Goals as goal

pub returns : goal.returns
returns c = outcomes.same_processors
