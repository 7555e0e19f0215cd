use Rattle.evm_core.proofs.Outcomes as outcomes
use Rattle.evm_core.proofs.laws.booted_processors.Goals as goal

pub returns : goal.returns
returns c = outcomes.booted_processors
