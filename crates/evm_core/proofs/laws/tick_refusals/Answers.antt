use Rattle.evm_core.proofs.Outcomes as outcomes
use Rattle.evm_core.proofs.laws.tick_refusals.Goals as goal

pub returns : goal.returns
returns c = outcomes.tick_refusals
