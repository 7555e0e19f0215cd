use Rattle.evm_core.proofs.Outcomes as outcomes
use Rattle.evm_core.proofs.laws.step_refusals.Goals as goal

pub returns : goal.returns
returns c = outcomes.step_refusals
