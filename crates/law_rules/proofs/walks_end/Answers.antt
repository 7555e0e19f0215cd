use Rattle.evm_model.proofs.Walks.{walks_end, never_returns}
use Rattle.law_rules.proofs.walks_end.Goals as goal

pub returns-clause-ends : goal.returns-clause-ends
returns-clause-ends c = walks_end

pub returns-clause-returns : goal.returns-clause-returns
returns-clause-returns c boosts limit links t h e = never_returns boosts limit links t h e
