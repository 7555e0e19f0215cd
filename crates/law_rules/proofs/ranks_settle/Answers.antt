use Rattle.evm_model.proofs.Rounds.{rank_after-own, rounds_settle, settled_is_one, rounds_boost}
use Rattle.law_rules.proofs.ranks_settle.Goals as goal

pub returns-clause-settle : goal.returns-clause-settle
returns-clause-settle c = rounds_settle

pub returns-clause-one : goal.returns-clause-one
returns-clause-one c boosts own count limit rank h s t below = settled_is_one boosts own count limit rank h s t below

pub returns-clause-boost : goal.returns-clause-boost
returns-clause-boost c = rounds_boost

pub returns-clause-own : goal.returns-clause-own
returns-clause-own c = rank_after-own
