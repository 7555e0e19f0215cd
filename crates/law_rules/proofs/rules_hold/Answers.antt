use Rattle.law_rules.proofs.Laws.{rules_hold, rules_hold_loaded}
use Rattle.law_rules.proofs.rules_hold.Goals as goal

pub returns-clause-booted : goal.returns-clause-booted
returns-clause-booted c = rules_hold

pub returns-clause-loaded : goal.returns-clause-loaded
returns-clause-loaded c = rules_hold_loaded
