use Rattle.law_rules.proofs.Private.{private_row, private_skip, private_stop}
use Rattle.law_rules.proofs.rows_settle_nothing.Goals as goal

pub returns-clause-registers : goal.returns-clause-registers
returns-clause-registers c = private_row

pub returns-clause-passes : goal.returns-clause-passes
returns-clause-passes c = private_skip

pub returns-clause-stops : goal.returns-clause-stops
returns-clause-stops c = private_stop
