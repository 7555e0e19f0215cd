use Rattle.law_runs.proofs.Alike.AheadCatching.{steps_catch_up, steps_go_ahead}
use Rattle.law_runs.proofs.Alike.AheadLaws.{none_is_ahead, actors_are_ready}
use Rattle.law_runs.proofs.private_steps_commute.Goals as goal

pub returns-clause-behind : goal.returns-clause-behind
returns-clause-behind c = steps_catch_up

pub returns-clause-ahead : goal.returns-clause-ahead
returns-clause-ahead c = steps_go_ahead

pub returns-clause-none : goal.returns-clause-none
returns-clause-none c = none_is_ahead

pub returns-clause-ready : goal.returns-clause-ready
returns-clause-ready c = actors_are_ready
