use Rattle.law_runs.proofs.Alike.AheadLaws.{actors_are_same, steps_keep_ahead, ticks_keep_ahead, raises_keep_ahead}
use Rattle.law_runs.proofs.rows_keep_ahead.Goals as goal

pub returns-clause-steps : goal.returns-clause-steps
returns-clause-steps c = steps_keep_ahead

pub returns-clause-ticks : goal.returns-clause-ticks
returns-clause-ticks c = ticks_keep_ahead

pub returns-clause-raises : goal.returns-clause-raises
returns-clause-raises c = raises_keep_ahead

pub returns-clause-actors : goal.returns-clause-actors
returns-clause-actors c = actors_are_same
