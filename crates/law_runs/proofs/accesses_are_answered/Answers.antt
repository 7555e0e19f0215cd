use Rattle.law_runs.proofs.Unanswered.{unanswered_faults, who_answers_none, loads_touch}
use Rattle.law_runs.proofs.accesses_are_answered.Goals as goal

pub returns : goal.returns
returns c = record { faults = unanswered_faults; none = who_answers_none; loads = loads_touch }
