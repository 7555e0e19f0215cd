use Rattle.law_runs.proofs.Alike.AheadText.{steps_spare_text, sparing_steps_keep_ahead}
use Rattle.law_runs.proofs.steps_spare_text.Goals as goal

pub returns-clause-text : goal.returns-clause-text
returns-clause-text c = steps_spare_text

pub returns-clause-ahead : goal.returns-clause-ahead
returns-clause-ahead c = sparing_steps_keep_ahead
