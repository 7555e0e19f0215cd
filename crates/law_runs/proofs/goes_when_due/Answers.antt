use Rattle.law_runs.proofs.Due.{waits_end_by_deadline}
use Rattle.law_runs.proofs.Expiring.{timers_expire_by_number}
use Rattle.law_runs.proofs.goes_when_due.Goals as goal

pub returns : goal.returns
returns c = record { ends = waits_end_by_deadline; expires = timers_expire_by_number }
