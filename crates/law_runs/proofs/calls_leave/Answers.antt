use Rattle.law_runs.proofs.Own.{callers_leave}
use Rattle.law_runs.proofs.calls_leave.Goals as goal

pub returns : goal.returns
returns c = callers_leave
