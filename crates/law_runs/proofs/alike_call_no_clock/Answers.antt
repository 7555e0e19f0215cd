use Rattle.law_runs.proofs.Alike.TimelessLaws.{alike_call_no_clock}
use Rattle.law_runs.proofs.alike_call_no_clock.Goals as goal

pub returns : goal.returns
returns c = alike_call_no_clock
