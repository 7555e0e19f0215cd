use Rattle.law_runs.proofs.Alike.TimelessLaws.{boots_have_no_times}
use Rattle.law_runs.proofs.boots_have_no_times.Goals as goal

pub returns : goal.returns
returns c = boots_have_no_times
