use Rattle.law_runs.proofs.Nudged.{always_tells, always_tells_loaded}
use Rattle.law_runs.proofs.line_one_is_raised.Goals as goal

pub returns : goal.returns
returns c = record { booted = always_tells; loaded = always_tells_loaded }
