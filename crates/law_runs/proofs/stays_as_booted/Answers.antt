use Rattle.law_runs.proofs.Kept.{stays_as_booted, stays_as_loaded}
use Rattle.law_runs.proofs.stays_as_booted.Goals as goal

pub returns : goal.returns
returns c = record { booted = stays_as_booted; loaded = stays_as_loaded }
