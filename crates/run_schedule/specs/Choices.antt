-- What comes next in a run.
use Rattle.evm_model.specs.State.{State}
use Rattle.run_schedule.specs.Endings.{HasEndedSo}
use Rattle.run_schedule.specs.declared.scheduler.Choice.{Choice}
use Rattle.run_schedule.specs.declared.scheduler.Choice.TheVariants.{Make, End}

-- a run that is to end has ended so
abbrev pub IsChoice : Choice → State → Type 0
IsChoice (Make event) s = Unit {0}
IsChoice (End ending) s = HasEndedSo ending s
