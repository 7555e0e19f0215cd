-- What a search of all schedules does with one branch.
use Rattle.std.specs.Prelude.{◌≡◌, Bool, true, false}
use Rattle.evm_model.specs.State.{State}
use Rattle.hunt_failures.specs.Failures.{FailsAsWanted}
use Rattle.hunt_schedules.specs.Making.{MayMake}
use Rattle.hunt_schedules.specs.Runs.{HasFailed}
use Rattle.hunt_schedules.specs.declared.running.RunOutcome.{RunOutcome}
use Rattle.hunt_schedules.specs.declared.running.RunOutcome.TheVariants.{Failed, Over, Full}
use Rattle.hunt_failures.specs.declared.wanted.Wanted.{Wanted}
use Rattle.hunt_schedules.specs.Walks.{CantStep}
use Rattle.hunt_schedules.specs.declared.branch.Branch.{Branch}

abbrev pub is_failed : RunOutcome → Bool
is_failed (Failed failure) = true
is_failed Over = false
is_failed Full = false

-- why a branch ends: its last step made the machine fail, or its processor can't step
abbrev pub EndsBranch : Wanted → Branch → State → State → RunOutcome → Type 0
EndsBranch wanted branch before after (Failed failure) = HasFailed wanted.lines failure after
EndsBranch wanted branch before after Over = CantStep (MayMake wanted.lines) branch before
EndsBranch wanted branch before after Full = CantStep (MayMake wanted.lines) branch before
