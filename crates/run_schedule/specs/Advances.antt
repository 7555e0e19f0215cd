-- What one event has done to a machine and to what is printed.
use Rattle.std.specs.Prelude.{◌≡◌, ◌+◌, ◌⊎◌, [], ◌∷◌, ◌++◌, Option, Some, None, Ok, length}
use Rattle.evm_model.specs.Event.{Event}
use Rattle.evm_model.specs.Replay.{apply}
use Rattle.evm_model.specs.State.{State}
use Rattle.evm_model.specs.declared.event.Answer.{Answer}
use Rattle.run_schedule.specs.Console.{Printed, event_printed}
use Rattle.run_schedule.specs.declared.ending.RunEnd.{RunEnd}

-- the event was made
pub record IsEventMade (event : Event) (old new : State) (before so : Printed) : Type 0 where
  pub answer : Answer
  pub applied : apply old event ≡ Ok (new, answer)
  pub journaled : new.journal ≡ old.journal ++ event ∷ []
  pub booted : new.boot ≡ old.boot
  pub printed : so ≡ event_printed event old (new, answer) before

-- nothing was changed
pub record IsLeft (old new : State) (before so : Printed) : Type 0 where
  pub machine : new ≡ old
  pub printed : so ≡ before

-- the event was made, unless the run has ended
abbrev pub HasAdvanced : Option RunEnd → Event → State → State → Printed → Printed → Type 0
HasAdvanced None event old new before so = IsEventMade event old new before so
HasAdvanced (Some ending) event old new before so = IsEventMade event old new before so ⊎ IsLeft old new before so

-- the journal has one event more, unless the run has ended
abbrev pub HasGrown : Option RunEnd → State → State → Type 0
HasGrown None old new = (length new.journal ≡ length old.journal + 1) × (new.boot ≡ old.boot)
HasGrown (Some ending) old new = Unit {0}
