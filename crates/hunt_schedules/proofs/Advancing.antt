-- From what is seen of an event to what is known of a machine that made it.
use Rattle.std.proofs.Common.{◌≡◌, Option, Some, None, Ok, refl}
use Rattle.std.specs.Prelude.{IfSome}
use Rattle.evm_model.specs.Event.{Event, event_lent, short_event}
use Rattle.evm_model.specs.Replay.{apply}
use Rattle.evm_model.specs.State.{State}
use Rattle.evm_model.specs.declared.event.Answer.{Answer}
use Rattle.evm_model.specs.declared.event.Event.{Event as EventOf}
use Rattle.evm_model.specs.declared.event.Event.TheVariants.{Step, Tick, Raise, Bell, Stop, Go, StepI, SetReg, SetPc, Poke, Break, Unbreak}
use Rattle.evm_model.specs.declared.event.NoBytes.{NoBytes}
use Rattle.hunt_failures.specs.Failures.{IsSeen}
use Rattle.hunt_failures.specs.declared.failure.Failure.{Failure}
use Rattle.hunt_failures.specs.declared.wanted.Wanted.{Wanted}
use Rattle.hunt_schedules.specs.Runs.{HasFailed}

-- what was seen to fail has failed
pub has_failed : (wanted : Wanted) (before s : State) (event : Event) (answer : Answer) (failed : Option Failure) → apply before event ≡ Ok (s, answer)
    → IsSeen wanted before event answer s failed → IfSome failed (λ failure. HasFailed wanted.lines failure s)
has_failed wanted before s event answer None done h = tt
has_failed wanted before s event answer (Some failure) done h = (before, event, answer, done, h)

-- an event that is lent
pub lent-short : (event : EventOf NoBytes) → event_lent (short_event event) ≡ short_event event
lent-short (Step c) = refl
lent-short Tick = refl
lent-short (Raise c line) = refl
lent-short (Bell c line) = refl
lent-short (Stop c) = refl
lent-short (Go c) = refl
lent-short (StepI c) = refl
lent-short (SetReg c r value) = refl
lent-short (SetPc c pc) = refl
lent-short (Poke address none) = elim none [ ]
lent-short (Break address) = refl
lent-short (Unbreak address) = refl
