-- A hunt sees the same of two machines that are alike without their clocks.
use Rattle.std.proofs.Common.{ℕ, List}
use Rattle.evm_model.specs.Event.{Event}
use Rattle.evm_model.specs.State.{State}
use Rattle.evm_model.specs.declared.event.Answer.{Answer}
use Rattle.hunt_failures.specs.Failures.{FailsAsWanted}
use Rattle.hunt_failures.specs.declared.wanted.Wanted.{Wanted}
use Rattle.hunt_schedules.specs.Making.{MayMake}
use Rattle.hunt_space.specs.Alike.{ChoicesAreTimeless, FailuresAreTimeless}
use Rattle.hunt_space.proofs.Failing.{fails-same}
use Rattle.hunt_space.proofs.Making.{makes-same}
use Rattle.hunt_space.proofs.Reading.{reads-timeless}
use Rattle.law_runs.specs.Timeless.{AlikeTimeless}

pub fails-timeless : (wanted : Wanted) (s t after behind : State) (event : Event) (answer : Answer) → AlikeTimeless s.board t.board → AlikeTimeless after.board behind.board
    → FailsAsWanted wanted s event answer after → FailsAsWanted wanted t event answer behind
fails-timeless wanted s t after behind event answer h g f =
    (f.0, f.1, fails-same s after t behind (reads-timeless s.board t.board h) (reads-timeless after.board behind.board g) wanted f.0 event answer f.1 f.2)

pub may-timeless : (lines : List ℕ) (s t : State) (event : Event) → AlikeTimeless s.board t.board → MayMake lines s event → MayMake lines t event
may-timeless lines s t event h made = makes-same s t (reads-timeless s.board t.board h) lines event made

pub failures_are_timeless : FailuresAreTimeless
failures_are_timeless wanted before after before' after' event answer h g f = fails-timeless wanted before before' after after' event answer h g f

pub choices_are_timeless : ChoicesAreTimeless
choices_are_timeless lines s s' event h made = may-timeless lines s s' event h made
