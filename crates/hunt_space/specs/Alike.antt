-- Laws of what a hunt sees of boards that are alike.
use Rattle.std.specs.Prelude.{List, ℕ}
use Rattle.evm_model.specs.Event.{Event}
use Rattle.evm_model.specs.State.{State}
use Rattle.evm_model.specs.declared.event.Answer.{Answer}
use Rattle.law_runs.specs.Alike.{AlikeBoards}
use Rattle.law_runs.specs.Timeless.{AlikeTimeless}
use Rattle.hunt_failures.specs.Failures.{FailsAsWanted}
use Rattle.hunt_schedules.specs.Making.{MayMake}
use Rattle.hunt_failures.specs.declared.wanted.Wanted.{Wanted}

-- an event that leads from alike boards to alike boards, with one answer, makes both machines fail in a way that is looked for, or neither
abbrev pub FailuresAreAlike : Type 0
FailuresAreAlike = (wanted : Wanted) (before after before' after' : State) (event : Event) (answer : Answer) → AlikeBoards before.board before'.board → AlikeBoards after.board after'.board
    → FailsAsWanted wanted before event answer after → FailsAsWanted wanted before' event answer after'

-- a schedule that raises these lines may make the same events on alike boards
abbrev pub ChoicesAreAlike : Type 0
ChoicesAreAlike = (lines : List ℕ) (s s' : State) (event : Event) → AlikeBoards s.board s'.board → MayMake lines s event → MayMake lines s' event

-- an event that leads from boards that are alike without their clocks to such boards does likewise
abbrev pub FailuresAreTimeless : Type 0
FailuresAreTimeless = (wanted : Wanted) (before after before' after' : State) (event : Event) (answer : Answer) → AlikeTimeless before.board before'.board → AlikeTimeless after.board after'.board
    → FailsAsWanted wanted before event answer after → FailsAsWanted wanted before' event answer after'

-- a schedule that raises these lines may make the same events on boards that are alike without their clocks
abbrev pub ChoicesAreTimeless : Type 0
ChoicesAreTimeless = (lines : List ℕ) (s s' : State) (event : Event) → AlikeTimeless s.board s'.board → MayMake lines s event → MayMake lines s' event
