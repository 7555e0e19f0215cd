-- Every schedule of a program, however long it is.
use Rattle.std.specs.Prelude.{ℕ, ◌<◌, List, [], ◌∷◌, ⊤}
use Rattle.evm_ram.specs.Images.{Contents}
use Rattle.evm_model.specs.Event.{Event}
use Rattle.evm_model.specs.Replay.{apply}
use Rattle.evm_model.specs.State.{State}
use Rattle.evm_model.specs.declared.boot.Boot.{Boot}
use Rattle.evm_model.specs.declared.event.Event.TheVariants.{Step, Tick, Raise}
use Rattle.hunt_failures.specs.Failures.{FailsAsWanted}
use Rattle.hunt_failures.specs.declared.wanted.Wanted.{Wanted}
use Rattle.hunt_schedules.specs.Beginning.{Begins}
use Rattle.hunt_schedules.specs.Making.{MayMake}
use Rattle.hunt_schedules.specs.Schedules.{Behind, NoneFails}
use Rattle.hunt_space.specs.Raises.{raise_count}
use Rattle.hunt_space.specs.declared.bounds.Bound.{Bound}
use Rattle.hunt_space.specs.declared.bounds.Bound.TheVariants.{AtMost, Free}
use Rattle.hunt_space.specs.declared.bounds.EventBounds.{EventBounds}

-- one more may come behind a number of them
abbrev pub MayHaveMore : Bound → ℕ → Type 0
MayHaveMore (AtMost most) count = count < most
MayHaveMore Free count = ⊤

-- a schedule that raises these lines, within bounds of its ticks and raises, may make an event at a state
abbrev pub MayCome : List ℕ → EventBounds → State → Event → Type 0
MayCome lines bounds s (Step c) = MayMake lines s (Step c)
MayCome lines bounds s Tick = MayMake lines s Tick × MayHaveMore bounds.ticks s.board.parts.ticks
MayCome lines bounds s (Raise c line) = MayMake lines s (Raise c line) × MayHaveMore bounds.raises (raise_count s.journal)
MayCome lines bounds s _ = ⊥

-- events that may come, one after the other, and that are accepted
abbrev pub IsAnySchedule : (State → Event → Type 0) → State → List Event → Type 0
IsAnySchedule May s [] = ⊤
IsAnySchedule May s (event ∷ events) = May s event × Behind (apply s event) (λ after. IsAnySchedule May after events)

-- the boot numbers with another capacity of the journal
abbrev pub with_capacity : ℕ → Boot → Boot
with_capacity capacity boot = record boot { capacity = capacity }

-- from the boot with an image no schedule of any length fails in a way that is looked for, whatever the capacity of the journal
abbrev pub NeverFailsAtAll : Contents → Boot → Wanted → EventBounds → Type 0
NeverFailsAtAll image boot wanted bounds =
    (capacity : ℕ) (first : State) (events : List Event) → Begins image (with_capacity capacity boot) first → IsAnySchedule (MayCome wanted.lines bounds) first events → NoneFails (FailsAsWanted wanted) first events
