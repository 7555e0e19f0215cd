-- Which events a schedule may make.
use Rattle.std.specs.Prelude.{◌≡◌, ℕ, ◌<◌, List, true, length}
use Rattle.evm_ram.specs.Images.{Contents}
use Rattle.evm_lines.specs.Lines.{has_line}
use Rattle.evm_model.specs.Event.{Event}
use Rattle.evm_model.specs.State.{State}
use Rattle.evm_model.specs.declared.boot.Boot.{Boot}
use Rattle.evm_model.specs.declared.event.Event.TheVariants.{Step, Tick, Raise}
use Rattle.hunt_failures.specs.Awake.{IsAwake, IsOver}
use Rattle.hunt_failures.specs.Failures.{FailsAsWanted}
use Rattle.hunt_failures.specs.declared.wanted.Wanted.{Wanted}
use Rattle.hunt_schedules.specs.Beginning.{Begins}
use Rattle.hunt_schedules.specs.Schedules.{NoScheduleFails}

-- a schedule that raises these lines may make an event at a state
abbrev pub MayMake : List ℕ → State → Event → Type 0
MayMake lines s (Step c) = IsAwake c s
MayMake lines s Tick = IsOver lines s → ⊥
MayMake lines s (Raise c line) = (IsOver lines s → ⊥) × (c < length s.board.parts.processors) × (has_line lines line ≡ true)
MayMake lines s _ = ⊥

-- from the boot with an image no schedule with at most b switches fails in a way that is looked for; processor 0 steps first
abbrev pub NeverFails : Contents → Boot → Wanted → ℕ → Type 0
NeverFails image boot wanted b = (first : State) → Begins image boot first → NoScheduleFails (MayMake wanted.lines) (FailsAsWanted wanted) 0 b first
