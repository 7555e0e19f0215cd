-- The branches of a search: schedules that go on with the processor that stepped last.
use Rattle.std.specs.Prelude.{◌≡◌, ℕ, ◌<◌, ◌≢◌, List, [], ◌∷◌, ◌++◌, Some, true, replicate, slice_get, ⊤}
use Rattle.evm_lines.specs.Lines.{has_line}
use Rattle.evm_model.specs.Event.{Event}
use Rattle.evm_model.specs.declared.event.Event.TheVariants.{Step, Tick, Raise}
use Rattle.hunt_schedules.specs.Schedules.{stepped}
use Rattle.hunt_schedules.specs.declared.branch.Branch.{Branch}
use Rattle.hunt_schedules.specs.declared.branch.Choice.{Choice}
use Rattle.hunt_schedules.specs.declared.branch.Choice.TheVariants as choices
use Rattle.hunt_schedules.specs.declared.branch.CpuTurn.{CpuTurn}

abbrev pub event_of_choice : Choice → Event
event_of_choice (choices.Step c) = Step c
event_of_choice choices.Tick = Tick
event_of_choice (choices.Raise c line) = Raise c line

-- Steps of one processor, and an event that is a switch
abbrev pub turn_events : CpuTurn → List Event
turn_events turn = replicate turn.steps (Step turn.cpu) ++ event_of_choice turn.choice ∷ []

-- the events with which a branch begins
abbrev pub events_of_turns : List CpuTurn → List Event
events_of_turns [] = []
events_of_turns (turn ∷ turns) = turn_events turn ++ events_of_turns turns

-- the branch that goes another way behind some steps
abbrev pub forked : Branch → ℕ → Choice → Branch
forked branch steps choice = record {
  turns = record { items = branch.turns.items ++ record { cpu = branch.cpu; steps = steps; choice = choice } ∷ [] };
  cpu = stepped branch.cpu (event_of_choice choice);
}

-- a branch is among others
abbrev pub HasBranch : List Branch → Branch → Type 0
HasBranch branches branch = (j : ℕ) × (slice_get branches j ≡ Some branch)

-- each branch is where it was
abbrev pub KeepsBranches : List Branch → List Branch → Type 0
KeepsBranches before after = (j : ℕ) (branch : Branch) → slice_get before j ≡ Some branch → slice_get after j ≡ Some branch

-- a switch from processor c, where these processors may step, and these lines may be raised on `cpus` processors
abbrev pub IsSwitch : ℕ → List ℕ → ℕ → List ℕ → Choice → Type 0
IsSwitch c awake cpus lines (choices.Step d) = (d ≢ c) × (i : ℕ) × (slice_get awake i ≡ Some d)
IsSwitch c awake cpus lines choices.Tick = ⊤
IsSwitch c awake cpus lines (choices.Raise d line) = (d < cpus) × (has_line lines line ≡ true)

-- each way that a branch may go behind some steps is among the branches
abbrev pub HasSwitches : List Branch → Branch → ℕ → List ℕ → ℕ → List ℕ → Type 0
HasSwitches branches branch steps awake cpus lines = (choice : Choice) → IsSwitch branch.cpu awake cpus lines choice → HasBranch branches (forked branch steps choice)
