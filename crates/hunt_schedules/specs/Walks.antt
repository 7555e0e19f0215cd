-- A branch that goes on with its processor, step by step.
use Rattle.std.specs.Prelude.{◌≡◌, ℕ, ◌<◌, List, ◌++◌, Ok, length, replicate}
use Rattle.evm_model.specs.Event.{Event}
use Rattle.evm_model.specs.Replay.{apply, replay}
use Rattle.evm_model.specs.State.{State}
use Rattle.evm_model.specs.declared.event.Answer.{Answer}
use Rattle.evm_model.specs.declared.event.Event.TheVariants.{Step}
use Rattle.hunt_schedules.specs.Branches.{event_of_choice, events_of_turns, forked, HasBranch}
use Rattle.hunt_schedules.specs.Schedules.{switches, NoneFails}
use Rattle.hunt_schedules.specs.declared.branch.Branch.{Branch}
use Rattle.hunt_schedules.specs.declared.branch.Choice.{Choice}

-- events have led from one state to another, and none made the machine fail
pub record HasPassed (Fails : State → Event → Answer → State → Type 0) (before : State) (events : List Event) (after : State) : Type 0 where
  pub harmless : NoneFails Fails before events
  pub reached : after ≡ replay before events

-- a state that a branch reaches by some steps
abbrev pub IsReached : State → Branch → ℕ → State → Type 0
IsReached first branch steps s = s ≡ replay first (events_of_turns branch.turns.items ++ replicate steps (Step branch.cpu))

-- each switch that may be made at a state is a branch, if there may be one more
abbrev pub AreForked : (State → Event → Type 0) → ℕ → List Branch → Branch → ℕ → State → Type 0
AreForked May most branches branch steps s =
    length branch.turns.items < most → (choice : Choice) → May s (event_of_choice choice) → switches branch.cpu (event_of_choice choice) ≡ 1 → HasBranch branches (forked branch steps choice)

-- the processor of a branch has made a step that didn't make the machine fail
abbrev pub HasStepped : (State → Event → Answer → State → Type 0) → Branch → State → State → Type 0
HasStepped Fails branch before after = (answer : Answer) × (apply before (Step branch.cpu) ≡ Ok (after, answer)) × (Fails before (Step branch.cpu) answer after → ⊥)

-- the processor of a branch can't make a step that is accepted
abbrev pub CantStep : (State → Event → Type 0) → Branch → State → Type 0
CantStep May branch s = May s (Step branch.cpu) → (after : State) (answer : Answer) → apply s (Step branch.cpu) ≡ Ok (after, answer) → ⊥
