-- What a search does at one state.
use Rattle.std.specs.Prelude.{◌≡◌, ℕ, ◌<◌, ◌≢◌, List, Bool, Some, Ok, true, slice_get, ⊤}
use Rattle.evm_lines.specs.Lines.{has_line}
use Rattle.evm_model.specs.Event.{Event}
use Rattle.evm_model.specs.Replay.{apply}
use Rattle.evm_model.specs.State.{State}
use Rattle.evm_model.specs.declared.event.Answer.{Answer}
use Rattle.evm_model.specs.declared.event.Event.TheVariants.{Step}
use Rattle.hunt_failures.specs.Failures.{FailsAsWanted}
use Rattle.hunt_failures.specs.declared.wanted.Wanted.{Wanted}
use Rattle.hunt_schedules.specs.Branches.{event_of_choice}
use Rattle.hunt_schedules.specs.Runs.{HasFailed}
use Rattle.hunt_schedules.specs.Schedules.{stepped}
use Rattle.hunt_schedules.specs.declared.branch.Choice.{Choice}
use Rattle.hunt_schedules.specs.declared.branch.Choice.TheVariants as choices
use Rattle.hunt_schedules.specs.declared.branch.CpuTurn.{CpuTurn}
use Rattle.hunt_schedules.specs.declared.running.RunOutcome.{RunOutcome}
use Rattle.hunt_schedules.specs.declared.running.RunOutcome.TheVariants.{Failed, Over, Full}
use Rattle.hunt_space.specs.Runs.{MayCome}
use Rattle.hunt_space.specs.Space.{AreAllPaths, CallsNone, HasPath, IsUndebugged, SparesText, with_turn}
use Rattle.hunt_space.specs.declared.attempt.Attempt.{Attempt}
use Rattle.hunt_space.specs.declared.attempt.Attempt.TheVariants.{Harmless, Fails, Refused}
use Rattle.hunt_space.specs.declared.bounds.EventBounds.{EventBounds}
use Rattle.hunt_space.specs.declared.path.Path.{Path}

-- the path that makes a choice behind some steps of another is among the paths
abbrev pub HasFork : List Path → Path → ℕ → Choice → Type 0
HasFork paths path steps choice = HasPath paths (with_turn path.turns.items path.cpu steps choice) (stepped path.cpu (event_of_choice choice))

-- whether a choice, which is no step of processor c, may come where these processors may step, and these lines may be raised on `cpus` processors
abbrev pub MayFollow : ℕ → List ℕ → ℕ → List ℕ → Bool → Choice → Type 0
MayFollow c awake cpus lines tick (choices.Step d) = (d ≢ c) × (i : ℕ) × (slice_get awake i ≡ Some d)
MayFollow c awake cpus lines tick choices.Tick = tick ≡ true
MayFollow c awake cpus lines tick (choices.Raise d line) = (d < cpus) × (has_line lines line ≡ true)

-- each of them is a path
abbrev pub HasForks : List Path → Path → ℕ → List ℕ → ℕ → List ℕ → Bool → Type 0
HasForks paths path steps awake cpus lines tick = (choice : Choice) → MayFollow path.cpu awake cpus lines tick choice → HasFork paths path steps choice

-- an event was accepted, and is harmless
pub record LeadsSafely (wanted : Wanted) (before : State) (event : Event) (after : State) : Type 0 where
  pub answer : Answer
  pub accepted : apply before event ≡ Ok (after, answer)
  pub harmless : FailsAsWanted wanted before event answer after → ⊥

-- what came of an event
abbrev pub ComesOfAttempt : Wanted → State → Event → State → Attempt → Type 0
ComesOfAttempt wanted before event after Harmless = LeadsSafely wanted before event after
ComesOfAttempt wanted before event after (Fails failure) = HasFailed wanted.lines failure after
ComesOfAttempt wanted before event after Refused = ⊤

-- all is done at a state of a path, but the step of the path's own processor
pub record IsOpened (low high : ℕ) (bounds : EventBounds) (May : State → Event → Type 0) (paths : List Path) (turns : List CpuTurn) (cpu steps : ℕ) (s : State) : Type 0 where
  pub forks : AreAllPaths May paths turns cpu steps s
  pub calls : (event : Event) → May s event → CallsNone bounds.ticks event s
  pub spares : SparesText low high May s
  pub undebugged : IsUndebugged s

-- why a path ends: its last step made the machine fail, or its processor can't step; a refused step cuts the search
abbrev pub EndsPath : Wanted → EventBounds → ℕ → Bool → State → State → RunOutcome → Type 0
EndsPath wanted bounds cpu cut before after (Failed failure) = HasFailed wanted.lines failure after
EndsPath wanted bounds cpu cut before after Over = MayCome wanted.lines bounds before (Step cpu) → ⊥
EndsPath wanted bounds cpu cut before after Full = cut ≡ true
