-- A search of all states that schedules reach: paths that lead to states, the states that were visited, and what was done at each of them.
use Rattle.std.specs.Prelude.{◌≡◌, ℕ, ◌+◌, ◌<◌, ◌≤◌, ◌≢◌, ◌⊎◌, List, [], ◌∷◌, ◌++◌, Some, Ok, true, false, replicate, slice_get, ⊤}
use Rattle.evm_exec.specs.declared.hart.Hart.{Hart}
use Rattle.evm_model.specs.Event.{Event}
use Rattle.evm_model.specs.Replay.{apply, replay}
use Rattle.evm_model.specs.State.{State}
use Rattle.evm_model.specs.declared.event.Answer.{Answer}
use Rattle.evm_model.specs.declared.event.Event.TheVariants.{Step}
use Rattle.hunt_schedules.specs.Branches.{event_of_choice, events_of_turns}
use Rattle.hunt_schedules.specs.Schedules.{stepped}
use Rattle.hunt_schedules.specs.declared.branch.Choice.{Choice}
use Rattle.hunt_schedules.specs.declared.branch.CpuTurn.{CpuTurn}
use Rattle.law_runs.specs.Ahead.{actor, private_hart, skips, text}
use Rattle.law_runs.specs.Alike.{AlikeBoards}
use Rattle.law_runs.specs.Sparing.{spares_text}
use Rattle.law_runs.specs.Timeless.{AlikeTimeless, CallsNoClock, HasNoTimes}
use Rattle.hunt_space.specs.Raises.{raise_count}
use Rattle.hunt_space.specs.declared.bounds.Bound.{Bound}
use Rattle.hunt_space.specs.declared.bounds.Bound.TheVariants.{AtMost, Free}
use Rattle.hunt_space.specs.declared.bounds.EventBounds.{EventBounds}
use Rattle.hunt_space.specs.declared.path.Path.{Path}
use Rattle.hunt_space.specs.declared.visited.StatePlace.{StatePlace}

-- no time is named at a state, where any number of ticks may come
abbrev pub FitsClock : Bound → State → Type 0
FitsClock (AtMost most) s = ⊤
FitsClock Free s = HasNoTimes s.board.parts

-- an event doesn't read the clock there, nor name a time
abbrev pub CallsNone : Bound → Event → State → Type 0
CallsNone (AtMost most) event s = ⊤
CallsNone Free event s = CallsNoClock event s.board

-- where the raises are bounded, a state has had no more of them than another
abbrev pub RaisesNoMore : Bound → State → State → Type 0
RaisesNoMore (AtMost most) seen s = raise_count seen.journal ≤ raise_count s.journal
RaisesNoMore Free seen s = ⊤

-- states whose boards are alike; clocks may differ where any number of ticks may come
abbrev pub AreAlikeStates : Bound → State → State → Type 0
AreAlikeStates (AtMost most) seen s = AlikeBoards seen.board s.board
AreAlikeStates Free seen s = AlikeTimeless seen.board s.board × HasNoTimes seen.board.parts × HasNoTimes s.board.parts

-- the state that turns and then some steps of a processor lead to
abbrev pub IsAt : State → List CpuTurn → ℕ → ℕ → State → Type 0
IsAt first turns cpu steps s = s ≡ replay first (events_of_turns turns ++ replicate steps (Step cpu))

-- ---- lists that grow
abbrev pub KeepsPaths : List Path → List Path → Type 0
KeepsPaths before after = (j : ℕ) (path : Path) → slice_get before j ≡ Some path → slice_get after j ≡ Some path

abbrev pub KeepsPlaces : List StatePlace → List StatePlace → Type 0
KeepsPlaces before after = (i : ℕ) (place : StatePlace) → slice_get before i ≡ Some place → slice_get after i ≡ Some place

-- ---- the states that were visited
-- path number `number` has these turns, and then goes on with this processor
abbrev pub IsPathAt : List Path → ℕ → List CpuTurn → ℕ → Type 0
IsPathAt paths number turns cpu = (path : Path) × (slice_get paths number ≡ Some path) × (path.turns.items ≡ turns) × (path.cpu ≡ cpu)

-- a state was visited: its place is among the places
pub record IsVisited (first : State) (paths : List Path) (places : List StatePlace) (s : State) : Type 0 where
  pub index : ℕ
  pub place : StatePlace
  pub turns : List CpuTurn
  pub cpu : ℕ
  pub there : slice_get places index ≡ Some place
  pub path : IsPathAt paths place.path turns cpu
  pub reached : IsAt first turns cpu place.steps s

-- the state of a place is alike, and has had no more raises
pub record HasAlikeAt (bounds : EventBounds) (first : State) (paths : List Path) (place : StatePlace) (s : State) : Type 0 where
  pub turns : List CpuTurn
  pub cpu : ℕ
  pub seen : State
  pub path : IsPathAt paths place.path turns cpu
  pub reached : IsAt first turns cpu place.steps seen
  pub alike : AreAlikeStates bounds.ticks seen s
  pub raised : RaisesNoMore bounds.raises seen s

-- a state that was visited is alike, and has had no more raises
abbrev pub IsKnown : EventBounds → State → List Path → List StatePlace → State → Type 0
IsKnown bounds first paths places s = (seen : State) × IsVisited first paths places seen × AreAlikeStates bounds.ticks seen s × RaisesNoMore bounds.raises seen s

-- ---- what was done at a state
-- an event is accepted and harmless, and leads to a state that is known
pub record StaysKnown (bounds : EventBounds) (Fails : State → Event → Answer → State → Type 0) (first : State) (paths : List Path) (places : List StatePlace) (s : State) (event : Event) : Type 0 where
  pub after : State
  pub answer : Answer
  pub accepted : apply s event ≡ Ok (after, answer)
  pub harmless : Fails s event answer after → ⊥
  pub known : IsKnown bounds first paths places after

-- a path has these turns, and then goes on with this processor
abbrev pub HasPath : List Path → List CpuTurn → ℕ → Type 0
HasPath paths turns cpu = (j : ℕ) × IsPathAt paths j turns cpu

-- the turns of a path, some steps of its processor, and a choice
abbrev pub with_turn : List CpuTurn → ℕ → ℕ → Choice → List CpuTurn
with_turn turns cpu steps choice = turns ++ record { cpu = cpu; steps = steps; choice = choice } ∷ []

-- each event that may come at a state of a path, but a step of the path's processor, begins a path of its own
abbrev pub AreAllPaths : (State → Event → Type 0) → List Path → List CpuTurn → ℕ → ℕ → State → Type 0
AreAllPaths May paths turns cpu steps s =
    (choice : Choice) → May s (event_of_choice choice) → event_of_choice choice ≢ Step cpu → HasPath paths (with_turn turns cpu steps choice) (stepped cpu (event_of_choice choice))

-- no breakpoint is set, and no processor is to pass one
pub record IsUndebugged (s : State) : Type 0 where
  pub unbroken : s.board.breakpoints ≡ []
  pub unskipped : (c : ℕ) → skips (slice_get s.board.parts.processors c) ≡ false

-- each Step that may come stores to no byte of the text
abbrev pub SparesText : ℕ → ℕ → (State → Event → Type 0) → State → Type 0
SparesText low high May s = (c t : ℕ) → May s (Step c) → actor c s.board ≡ Some t → spares_text low high s.board.memory (slice_get s.board.parts.harts t) ≡ true

-- all is done at a state of a path
pub record IsExplored (low high : ℕ) (bounds : EventBounds) (May : State → Event → Type 0) (Fails : State → Event → Answer → State → Type 0) (first : State) (paths : List Path) (places : List StatePlace) (turns : List CpuTurn) (cpu steps : ℕ) (s : State) : Type 0 where
  pub forks : AreAllPaths May paths turns cpu steps s
  pub calls : (event : Event) → May s event → CallsNone bounds.ticks event s
  pub next : May s (Step cpu) → StaysKnown bounds Fails first paths places s (Step cpu)
  pub spares : SparesText low high May s
  pub undebugged : IsUndebugged s

-- .. at the state of a place
pub record IsExploredAt (low high : ℕ) (bounds : EventBounds) (May : State → Event → Type 0) (Fails : State → Event → Answer → State → Type 0) (first : State) (paths : List Path) (places : List StatePlace) (place : StatePlace) : Type 0 where
  pub turns : List CpuTurn
  pub cpu : ℕ
  pub path : IsPathAt paths place.path turns cpu
  pub done : (s : State) → IsAt first turns cpu place.steps s → IsExplored low high bounds May Fails first paths places turns cpu place.steps s

-- a processor does a private row of the text next, and its Step is accepted
pub record GoesPrivately (low high cpu : ℕ) (s : State) : Type 0 where
  pub task : ℕ
  pub acts : actor cpu s.board ≡ Some task
  pub undebugged : IsUndebugged s
  pub next : Hart
  pub private : private_hart (text low high s.board.memory) (slice_get s.board.parts.harts task) ≡ Some next
  pub after : State
  pub answer : Answer
  pub accepted : apply s (Step cpu) ≡ Ok (after, answer)

-- the state of place i is passed by the private row that leads to the next place
pub record IsPassedAt (low high : ℕ) (first : State) (paths : List Path) (places : List StatePlace) (i : ℕ) (place : StatePlace) : Type 0 where
  pub turns : List CpuTurn
  pub cpu : ℕ
  pub path : IsPathAt paths place.path turns cpu
  pub next : slice_get places (i + 1) ≡ Some (record place { steps = place.steps + 1 })
  pub done : (s : State) → IsAt first turns cpu place.steps s → GoesPrivately low high cpu s

-- each of the first n places is explored or passed
abbrev pub AreExplored : ℕ → ℕ → EventBounds → (State → Event → Type 0) → (State → Event → Answer → State → Type 0) → State → List Path → List StatePlace → ℕ → Type 0
AreExplored low high bounds May Fails first paths places n = (i : ℕ) (place : StatePlace) → i < n → slice_get places i ≡ Some place
    → IsExploredAt low high bounds May Fails first paths places place ⊎ IsPassedAt low high first paths places i place

-- a path was gone: the choice that ends its last turn leads to a state that is known, or it is the boot and that is known
pub record IsGone (bounds : EventBounds) (Fails : State → Event → Answer → State → Type 0) (first : State) (paths : List Path) (places : List StatePlace) (turns : List CpuTurn) : Type 0 where
  pub root : turns ≡ [] → IsKnown bounds first paths places first
  pub last : (front : List CpuTurn) (turn : CpuTurn) (s : State) → turns ≡ front ++ turn ∷ [] → IsAt first front turn.cpu turn.steps s → StaysKnown bounds Fails first paths places s (event_of_choice turn.choice)

-- each of the first n paths was gone
abbrev pub AreGone : EventBounds → (State → Event → Answer → State → Type 0) → State → List Path → List StatePlace → ℕ → Type 0
AreGone bounds Fails first paths places n = (j : ℕ) (path : Path) → j < n → slice_get paths j ≡ Some path → IsGone bounds Fails first paths places path.turns.items
