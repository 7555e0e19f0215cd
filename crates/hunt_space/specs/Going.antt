-- The path that a search goes.
use Rattle.std.specs.Prelude.{◌≡◌, ℕ, List, [], ◌∷◌, ◌++◌, Bool, true, length, ⊤}
use Rattle.evm_model.specs.Event.{Event}
use Rattle.evm_model.specs.State.{State}
use Rattle.hunt_failures.specs.Failures.{FailsAsWanted}
use Rattle.hunt_schedules.specs.Beginning.{Begins}
use Rattle.hunt_schedules.specs.Branches.{event_of_choice}
use Rattle.hunt_schedules.specs.Runs.{HasFailed}
use Rattle.hunt_schedules.specs.declared.branch.CpuTurn.{CpuTurn}
use Rattle.hunt_space.specs.Exploring.{IsOpened, LeadsSafely}
use Rattle.hunt_space.specs.Runs.{MayCome}
use Rattle.hunt_space.specs.Space.{AreExplored, IsAt, IsGone, IsKnown, IsPathAt}
use Rattle.hunt_space.specs.declared.attempt.Attempt.{Attempt}
use Rattle.hunt_space.specs.declared.attempt.Attempt.TheVariants.{Harmless, Fails, Refused}
use Rattle.hunt_space.specs.declared.going.Going.{Going}
use Rattle.hunt_space.specs.declared.path.Path.{Path}
use Rattle.hunt_space.specs.declared.seeing.Arrival.{Arrival}
use Rattle.hunt_space.specs.declared.seeing.Arrival.TheVariants.{First, Again, Cut}
use Rattle.hunt_space.specs.declared.visited.StatePlace.{StatePlace}

-- ---- where the path leads
-- a machine begins with the program
abbrev pub BeginsSearch : Going → State → Type 0
BeginsSearch going first = Begins going.target.image.now going.target.boot.now first

abbrev pub MayGo : Going → State → Event → Type 0
MayGo going = MayCome going.target.wanted.now.lines going.bounds

-- the path has its number among the paths
abbrev pub IsNumbered : Going → List Path → Type 0
IsNumbered going paths = IsPathAt paths going.number going.path.now.turns.items going.path.now.cpu

-- some steps of the path lead to a state
abbrev pub LeadsTo : Going → ℕ → State → Type 0
LeadsTo going steps s = (first : State) → BeginsSearch going first → IsAt first going.path.now.turns.items going.path.now.cpu steps s

-- the last turn of the path leads to a state, by an event that is harmless
pub record EndsByTurn (going : Going) (first s : State) : Type 0 where
  pub front : List CpuTurn
  pub turn : CpuTurn
  pub before : State
  pub turns : going.path.now.turns.items ≡ front ++ turn ∷ []
  pub reached : IsAt first front turn.cpu turn.steps before
  pub leads : LeadsSafely going.target.wanted.now before (event_of_choice turn.choice) s

-- what came of the last turn
abbrev pub ComesOfTurn : Going → State → Attempt → Type 0
ComesOfTurn going s Harmless = (first : State) → BeginsSearch going first → EndsByTurn going first s
ComesOfTurn going s (Fails failure) = HasFailed going.target.wanted.now.lines failure s
ComesOfTurn going s Refused = ⊤

-- ---- what is done
-- a state is known
abbrev pub Knows : Going → List Path → List StatePlace → State → Type 0
Knows going paths places s = (first : State) → BeginsSearch going first → IsKnown going.bounds first paths places s

-- what came of a visit of the state that some steps lead to
abbrev pub ComesOfVisit : Going → Bool → List Path → List StatePlace → List StatePlace → ℕ → State → Arrival → Type 0
ComesOfVisit going cut paths places after steps s First = (after ≡ places ++ record { path = going.number; steps = steps } ∷ []) × Knows going paths after s
ComesOfVisit going cut paths places after steps s Again = (after ≡ places) × Knows going paths after s
ComesOfVisit going cut paths places after steps s Cut = cut ≡ true

-- all is done at the state that some steps lead to, but the step of the path's own processor
abbrev pub Opens : Going → List Path → ℕ → State → Type 0
Opens going paths steps s = IsOpened going.text.low going.text.high going.bounds (MayGo going) paths going.path.now.turns.items going.path.now.cpu steps s

-- the first n places are explored or passed
abbrev pub HasExplored : Going → State → List Path → List StatePlace → ℕ → Type 0
HasExplored going first paths places n = AreExplored going.text.low going.text.high going.bounds (MayGo going) (FailsAsWanted going.target.wanted.now) first paths places n

-- if all places were, all are
abbrev pub StaysExplored : Going → List Path → List Path → List StatePlace → List StatePlace → Type 0
StaysExplored going before paths seen places = (first : State) → BeginsSearch going first → HasExplored going first before seen (length seen) → HasExplored going first paths places (length places)

-- the path went on from a state
pub record HasGoneOn (going : Going) (before paths : List Path) (seen places : List StatePlace) (s : State) : Type 0 where
  pub known : Knows going paths places s
  pub explored : StaysExplored going before paths seen places

-- the path was gone
pub record HasGone (going : Going) (before paths : List Path) (seen places : List StatePlace) : Type 0 where
  pub gone : (first : State) → BeginsSearch going first → IsGone going.bounds (FailsAsWanted going.target.wanted.now) first paths places going.path.now.turns.items
  pub explored : StaysExplored going before paths seen places
