-- Private rows that are made at once.
use Rattle.std.specs.Prelude.{◌≡◌, ℕ, ◌+◌, List, [], ◌∷◌, ◌++◌, Bool, true, false, Some, Ok, suc, length, slice_get}
use Rattle.evm_exec.specs.declared.hart.Hart.{Hart}
use Rattle.evm_model.specs.Replay.{apply}
use Rattle.evm_model.specs.State.{State}
use Rattle.evm_model.specs.declared.event.Answer.{Answer}
use Rattle.evm_model.specs.declared.event.Event.TheVariants.{Step}
use Rattle.hunt_failures.specs.declared.wanted.Wanted.{Wanted}
use Rattle.hunt_schedules.specs.declared.branch.CpuTurn.{CpuTurn}
use Rattle.law_runs.specs.Ahead.{actor, private_hart, text}
use Rattle.hunt_failures.specs.Failures.{FailsAsWanted}
use Rattle.hunt_space.specs.Going.{HasExplored, Knows, BeginsSearch}
use Rattle.hunt_space.specs.Runs.{MayCome}
use Rattle.hunt_space.specs.Space.{AreExplored, GoesPrivately, IsAt, IsPathAt, IsUndebugged}
use Rattle.hunt_space.specs.declared.bounds.EventBounds.{EventBounds}
use Rattle.hunt_space.specs.declared.going.Going.{Going}
use Rattle.hunt_space.specs.declared.path.Path.{Path}
use Rattle.hunt_space.specs.declared.visited.StatePlace.{StatePlace}

-- a processor does a private row of the text next
pub record IsPrivate (low high cpu : ℕ) (s : State) : Type 0 where
  pub task : ℕ
  pub acts : actor cpu s.board ≡ Some task
  pub undebugged : IsUndebugged s
  pub next : Hart
  pub private : private_hart (text low high s.board.memory) (slice_get s.board.parts.harts task) ≡ Some next

-- the path's own processor did a private row
pub record IsPassedBy (going : Going) (s t : State) : Type 0 where
  pub private : GoesPrivately going.text.low going.text.high going.path.now.cpu s
  pub answer : Answer
  pub accepted : apply s (Step going.path.now.cpu) ≡ Ok (t, answer)

-- what came of a look at the next row: it was private, and the state behind it is visited, or nothing changes
abbrev pub ComesOfRow : Going → ℕ → State → State → List StatePlace → List StatePlace → Bool → Type 0
ComesOfRow going steps s t places after true = IsPassedBy going s t × (after ≡ places ++ record { path = going.number; steps = steps + 1 } ∷ [])
ComesOfRow going steps s t places after false = (t ≡ s) × (after ≡ places)

-- ---- a path under way
-- all is done at each place but the last, which is that of this state
pub record IsUnderWay (low high : ℕ) (wanted : Wanted) (bounds : EventBounds) (first : State) (paths : List Path) (places : List StatePlace) (number : ℕ) (turns : List CpuTurn) (cpu steps : ℕ) (s : State) : Type 0 where
  pub count : ℕ
  pub counted : length places ≡ suc count
  pub last : slice_get places count ≡ Some (record { path = number; steps = steps })
  pub path : IsPathAt paths number turns cpu
  pub at : IsAt first turns cpu steps s
  pub done : AreExplored low high bounds (MayCome wanted.lines bounds) (FailsAsWanted wanted) first paths places count

-- the state that some steps lead to was visited, and has the last place; the others are explored or passed
pub record IsVisiting (going : Going) (before paths : List Path) (seen places : List StatePlace) (steps : ℕ) (begun s : State) : Type 0 where
  pub known : Knows going paths places begun
  pub way : (first : State) → BeginsSearch going first → HasExplored going first before seen (length seen)
      → IsUnderWay going.text.low going.text.high going.target.wanted.now going.bounds first paths places going.number going.path.now.turns.items going.path.now.cpu steps s

-- the path goes on from a state that has the last place to another
abbrev pub PassesRows : Going → List StatePlace → List StatePlace → ℕ → ℕ → State → State → Type 0
PassesRows going places after from to s t = (before paths : List Path) (seen : List StatePlace) (begun : State) → IsVisiting going before paths seen places from begun s → IsVisiting going before paths seen after to begun t
