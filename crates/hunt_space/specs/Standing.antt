-- A machine that is taken from one state to another.
use Rattle.std.specs.Prelude.{◌≡◌, ℕ, ◌≤◌, List}
use Rattle.evm_model.specs.Replay.{IsReplayOf}
use Rattle.evm_model.specs.State.{State}
use Rattle.hunt_schedules.specs.declared.branch.CpuTurn.{CpuTurn}
use Rattle.hunt_space.specs.Going.{BeginsSearch}
use Rattle.hunt_space.specs.Space.{IsAt}
use Rattle.hunt_space.specs.declared.going.Going.{Going}
use Rattle.hunt_space.specs.declared.standing.Stand.{Stand}

-- the machine is at the state that its turns and steps lead to
pub record IsStanding (first : State) (stand : Stand) : Type 0 where
  pub at : IsAt first stand.turns.items stand.cpu stand.steps stand.machine.value
  pub replays : IsReplayOf first stand.machine.value

-- more steps alone lead to a state
pub record IsOnTheWay (stand : Stand) (turns : List CpuTurn) (cpu steps : ℕ) : Type 0 where
  pub turned : stand.turns.items ≡ turns
  pub goes : stand.cpu ≡ cpu
  pub before : stand.steps ≤ steps

-- the first machine of a search begins with the program, and has had no event
pub record BeginsAfresh (going : Going) : Type 0 where
  pub begins : BeginsSearch going going.first.now
  pub fresh : IsReplayOf going.first.now going.first.now

-- both machines that a search takes from state to state stand where it has noted
pub record AreStanding (first : State) (kept seen : Stand) : Type 0 where
  pub keeps : IsStanding first kept
  pub sees : IsStanding first seen
