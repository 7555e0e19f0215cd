use Rattle.evm_model.specs.Replay.{IsReplayOf}
use Rattle.evm_model.specs.State.{State}
use Rattle.hunt_schedules.proofs.running.play.Given as goal

-- a machine that was its journal's replay is so still
abbrev pub invariant-events : goal.invariant-events
invariant-events l = (first : State) → IsReplayOf first l.fn.machine → IsReplayOf first l.machine
