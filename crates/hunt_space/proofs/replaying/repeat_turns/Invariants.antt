use Rattle.std.proofs.Common.{◌≡◌, take}
use Rattle.evm_model.specs.Replay.{IsReplayOf, replay}
use Rattle.evm_model.specs.State.{State}
use Rattle.hunt_schedules.specs.Branches.{events_of_turns}
use Rattle.hunt_space.proofs.replaying.repeat_turns.Given as goal

abbrev pub invariant-turns : goal.invariant-turns
invariant-turns l = (l.machine ≡ replay l.initial.machine (events_of_turns (take l.turn-index l.turns))) × ((first : State) → IsReplayOf first l.initial.machine → IsReplayOf first l.machine)
