use Rattle.std.proofs.Common.{take}
use Rattle.evm_model.specs.Replay.{IsReplayOf}
use Rattle.evm_model.specs.State.{State}
use Rattle.hunt_failures.specs.Failures.{FailsAsWanted}
use Rattle.hunt_schedules.specs.Branches.{events_of_turns}
use Rattle.hunt_schedules.specs.Walks.{HasPassed}
use Rattle.hunt_search.proofs.walking.begin_with.Given as goal

abbrev pub invariant-turns : goal.invariant-turns
invariant-turns l = HasPassed (FailsAsWanted l.wanted) l.initial.machine (events_of_turns (take l.turn-index l.turns)) l.machine × ((first : State) → IsReplayOf first l.initial.machine → IsReplayOf first l.machine)
