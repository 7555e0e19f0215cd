use Rattle.std.proofs.Common.{◌≡◌}
use Rattle.evm_model.specs.Replay.{IsReplayOf}
use Rattle.evm_model.specs.State.{State}
use Rattle.hunt_space.specs.Going.{LeadsTo}
use Rattle.hunt_space.specs.Passing.{PassesRows}
use Rattle.hunt_space.specs.Space.{KeepsPlaces}
use Rattle.hunt_space.proofs.passing.pass_rows.Given as goal

abbrev pub invariant-rows : goal.invariant-rows
invariant-rows l = record {
  keeps : KeepsPlaces l.initial.visited.places.items l.visited.places.items;
  seen : l.visited.seen ≡ l.initial.visited.seen;
  leads : LeadsTo l.going l.steps l.machine;
  passes : PassesRows l.going l.initial.visited.places.items l.visited.places.items l.from l.steps l.initial.machine l.machine;
  replays : (first : State) → IsReplayOf first l.initial.machine → IsReplayOf first l.machine;
}
