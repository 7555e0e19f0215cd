use Rattle.std.proofs.Common.{◌≡◌, false}
use Rattle.evm_model.specs.Replay.{IsReplayOf}
use Rattle.evm_model.specs.State.{State}
use Rattle.hunt_space.specs.Going.{IsNumbered, LeadsTo}
use Rattle.hunt_space.specs.Space.{KeepsPaths, KeepsPlaces}
use Rattle.hunt_space.specs.Standing.{BeginsAfresh, IsStanding}
use Rattle.hunt_space.proofs.Walks.{IsAwaiting}
use Rattle.hunt_space.proofs.walking.go_on.Given as goal

abbrev pub invariant-states : goal.invariant-states
invariant-states l = record {
  keeps_paths : KeepsPaths l.initial.frontier.paths.items l.frontier.paths.items;
  keeps_places : KeepsPlaces l.initial.visited.places.items l.visited.places.items;
  cut : l.frontier.cut ≡ false → l.initial.frontier.cut ≡ false;
  replays : (first : State) → IsReplayOf first l.initial.machine → IsReplayOf first l.machine;
  first : BeginsAfresh l.going;
  stands : IsStanding l.going.first.now l.visited.seen;
  there : IsNumbered l.going l.frontier.paths.items;
  at : LeadsTo l.going l.steps l.machine;
  goes : l.frontier.cut ≡ false → IsAwaiting l.going l.initial.frontier.paths.items l.frontier.paths.items l.initial.visited.places.items l.visited.places.items l.initial.machine l.machine;
}
