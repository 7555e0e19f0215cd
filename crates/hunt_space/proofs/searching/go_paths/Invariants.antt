use Rattle.std.proofs.Common.{◌≡◌, ◌≤◌, ◌<◌, true, ◌⊎◌, [], Some, false, length}
use Rattle.std.specs.Prelude.{slice_get}
use Rattle.evm_model.specs.Good.{GoodState}
use Rattle.evm_model.specs.Replay.{IsReplayOf}
use Rattle.evm_model.specs.State.{State}
use Rattle.hunt_schedules.specs.Beginning.{Begins}
use Rattle.hunt_search.specs.Hunts.{AreFound}
use Rattle.hunt_space.specs.Searched.{IsSearchedFrom}
use Rattle.hunt_space.specs.Standing.{AreStanding}
use Rattle.hunt_space.specs.declared.path.Path.{Path}
use Rattle.hunt_space.proofs.searching.go_paths.Given as goal

abbrev pub invariant-paths : goal.invariant-paths
invariant-paths g l = record {
  found : AreFound l.target.image.now l.target.boot.now l.target.wanted.now.lines l.report.rows.items;
  begins : Begins l.target.image.now l.target.boot.now l.scope.first.now;
  fresh : IsReplayOf l.scope.first.now l.scope.first.now;
  stands : AreStanding l.scope.first.now l.search.kept l.search.visited.seen;
  root : (root : Path) × (slice_get l.search.frontier.paths.items 0 ≡ Some root) × (root.turns.items ≡ []);
  boots : (l.number ≡ 0) ⊎ ((first : State) × Begins l.target.image.now l.target.boot.now first × GoodState first);
  within : l.number ≤ length l.search.frontier.paths.items;
  guarded : l.target.wanted.now.demotion ≡ true → 0 < l.scope.text.high → l.target.boot.now.watchdog ≡ 0;
  searched : l.report.rows.items ≡ [] → l.search.frontier.cut ≡ false → (first : State) → Begins l.target.image.now l.target.boot.now first
      → IsSearchedFrom l.scope.text.low l.scope.text.high l.target.wanted.now l.scope.bounds first l.search.frontier.paths.items l.search.visited.places.items l.number;
}
