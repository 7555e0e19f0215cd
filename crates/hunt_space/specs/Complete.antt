-- Law: a search that has explored or passed each state that it visited, and gone each path, finds each failure.
use Rattle.std.specs.Prelude.{◌≡◌, ℕ, ◌<◌, List, [], Some, true, length, slice_get}
use Rattle.evm_ram.specs.Images.{Contents}
use Rattle.evm_model.specs.Good.{Good, GoodState}
use Rattle.evm_model.specs.State.{State}
use Rattle.evm_model.specs.declared.boot.Boot.{Boot}
use Rattle.hunt_failures.specs.Failures.{FailsAsWanted}
use Rattle.hunt_failures.specs.declared.wanted.Wanted.{Wanted}
use Rattle.hunt_schedules.specs.Beginning.{Begins}
use Rattle.hunt_space.specs.Demoting.{FailsOrDemotes}
use Rattle.hunt_space.specs.Runs.{MayCome, NeverFailsAtAll}
use Rattle.hunt_space.specs.Space.{AreExplored, AreGone}
use Rattle.hunt_space.specs.declared.bounds.EventBounds.{EventBounds}
use Rattle.hunt_space.specs.declared.path.Path.{Path}
use Rattle.hunt_space.specs.declared.visited.StatePlace.{StatePlace}

-- whichever part of RAM the private rows are taken from, no schedule fails, however long it is
abbrev pub SearchesAreComplete : Type 0
SearchesAreComplete = (low high : ℕ) (image : Contents) (boot : Boot) (wanted : Wanted) (bounds : EventBounds) (first : State) (paths : List Path) (places : List StatePlace) (root : Path)
    → Begins image boot first → Good first.board.parts → slice_get paths 0 ≡ Some root → root.turns.items ≡ []
    → AreExplored low high bounds (MayCome wanted.lines bounds) (FailsOrDemotes high wanted) first paths places (length places)
    → AreGone bounds (FailsOrDemotes high wanted) first paths places (length paths) → NeverFailsAtAll image boot wanted bounds

-- no line demotes a task of a machine without a watchdog, so there only the failures that are looked for count
abbrev pub SearchesWithoutWatchdog : Type 0
SearchesWithoutWatchdog = (low high : ℕ) (image : Contents) (boot : Boot) (wanted : Wanted) (bounds : EventBounds) (first : State) (paths : List Path) (places : List StatePlace) (root : Path)
    → Begins image boot first → GoodState first → (wanted.demotion ≡ true → 0 < high → boot.watchdog ≡ 0) → slice_get paths 0 ≡ Some root → root.turns.items ≡ []
    → AreExplored low high bounds (MayCome wanted.lines bounds) (FailsAsWanted wanted) first paths places (length places)
    → AreGone bounds (FailsAsWanted wanted) first paths places (length paths) → NeverFailsAtAll image boot wanted bounds
