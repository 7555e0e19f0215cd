-- A search that has gone some paths.
use Rattle.std.specs.Prelude.{◌≡◌, ℕ, ◌<◌, ◌⊎◌, List, [], Some, true, length, slice_get}
use Rattle.evm_ram.specs.Images.{Contents}
use Rattle.evm_model.specs.Good.{GoodState}
use Rattle.evm_model.specs.State.{State}
use Rattle.evm_model.specs.declared.boot.Boot.{Boot}
use Rattle.hunt_failures.specs.Failures.{FailsAsWanted}
use Rattle.hunt_failures.specs.declared.wanted.Wanted.{Wanted}
use Rattle.hunt_schedules.specs.Beginning.{Begins}
use Rattle.hunt_space.specs.Runs.{MayCome}
use Rattle.hunt_space.specs.Space.{AreExplored, AreGone}
use Rattle.hunt_space.specs.declared.bounds.EventBounds.{EventBounds}
use Rattle.hunt_space.specs.declared.path.Path.{Path}
use Rattle.hunt_space.specs.declared.visited.StatePlace.{StatePlace}

-- each state that was visited is explored or passed, and the first n paths were gone
pub record IsSearchedFrom (low high : ℕ) (wanted : Wanted) (bounds : EventBounds) (first : State) (paths : List Path) (places : List StatePlace) (n : ℕ) : Type 0 where
  pub explored : AreExplored low high bounds (MayCome wanted.lines bounds) (FailsAsWanted wanted) first paths places (length places)
  pub gone : AreGone bounds (FailsAsWanted wanted) first paths places n

-- .. from the boot with an image. Where a watchdog may demote, and that is looked for, no private row is taken
pub record IsSpaceSearched (image : Contents) (boot : Boot) (wanted : Wanted) (bounds : EventBounds) (paths : List Path) (places : List StatePlace) (n : ℕ) : Type 0 where
  pub low : ℕ
  pub high : ℕ
  pub guarded : wanted.demotion ≡ true → 0 < high → boot.watchdog ≡ 0
  pub root : Path
  pub there : slice_get paths 0 ≡ Some root
  pub starts : root.turns.items ≡ []
  pub boots : (n ≡ 0) ⊎ ((first : State) × Begins image boot first × GoodState first)
  pub searched : (first : State) → Begins image boot first → IsSearchedFrom low high wanted bounds first paths places n
