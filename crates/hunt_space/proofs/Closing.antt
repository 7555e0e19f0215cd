-- The whole search: path by path, up to the last.
use Rattle.std.proofs.Common.{◌≡◌, ℕ, ◌+◌, ◌<◌, ◌≤◌, ◌⊎◌, inl, inr, List, [], Some, true, length, ap, arith}
use Rattle.std.specs.Prelude.{slice_get}
use Rattle.std.proofs.lemmas.Option.{slice_get_within}
use Rattle.evm_ram.specs.Images.{Contents}
use Rattle.evm_model.specs.Good.{GoodState}
use Rattle.evm_model.specs.State.{State}
use Rattle.evm_model.specs.declared.boot.Boot.{Boot}
use Rattle.hunt_failures.specs.Failures.{FailsAsWanted}
use Rattle.hunt_failures.specs.declared.wanted.Wanted.{Wanted}
use Rattle.hunt_schedules.specs.Beginning.{Begins}
use Rattle.hunt_schedules.specs.declared.branch.CpuTurn.{CpuTurn}
use Rattle.hunt_space.specs.Runs.{MayCome, NeverFailsAtAll}
use Rattle.hunt_space.specs.Searched.{IsSpaceSearched, IsSearchedFrom}
use Rattle.hunt_space.specs.Space.{AreExplored, IsGone, IsPathAt, KeepsPaths, KeepsPlaces}
use Rattle.hunt_space.specs.declared.bounds.EventBounds.{EventBounds}
use Rattle.hunt_space.specs.declared.path.Path.{Path}
use Rattle.hunt_space.specs.declared.visited.StatePlace.{StatePlace}
use Rattle.hunt_space.proofs.Progress.{gone-more}
use Rattle.hunt_space.proofs.Unguarded.{searches_without_watchdog}

-- nothing was visited, and no path gone
pub none-searched : (low high : ℕ) (wanted : Wanted) (bounds : EventBounds) (first : State) (paths : List Path) (places : List StatePlace) → places ≡ [] → IsSearchedFrom low high wanted bounds first paths places 0
none-searched low high wanted bounds first paths places none = record {
  explored = λ i place less there. absurd (let e : length places ≡ 0 = ap length none in omega arith);
  gone = λ j path less there. absurd (omega arith);
}

-- one path more was gone
pub searched-more : (low high : ℕ) (wanted : Wanted) (bounds : EventBounds) (first : State) (paths paths' : List Path) (places places' : List StatePlace) (n : ℕ) (turns : List CpuTurn) (cpu : ℕ) → KeepsPaths paths paths' → KeepsPlaces places places' → n ≤ length paths
    → IsPathAt paths' n turns cpu → (AreExplored low high bounds (MayCome wanted.lines bounds) (FailsAsWanted wanted) first paths places (length places) → AreExplored low high bounds (MayCome wanted.lines bounds) (FailsAsWanted wanted) first paths' places' (length places'))
    → IsGone bounds (FailsAsWanted wanted) first paths' places' turns → IsSearchedFrom low high wanted bounds first paths places n → IsSearchedFrom low high wanted bounds first paths' places' (n + 1)
searched-more low high wanted bounds first paths paths' places places' n turns cpu keeps keeps' within here explored gone old = record {
  explored = explored old.explored;
  gone = gone-more wanted bounds first paths paths' places places' n turns cpu keeps keeps' within here gone old.gone;
}

pub number-within : (paths paths' : List Path) (n : ℕ) (turns : List CpuTurn) (cpu : ℕ) → KeepsPaths paths paths' → IsPathAt paths n turns cpu → n + 1 ≤ length paths'
number-within paths paths' n turns cpu keeps here = let within = slice_get_within paths' n here.0 (keeps n here.0 here.1) in omega arith

-- so many paths were gone
pub searched-so-far : (low high : ℕ) (image : Contents) (boot : Boot) (wanted : Wanted) (bounds : EventBounds) (paths : List Path) (places : List StatePlace) (n : ℕ) → (wanted.demotion ≡ true → 0 < high → boot.watchdog ≡ 0) → (root : Path) × (slice_get paths 0 ≡ Some root) × (root.turns.items ≡ [])
    → (n ≡ 0) ⊎ ((first : State) × Begins image boot first × GoodState first) → ((first : State) → Begins image boot first → IsSearchedFrom low high wanted bounds first paths places n) → IsSpaceSearched image boot wanted bounds paths places n
searched-so-far low high image boot wanted bounds paths places n guarded root boots searched = record {
  low = low;
  high = high;
  guarded = guarded;
  root = root.0;
  there = root.1;
  starts = root.2;
  boots = boots;
  searched = searched;
}

-- all paths were gone
pub completes : (image : Contents) (boot : Boot) (wanted : Wanted) (bounds : EventBounds) (paths : List Path) (places : List StatePlace) (n : ℕ) → IsSpaceSearched image boot wanted bounds paths places n → length paths ≤ n → NeverFailsAtAll image boot wanted bounds
completes image boot wanted bounds paths places n all few =
    let some = slice_get_within paths 0 all.root all.there in
    elim all.boots [
      | inl none ↦ absurd (omega arith)
      | inr begun ↦
          let both = all.searched begun.0 begun.1 in
          searches_without_watchdog all.low all.high image boot wanted bounds begun.0 paths places all.root begun.1 begun.2 all.guarded all.there all.starts both.explored (λ j path less at. both.gone j path (omega arith) at)
    ]
