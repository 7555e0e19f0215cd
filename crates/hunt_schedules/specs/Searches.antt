-- How far a search has come: its branches, and for how many steps each of them that was looked at went on.
use Rattle.std.specs.Prelude.{◌≡◌, ℕ, ◌+◌, ◌<◌, List, [], ◌∷◌, ◌++◌, Some, length, slice_get}
use Rattle.evm_model.specs.Event.{Event}
use Rattle.evm_model.specs.Replay.{replay}
use Rattle.evm_model.specs.State.{State}
use Rattle.evm_model.specs.declared.event.Answer.{Answer}
use Rattle.evm_model.specs.declared.event.Event.TheVariants.{Step}
use Rattle.hunt_schedules.specs.Branches.{events_of_turns}
use Rattle.hunt_schedules.specs.Covering.{Positions, IsCovered, StaysCovered}
use Rattle.hunt_schedules.specs.Schedules.{NoneFails}
use Rattle.hunt_schedules.specs.Walks.{AreForked, IsReached}
use Rattle.hunt_schedules.specs.declared.branch.Branch.{Branch}

-- a position of a search: the state that a branch reaches by fewer steps than it went on for
pub record IsPassed (first : State) (branches : List Branch) (walked : List ℕ) (s : State) (c k : ℕ) : Type 0 where
  pub place : ℕ
  pub branch : Branch
  pub steps : ℕ
  pub count : ℕ
  pub there : slice_get branches place ≡ Some branch
  pub far : slice_get walked place ≡ Some count
  pub before : steps < count
  pub reached : IsReached first branch steps s
  pub cpu : branch.cpu ≡ c
  pub made : length branch.turns.items ≡ k

-- what a search does where a branch has reached a state by some steps: each switch from there is a branch, and the next step is harmless
-- and leads to a position that is covered
pub record IsDone (May : State → Event → Type 0) (Fails : State → Event → Answer → State → Type 0) (most : ℕ) (branches : List Branch) (Seen : Positions) (branch : Branch) (steps : ℕ) (s : State) : Type 0 where
  pub forks : AreForked May most branches branch steps s
  pub next : May s (Step branch.cpu) → StaysCovered Fails Seen s branch.cpu (length branch.turns.items) (Step branch.cpu)

-- a branch has a harmless beginning, which leads to a position that is covered, and all is done at each of this number of states
pub record IsSearched (May : State → Event → Type 0) (Fails : State → Event → Answer → State → Type 0) (first : State) (most : ℕ) (branches : List Branch) (Seen : Positions) (branch : Branch) (count : ℕ) : Type 0 where
  pub harmless : NoneFails Fails first (events_of_turns branch.turns.items)
  pub covered : IsCovered Seen (replay first (events_of_turns branch.turns.items)) branch.cpu (length branch.turns.items)
  pub done : (steps : ℕ) (s : State) → steps < count → IsReached first branch steps s → IsDone May Fails most branches Seen branch steps s

-- each of the branches before a place was looked at
abbrev pub AreSearched : (State → Event → Type 0) → (State → Event → Answer → State → Type 0) → State → ℕ → List Branch → List ℕ → ℕ → Type 0
AreSearched May Fails first most branches walked place =
    (j : ℕ) (branch : Branch) → j < place → slice_get branches j ≡ Some branch
    → (count : ℕ) × (slice_get walked j ≡ Some count) × IsSearched May Fails first most branches (IsPassed first branches walked) branch count

-- a branch has come so far: all is done at each state before this one, which counts as passed
pub record IsWalked (May : State → Event → Type 0) (Fails : State → Event → Answer → State → Type 0) (first : State) (most : ℕ) (branches : List Branch) (walked : List ℕ) (branch : Branch) (steps : ℕ) (s : State) : Type 0 where
  pub reached : IsReached first branch steps s
  pub done : (i : ℕ) (t : State) → i < steps → IsReached first branch i t → IsDone May Fails most branches (IsPassed first branches (walked ++ (steps + 1) ∷ [])) branch i t

-- a branch has gone on for this number of steps from a state, which is covered, and all is done at each of the states
pub record HasWalked (May : State → Event → Type 0) (Fails : State → Event → Answer → State → Type 0) (first : State) (most : ℕ) (branches : List Branch) (walked : List ℕ) (branch : Branch) (count : ℕ) (start : State) : Type 0 where
  pub covered : IsCovered (IsPassed first branches (walked ++ count ∷ [])) start branch.cpu (length branch.turns.items)
  pub done : (i : ℕ) (t : State) → i < count → IsReached first branch i t → IsDone May Fails most branches (IsPassed first branches (walked ++ count ∷ [])) branch i t
