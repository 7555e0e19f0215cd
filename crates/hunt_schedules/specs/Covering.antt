-- States that need not be looked at twice, and what a search has to do at the others.
use Rattle.std.specs.Prelude.{◌≡◌, ℕ, ◌+◌, ◌≤◌, length, Ok}
use Rattle.evm_model.specs.Event.{Event}
use Rattle.evm_model.specs.Replay.{apply}
use Rattle.evm_model.specs.State.{State}
use Rattle.evm_model.specs.declared.event.Answer.{Answer}
use Rattle.hunt_schedules.specs.Schedules.{switches, stepped}

-- A state covers one that differs from it in the journal alone, where it has no more events: what may come from the second may come
-- from the first.
pub record Subsumes (seen s : State) : Type 0 where
  pub boot : seen.boot ≡ s.boot
  pub board : seen.board ≡ s.board
  pub room : length seen.journal ≤ length s.journal

-- positions: a state, the processor that stepped last, and how many switches were made
abbrev pub Positions : Type 1
Positions = State → ℕ → ℕ → Type 0

-- one of the positions has a state that covers this one, the same processor, and no more switches
abbrev pub IsCovered : Positions → State → ℕ → ℕ → Type 0
IsCovered Seen s c k = (seen : State) × (j : ℕ) × Seen seen c j × (j ≤ k) × Subsumes seen s

-- an event is harmless, and leads to a position that is covered
abbrev pub StaysCovered : (State → Event → Answer → State → Type 0) → Positions → State → ℕ → ℕ → Event → Type 0
StaysCovered Fails Seen s c k event =
    (after : State) (answer : Answer) → apply s event ≡ Ok (after, answer)
    → (Fails s event answer after → ⊥) × IsCovered Seen after (stepped c event) (k + switches c event)

-- each event that may come at one of the positions, with at most this number of switches, is harmless and leads to one that is covered
abbrev pub AreClosed : (State → Event → Type 0) → (State → Event → Answer → State → Type 0) → ℕ → Positions → Type 0
AreClosed May Fails most Seen = (s : State) (c k : ℕ) (event : Event) → Seen s c k → May s event → k + switches c event ≤ most → StaysCovered Fails Seen s c k event

-- whether an event may come, and whether it makes the machine fail, is to be seen on the board alone
pub record LookAtBoards (May : State → Event → Type 0) (Fails : State → Event → Answer → State → Type 0) : Type 0 where
  pub may : (s t : State) (event : Event) → s.board ≡ t.board → May s event → May t event
  pub fails : (s t after behind : State) (event : Event) (answer : Answer) → s.board ≡ t.board → after.board ≡ behind.board → Fails s event answer after → Fails t event answer behind
