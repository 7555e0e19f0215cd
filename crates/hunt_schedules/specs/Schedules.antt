-- Schedules, and how often they switch between processors. `May s event` says that a schedule may make the event at a state, and
-- `Fails before event answer after` that the event made the machine fail.
use Rattle.std.specs.Prelude.{◌≡◌, ℕ, ◌-◌, ◌≤◌, ◌==◌, List, [], ◌∷◌, Result, Ok, Err, if◌then◌else◌, ⊤}
use Rattle.evm_model.specs.Event.{Event}
use Rattle.evm_model.specs.Replay.{apply, left_by}
use Rattle.evm_model.specs.State.{State}
use Rattle.evm_model.specs.declared.event.Answer.{Answer}
use Rattle.evm_model.specs.declared.event.Event.TheVariants.{Step}
use Rattle.evm_model.specs.declared.refusal.Refusal.{Refusal}

-- how many switches an event is, where processor c stepped last: none if c steps again, else one
abbrev pub switches : ℕ → Event → ℕ
switches c (Step d) = if d == c then 0 else 1
switches c _ = 1

-- the processor that has stepped last behind an event
abbrev pub stepped : ℕ → Event → ℕ
stepped c (Step d) = d
stepped c _ = c

-- the event was accepted, and P holds of the state behind it
abbrev pub Behind : Result (State × Answer) Refusal → (State → Type 0) → Type 0
Behind (Ok after) P = P after.0
Behind (Err refusal) P = ⊥

-- A schedule from a state on, where processor c stepped last, with at most b switches: events that may be made, one after the other, and
-- that are accepted.
abbrev pub IsSchedule : (State → Event → Type 0) → ℕ → ℕ → State → List Event → Type 0
IsSchedule May c b s [] = ⊤
IsSchedule May c b s (event ∷ events) =
    May s event × (switches c event ≤ b) × Behind (apply s event) (λ after. IsSchedule May (stepped c event) (b - switches c event) after events)

-- an event that, if it is accepted, doesn't make the machine fail
abbrev pub IsHarmless : (State → Event → Answer → State → Type 0) → State → Event → Type 0
IsHarmless Fails s event = (after : State) (answer : Answer) → apply s event ≡ Ok (after, answer) → Fails s event answer after → ⊥

-- no event of a list makes the machine fail
abbrev pub NoneFails : (State → Event → Answer → State → Type 0) → State → List Event → Type 0
NoneFails Fails s [] = ⊤
NoneFails Fails s (event ∷ events) = IsHarmless Fails s event × NoneFails Fails (left_by (apply s event) s) events

-- in no schedule with at most b switches an event makes the machine fail
abbrev pub NoScheduleFails : (State → Event → Type 0) → (State → Event → Answer → State → Type 0) → ℕ → ℕ → State → Type 0
NoScheduleFails May Fails c b s = (events : List Event) → IsSchedule May c b s events → NoneFails Fails s events
