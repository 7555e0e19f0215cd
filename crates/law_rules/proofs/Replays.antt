-- A journal's replay goes on by each accepted event.
use Rattle.std.proofs.Common.{◌≡◌, List, [], ◌∷◌, ◌++◌, Option, Some, None, Result, Ok, Err, refl, ap, ◌∙◌, subst, sym}
use Rattle.std.specs.Prelude.{IfOk, OnOk, OnErr}
use Rattle.evm_model.specs.declared.refusal.Refusal.{Refusal}
use Rattle.evm_model.specs.Refusals.{refusal}
use Rattle.evm_model.specs.Replay.{start, accept, apply_unless, apply, left_by, replay, IsReplayOf}
use Rattle.evm_model.specs.Devices.{Attached}
use Rattle.evm_model.specs.Rows.{row}
use Rattle.evm_model.specs.State.{State}
use Rattle.evm_model.specs.declared.boot.Boot.{Boot}
use Rattle.evm_model.specs.Event.{Event}
use Rattle.evm_model.specs.declared.event.Answer.{Answer}

-- one event after others
pub replay-append : (s : State) (events : List Event) (event : Event) → replay s (events ++ event ∷ []) ≡ left_by (apply (replay s events) event) (replay s events)
unfolding replay
replay-append s [] event = refl
replay-append s (e ∷ events) event = replay-append (left_by (apply s e) s) events event

-- a replay goes on by an accepted event
pub IsReplayOf-step : (first s new : State) (event : Event) (answer : Answer) → apply s event ≡ Ok (new, answer) → new.journal ≡ s.journal ++ event ∷ [] → IsReplayOf first s → IsReplayOf first new
IsReplayOf-step first s new event answer e grown r =
    let last : left_by (apply (replay first s.journal) event) (replay first s.journal) ≡ new = rw (r.replayed, e) refl in
    record { replayed = ap (replay first) grown ∙ replay-append first s.journal event ∙ last }

accepted-unless : (s new : State) (event : Event) (answer : Answer) (o : Option Refusal) → apply_unless o event s ≡ Ok (new, answer) → (o ≡ None) × ((new, answer) ≡ accept event (row event s.board) s)
accepted-unless s new event answer (Some refusal) e = cc
accepted-unless s new event answer None e = (refl, cc)

-- an event that isn't refused does its row
pub accepted : (s new : State) (event : Event) (answer : Answer) → apply s event ≡ Ok (new, answer) → (refusal event s ≡ None) × ((new, answer) ≡ accept event (row event s.board) s)
unfolding apply
accepted s new event answer e = accepted-unless s new event answer (refusal event s) e

-- and stands in the journal
pub accepted-journal : (s new : State) (event : Event) (answer : Answer) → apply s event ≡ Ok (new, answer) → new.journal ≡ s.journal ++ event ∷ []
accepted-journal s new event answer e = ap (λ (x : State × Answer). x.0.journal) (accepted s new event answer e).1

-- whatever an event's outcome, what is its journal's replay stays so
pub IsReplayOf-outcome : (first s new : State) (event : Event) (r : Result Answer Refusal) → IfOk r (λ answer. apply s event ≡ Ok (new, answer)) → OnOk r (new.journal ≡ s.journal ++ event ∷ []) → OnErr r (new ≡ s) → IsReplayOf first s → IsReplayOf first new
IsReplayOf-outcome first s new event (Ok answer) e grown same h = IsReplayOf-step first s new event answer e grown h
IsReplayOf-outcome first s new event (Err refusal) e grown same h = subst (IsReplayOf first) (sym same) h

-- a replay goes on by one event, whichever its outcome
pub IsReplayOf-left : (first s : State) (event : Event) (r : Result (State × Answer) Refusal) → apply s event ≡ r → IsReplayOf first s → IsReplayOf first (left_by r s)
IsReplayOf-left first s event (Ok after) e h = IsReplayOf-step first s after.0 event after.1 e (accepted-journal s after.0 event after.1 e) h
IsReplayOf-left first s event (Err refusal) e h = h

-- a machine that has had no event is the replay of none
abbrev pub StartsAsReplay : Type 0
StartsAsReplay = (devices : List Attached) (boot : Boot) → IsReplayOf (start devices boot) (start devices boot)

pub starts_as_replay : StartsAsReplay
unfolding replay
starts_as_replay devices boot = record { replayed = refl }

-- nor any other whose journal is empty
pub empty_as_replay : (s : State) → s.journal ≡ [] → IsReplayOf s s
unfolding replay
empty_as_replay s e = record { replayed = rw e refl }
