-- Since when a task is in its state: behind no event, behind an event more, and of the same events.
use Rattle.std.proofs.Common.{◌≡◌, ◌≢◌, ℕ, ◌+◌, ◌<◌, ◌≤◌, inl, inr, List, [], ◌∷◌, ◌++◌, length, take, Option, Some, None, sym, ap, subst, ◌∙◌, arith, length-append}
use Rattle.std.proofs.lemmas.Bool.{cases_lt}
use Rattle.std.proofs.lemmas.List.{take_all, take-append-le}
use Rattle.evm_model.specs.Event.{Event}
use Rattle.evm_model.specs.Replay.{IsReplayOf, replay}
use Rattle.evm_model.specs.State.{State}
use Rattle.gdb_tape.specs.Tape.{IsSince, IsSteady, state_after, task_state}

-- ---- no event
pub since_begin : (t : ℕ) (first : State) (events : List Event) → events ≡ [] → IsSince t first events None
since_begin t first events e = subst (λ (l : List Event). IsSince t first l None) (sym e) (record {
  same = λ m low high. let none : m ≡ 0 = omega (arith, high) in ap (state_after t first []) none;
})

-- the same events
pub since_of : (t : ℕ) (first : State) (made events : List Event) (since : Option ℕ) → made ≡ events → IsSince t first made since → IsSince t first events since
since_of t first made events since e h = subst (λ (l : List Event). IsSince t first l since) e h

-- ---- an event more
-- the state after all events is that of the machine
last-of : (t : ℕ) (first s : State) → IsReplayOf first s → state_after t first s.journal (length s.journal) ≡ task_state t s
last-of t first s h =
    ap (λ (l : List Event). task_state t (replay first l)) (take_all (length s.journal) s.journal (omega arith)) ∙ ap (task_state t) h.replayed

-- the state after fewer events is what it was
front-of : (t : ℕ) (first old new : State) (event : Event) (m : ℕ) → new.journal ≡ old.journal ++ event ∷ [] → m ≤ length old.journal
    → state_after t first new.journal m ≡ state_after t first old.journal m
front-of t first old new event m made h =
    ap (λ (l : List Event). task_state t (replay first l)) (ap (take m) made ∙ take-append-le m old.journal (event ∷ []) h)

one-more : (old new : State) (event : Event) → new.journal ≡ old.journal ++ event ∷ [] → length new.journal ≡ length old.journal + 1
one-more old new event made = ap length made ∙ length-append old.journal (event ∷ [])

steady-more : (t : ℕ) (first old new : State) (event : Event) (n : ℕ) → new.journal ≡ old.journal ++ event ∷ [] → IsReplayOf first old → IsReplayOf first new
    → task_state t new ≡ task_state t old → IsSteady t first old.journal n → IsSteady t first new.journal n
steady-more t first old new event n made before after same h = record {
  same = λ m low high.
      let more = one-more old new event made in
      elim (cases_lt m (length new.journal)) [
        | inl less ↦
            let within : m ≤ length old.journal = omega (arith, less, more) in
            front-of t first old new event m made within ∙ h.same m low within ∙ last-of t first old before ∙ sym same ∙ sym (last-of t first new after)
        | inr past ↦ let all : m ≡ length new.journal = omega (arith, high, past) in ap (state_after t first new.journal) all
      ];
}

-- the state is what it was
pub since_stays : (t : ℕ) (first old new : State) (event : Event) (since : Option ℕ) → new.journal ≡ old.journal ++ event ∷ [] → IsReplayOf first old → IsReplayOf first new
    → task_state t new ≡ task_state t old → IsSince t first old.journal since → IsSince t first new.journal since
since_stays t first old new event None made before after same h = steady-more t first old new event 0 made before after same h
since_stays t first old new event (Some n) made before after same h =
    let more = one-more old new event made in
    let less = h.0 in
    let within : n ≤ length old.journal = omega (arith, less) in
    let inside : n < length new.journal = omega (arith, less, more) in (
      inside,
      (λ e.
          h.1 (sym (front-of t first old new event n made within) ∙ e ∙ last-of t first new after ∙ same ∙ sym (last-of t first old before))),
      steady-more t first old new event (n + 1) made before after same h.2,
    )

-- the event has brought the task into its state
pub since_changes : (t : ℕ) (first old new : State) (event : Event) (n : ℕ) → new.journal ≡ old.journal ++ event ∷ [] → IsReplayOf first old → IsReplayOf first new
    → n ≡ length old.journal → (task_state t new ≡ task_state t old → ⊥) → IsSince t first new.journal (Some n)
since_changes t first old new event n made before after at other =
    let more = one-more old new event made in
    let within : n ≤ length old.journal = omega (arith, at) in
    let inside : n < length new.journal = omega (arith, at, more) in
    let then : state_after t first new.journal n ≡ task_state t old =
    front-of t first old new event n made within ∙ ap (state_after t first old.journal) at ∙ last-of t first old before in (
      inside,
      (λ e. other (sym (last-of t first new after) ∙ sym e ∙ then)),
      record {
        same = λ m low high. let all : m ≡ length new.journal = omega (arith, at, more, low, high) in ap (state_after t first new.journal) all;
      },
    )
