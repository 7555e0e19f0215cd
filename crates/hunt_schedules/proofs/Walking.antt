-- Events that have passed, and the states that a branch reaches.
use Rattle.std.proofs.Common.{◌≡◌, ℕ, zero, suc, ◌+◌, List, [], ◌∷◌, ◌++◌, Ok, Result, refl, sym, ap, subst, ◌∙◌, append_assoc, arith}
use Rattle.std.specs.Prelude.{replicate}
use Rattle.std.proofs.lemmas.List.{append-nil}
use Rattle.evm_model.specs.Event.{Event}
use Rattle.evm_model.specs.Replay.{apply, left_by, replay}
use Rattle.evm_model.specs.State.{State}
use Rattle.evm_model.specs.declared.event.Answer.{Answer}
use Rattle.evm_model.specs.declared.event.Event.TheVariants.{Step}
use Rattle.evm_model.specs.declared.refusal.Refusal.{Refusal}
use Rattle.hunt_schedules.proofs.Searching.{Allows, Failing, none-append, replay-append, replay-one, events-append}
use Rattle.hunt_schedules.specs.Branches.{event_of_choice, events_of_turns, turn_events}
use Rattle.hunt_schedules.specs.Schedules.{NoneFails}
use Rattle.hunt_schedules.specs.Walks.{HasPassed, IsReached}
use Rattle.hunt_schedules.specs.declared.branch.Branch.{Branch}
use Rattle.hunt_schedules.specs.declared.branch.Choice.{Choice}
use Rattle.hunt_schedules.specs.declared.branch.CpuTurn.{CpuTurn}

-- ---- events that have passed
pub passed-none : (Fails : Failing) (s : State) → HasPassed Fails s [] s
unfolding replay
passed-none Fails s = record { harmless = tt; reached = refl }

pub passed-append : (Fails : Failing) (a b c : State) (xs ys : List Event) → HasPassed Fails a xs b → HasPassed Fails b ys c → HasPassed Fails a (xs ++ ys) c
passed-append Fails a b c xs ys h g = record {
  harmless = none-append Fails a xs ys h.harmless (subst (λ (s : State). NoneFails Fails s ys) h.reached g.harmless);
  reached = g.reached ∙ (ap (λ (s : State). replay s ys) h.reached ∙ sym (replay-append a xs ys));
}

replicate-last : {X : Type 0} (n : ℕ) (x : X) → replicate (suc n) x ≡ replicate n x ++ x ∷ []
replicate-last zero x = refl
replicate-last (suc n) x = ap (λ xs. x ∷ xs) (replicate-last n x)

pub passed-step : (Fails : Failing) (n c : ℕ) (a b s : State) → HasPassed Fails a (replicate n (Step c)) b → HasPassed Fails b (Step c ∷ []) s → HasPassed Fails a (replicate (n + 1) (Step c)) s
passed-step Fails n c a b s h g =
    let event : Event = Step c in
    let one : n + 1 ≡ suc n = omega arith in
    let more : replicate (n + 1) event ≡ replicate n event ++ event ∷ [] = ap (λ (k : ℕ). replicate k event) one ∙ replicate-last n event in
    subst (λ (events : List Event). HasPassed Fails a events s) (sym more) (passed-append Fails a b s (replicate n event) (event ∷ []) h g)

pub passed-turn : (Fails : Failing) (a b s : State) (turns : List CpuTurn) (turn : CpuTurn) → HasPassed Fails a (events_of_turns turns) b → HasPassed Fails b (turn_events turn) s → HasPassed Fails a (events_of_turns (turns ++ turn ∷ [])) s
passed-turn Fails a b s turns turn h g =
    let more : events_of_turns (turns ++ turn ∷ []) ≡ events_of_turns turns ++ turn_events turn = events-append turns (turn ∷ []) ∙ ap (λ (events : List Event). events_of_turns turns ++ events) (append-nil (turn_events turn)) in
    subst (λ (events : List Event). HasPassed Fails a events s) (sym more) (passed-append Fails a b s (events_of_turns turns) (turn_events turn) h g)

-- ---- steps
pub reached-none : (first s : State) (branch : Branch) → s ≡ replay first (events_of_turns branch.turns.items) → IsReached first branch 0 s
reached-none first s branch e = e ∙ ap (replay first) (sym (append-nil (events_of_turns branch.turns.items)))

pub reached-step : (first s after : State) (branch : Branch) (steps : ℕ) (answer : Answer) → IsReached first branch steps s → apply s (Step branch.cpu) ≡ Ok (after, answer) → IsReached first branch (suc steps) after
reached-step first s after branch steps answer h done =
    let event : Event = Step branch.cpu in
    let events = events_of_turns branch.turns.items in
    let there : replay s (event ∷ []) ≡ after = replay-one s event ∙ ap (λ (r : Result (State × Answer) Refusal). left_by r s) done in
    let longer : events ++ replicate (suc steps) event ≡ (events ++ replicate steps event) ++ event ∷ [] =
    ap (λ (xs : List Event). events ++ xs) (replicate-last steps event) ∙ sym (append_assoc events (replicate steps event) (event ∷ [])) in
    sym there ∙ (ap (λ (t : State). replay t (event ∷ [])) h ∙ (sym (replay-append first (events ++ replicate steps event) (event ∷ [])) ∙ ap (replay first) (sym longer)))

-- every event that may be made is a choice
abbrev pub AreChoices : Allows → Type 0
AreChoices May = (s : State) (event : Event) → May s event → (choice : Choice) × (event_of_choice choice ≡ event)
