-- Paths: the turns and steps that lead to a state.
use Rattle.std.proofs.Common.{◌≡◌, ℕ, zero, suc, ◌+◌, List, [], ◌∷◌, ◌++◌, Option, Result, Ok, Err, replicate, refl, sym, ap, subst, ◌∙◌, append_assoc, arith}
use Rattle.std.specs.Prelude.{map}
use Rattle.std.proofs.lemmas.List.{append-nil}
use Rattle.evm_dev.specs.declared.kind.Kind.{Kind}
use Rattle.evm_model.specs.Devices.{Attached}
use Rattle.evm_model.specs.declared.boot.Boot.{Boot}
use Rattle.evm_ram.specs.Images.{Contents}
use Rattle.hunt_schedules.specs.Beginning.{Begins}
use Rattle.law_runs.proofs.Kept.{sizes_stay}
use Rattle.evm_core.specs.Steps.{steps, behind_step}
use Rattle.evm_model.specs.Event.{Event}
use Rattle.evm_model.specs.Replay.{apply, left_by, replay}
use Rattle.evm_model.specs.State.{State}
use Rattle.evm_model.specs.declared.event.Answer.{Answer}
use Rattle.evm_model.specs.declared.event.Event.TheVariants.{Step}
use Rattle.evm_model.specs.declared.refusal.Refusal.{Refusal}
use Rattle.hunt_schedules.proofs.Searching.{events-append, replay-append, replay-one}
use Rattle.hunt_schedules.specs.Branches.{event_of_choice, events_of_turns, turn_events}
use Rattle.hunt_schedules.specs.declared.branch.CpuTurn.{CpuTurn}
use Rattle.hunt_space.specs.Space.{IsAt}

-- ---- many Steps
-- a refused Step is refused again
refused-again : (c n : ℕ) (s : State) (refusal : Refusal) → apply s (Step c) ≡ Err refusal → replay s (replicate n (Step c)) ≡ s
unfolding replay
refused-again c zero s refusal h = refl
refused-again c (suc n) s refusal h =
    ap (λ (r : Result (State × Answer) Refusal). replay (left_by r s) (replicate n (Step c))) h ∙ refused-again c n s refusal h

steps-behind : (c n : ℕ) (s : State) (r : Result (State × Answer) Refusal) → apply s (Step c) ≡ r
    → ((t : State) → (steps c n t).0 ≡ replay t (replicate n (Step c)))
    → (behind_step r s (steps c n)).0 ≡ replay (left_by r s) (replicate n (Step c))
steps-behind c n s (Ok after) e others = others after.0
steps-behind c n s (Err refusal) e others = sym (refused-again c n s refusal e)

pub steps-replay : (c n : ℕ) (s : State) → (steps c n s).0 ≡ replay s (replicate n (Step c))
unfolding steps replay
steps-replay c zero s = refl
steps-replay c (suc n) s = steps-behind c n s (apply s (Step c)) refl (steps-replay c n)

-- ---- turns
pub at-turn : (first s : State) (turns : List CpuTurn) (turn : CpuTurn) → s ≡ replay (replay first (events_of_turns turns)) (turn_events turn)
    → s ≡ replay first (events_of_turns (turns ++ turn ∷ []))
at-turn first s turns turn h =
    h ∙ (sym (replay-append first (events_of_turns turns) (turn_events turn))
    ∙ ap (replay first) (sym (events-append turns (turn ∷ []) ∙ ap (λ (events : List Event). events_of_turns turns ++ events) (append-nil (turn_events turn)))))

pub at-none : (first s : State) (turns : List CpuTurn) (cpu : ℕ) → s ≡ replay first (events_of_turns turns) → IsAt first turns cpu 0 s
at-none first s turns cpu h = h ∙ ap (replay first) (sym (append-nil (events_of_turns turns)))

pub at-steps : (first s t : State) (turns : List CpuTurn) (cpu steps : ℕ) → s ≡ replay first (events_of_turns turns) → t ≡ replay s (replicate steps (Step cpu)) → IsAt first turns cpu steps t
at-steps first s t turns cpu steps h g =
    g ∙ (ap (λ (x : State). replay x (replicate steps (Step cpu))) h ∙ sym (replay-append first (events_of_turns turns) (replicate steps (Step cpu))))

replicate-last : {X : Type 0} (n : ℕ) (x : X) → replicate (suc n) x ≡ replicate n x ++ x ∷ []
replicate-last zero x = refl
replicate-last (suc n) x = ap (λ xs. x ∷ xs) (replicate-last n x)

-- one step more
pub at-next : (first s after : State) (turns : List CpuTurn) (cpu steps : ℕ) (answer : Answer) → IsAt first turns cpu steps s → apply s (Step cpu) ≡ Ok (after, answer) → IsAt first turns cpu (steps + 1) after
at-next first s after turns cpu steps answer h done =
    let event : Event = Step cpu in
    let events = events_of_turns turns in
    let one : steps + 1 ≡ suc steps = omega arith in
    let there : replay s (event ∷ []) ≡ after = replay-one s event ∙ ap (λ (r : Result (State × Answer) Refusal). left_by r s) done in
    let longer : events ++ replicate (suc steps) event ≡ (events ++ replicate steps event) ++ event ∷ [] =
    ap (λ (xs : List Event). events ++ xs) (replicate-last steps event) ∙ sym (append_assoc events (replicate steps event) (event ∷ [])) in
    let goal : after ≡ replay first (events ++ replicate (suc steps) event) =
    sym there ∙ (ap (λ (t : State). replay t (event ∷ [])) h ∙ (sym (replay-append first (events ++ replicate steps event) (event ∷ [])) ∙ ap (replay first) (sym longer))) in
    subst (λ (n : ℕ). after ≡ replay first (events ++ replicate n event)) (sym one) goal

-- the state behind the choice that ends a path's last turn
pub at-choice : (first s after : State) (turns : List CpuTurn) (turn : CpuTurn) (answer : Answer) → IsAt first turns turn.cpu turn.steps s → apply s (event_of_choice turn.choice) ≡ Ok (after, answer)
    → after ≡ replay first (events_of_turns (turns ++ turn ∷ []))
at-choice first s after turns turn answer h done =
    let event = event_of_choice turn.choice in
    let steps : List Event = replicate turn.steps (Step turn.cpu) in
    let there : replay s (event ∷ []) ≡ after = replay-one s event ∙ ap (λ (r : Result (State × Answer) Refusal). left_by r s) done in
    let base : s ≡ replay (replay first (events_of_turns turns)) steps = h ∙ replay-append first (events_of_turns turns) steps in
    let goal : after ≡ replay (replay first (events_of_turns turns)) (turn_events turn) =
    sym there ∙ (ap (λ (t : State). replay t (event ∷ [])) base ∙ sym (replay-append (replay first (events_of_turns turns)) steps (event ∷ []))) in
    at-turn first after turns turn goal

-- ---- what calls make
pub steps-made : (c n : ℕ) (s t : State) (why : Option Refusal) → steps c n s ≡ (t, why) → t ≡ replay s (replicate n (Step c))
steps-made c n s t why h = sym (ap (λ (p : State × Option Refusal). p.0) h) ∙ steps-replay c n s

pub event-made : (s t : State) (event : Event) (answer : Answer) → apply s event ≡ Ok (t, answer) → t ≡ replay s (event ∷ [])
event-made s t event answer h = sym (replay-one s event ∙ ap (λ (r : Result (State × Answer) Refusal). left_by r s) h)

pub event-refused : (s t : State) (event : Event) (why : Refusal) → apply s event ≡ Err why → t ≡ s → t ≡ replay s (event ∷ [])
event-refused s t event why h same = same ∙ sym (replay-one s event ∙ ap (λ (r : Result (State × Answer) Refusal). left_by r s) h)

pub two-replays : (s t u : State) (xs ys : List Event) → t ≡ replay s xs → u ≡ replay t ys → u ≡ replay s (xs ++ ys)
two-replays s t u xs ys h g = g ∙ (ap (λ (x : State). replay x ys) h ∙ sym (replay-append s xs ys))

pub no-events : (s : State) → s ≡ replay s []
unfolding replay
no-events s = refl

-- ---- the boot
pub one-boot : (image : Contents) (boot : Boot) (a b : State) → Begins image boot a → Begins image boot b → a ≡ b
one-boot image boot a b h g = let both : Ok a ≡ Ok b = sym h ∙ g in cc

-- the devices of two states that events lead to are of the same kinds
abbrev pub kinds_of : State → List Kind
kinds_of s = map (λ (device : Attached). device.kind) s.board.memory.devices

kinds-stay : (s : State) (events : List Event) → kinds_of (replay s events) ≡ kinds_of s
kinds-stay s events = (sizes_stay s events).sizes.devices

pub same-kinds : (first s t : State) (xs ys : List Event) → s ≡ replay first xs → t ≡ replay first ys → kinds_of s ≡ kinds_of t
same-kinds first s t xs ys h g = (ap kinds_of h ∙ kinds-stay first xs) ∙ sym (ap kinds_of g ∙ kinds-stay first ys)
