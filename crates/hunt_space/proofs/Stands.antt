-- A machine that is taken from one state to another.
use Rattle.std.proofs.Common.{◌≡◌, ℕ, zero, suc, ◌+◌, ◌-◌, ◌≤◌, List, [], ◌∷◌, ◌++◌, replicate, Some, length, ◌<◌, refl, sym, ap, subst, ◌∙◌, append_assoc, arith}
use Rattle.std.specs.Prelude.{slice_get}
use Rattle.evm_model.specs.Event.{Event}
use Rattle.evm_model.specs.Replay.{IsReplayOf, replay}
use Rattle.evm_model.specs.State.{State}
use Rattle.evm_model.specs.declared.event.Event.TheVariants.{Step}
use Rattle.hunt_schedules.specs.Branches.{events_of_turns}
use Rattle.hunt_schedules.specs.declared.branch.CpuTurn.{CpuTurn}
use Rattle.hunt_space.specs.Space.{IsAt}
use Rattle.hunt_space.specs.Standing.{AreStanding, IsOnTheWay, IsStanding}
use Rattle.hunt_space.specs.declared.standing.Stand.{Stand}
use Rattle.hunt_space.proofs.Reaching.{at-none, no-events, two-replays}

-- as many more as are missing
replicate-more : (k j n : ℕ) (event : Event) → k + j ≡ n → replicate k event ++ replicate j event ≡ replicate n event
replicate-more zero j n event e = let same : j ≡ n = omega (arith, e) in ap (λ (m : ℕ). replicate m event) same
replicate-more (suc k) j zero event e = absurd (omega (arith, e))
replicate-more (suc k) j (suc n) event e = ap (λ (events : List Event). event ∷ events) (replicate-more k j n event (omega (arith, e)))

pub stands_at_boot : (machine : State) (stand : Stand) → stand.turns.items ≡ [] → stand.steps ≡ 0 → stand.machine.value ≡ machine → IsReplayOf machine machine → IsStanding machine stand
stands_at_boot machine stand none zeroth same fresh = record {
  at = subst (λ (n : ℕ). IsAt machine stand.turns.items stand.cpu n stand.machine.value) (sym zeroth)
      (subst (λ (turns : List CpuTurn). IsAt machine turns stand.cpu 0 stand.machine.value) (sym none) (at-none machine stand.machine.value [] stand.cpu (same ∙ no-events machine)));
  replays = subst (λ (s : State). IsReplayOf machine s) (sym same) fresh;
}

pub stands_behind_turns : (first : State) (stand : Stand) (turns : List CpuTurn) → stand.turns.items ≡ turns → stand.steps ≡ 0 → stand.machine.value ≡ replay first (events_of_turns turns) → IsReplayOf first stand.machine.value → IsStanding first stand
stands_behind_turns first stand turns same zeroth made replays = record {
  at = subst (λ (n : ℕ). IsAt first stand.turns.items stand.cpu n stand.machine.value) (sym zeroth)
      (subst (λ (xs : List CpuTurn). IsAt first xs stand.cpu 0 stand.machine.value) (sym same) (at-none first stand.machine.value turns stand.cpu made));
  replays = replays;
}

-- more steps lead on
steps-on : (first s t : State) (turns : List CpuTurn) (cpu k n : ℕ) → k ≤ n → IsAt first turns cpu k s → t ≡ replay s (replicate (n - k) (Step cpu)) → IsAt first turns cpu n t
steps-on first s t turns cpu k n less at made =
    let event : Event = Step cpu in
    let events = events_of_turns turns in
    let sum : k + (n - k) ≡ n = omega (arith, less) in
    two-replays first s t (events ++ replicate k event) (replicate (n - k) event) at made
    ∙ ap (λ (xs : List Event). replay first xs) (append_assoc events (replicate k event) (replicate (n - k) event) ∙ ap (λ (xs : List Event). events ++ xs) (replicate-more k (n - k) n event sum))

pub stands_farther : (first : State) (stand far : Stand) (turns : List CpuTurn) (cpu steps : ℕ) → IsStanding first stand → IsOnTheWay stand turns cpu steps → far.machine.value ≡ replay stand.machine.value (replicate (steps - stand.steps) (Step stand.cpu))
    → IsAt first turns cpu steps far.machine.value
stands_farther first stand far turns cpu steps stands way made =
    subst (λ (c : ℕ). IsAt first turns c steps far.machine.value) way.goes
    (subst (λ (xs : List CpuTurn). IsAt first xs stand.cpu steps far.machine.value) way.turned (steps-on first stand.machine.value far.machine.value stand.turns.items stand.cpu stand.steps steps way.before stands.at made))

pub stands_there : (first : State) (stand far : Stand) (turns : List CpuTurn) (cpu steps : ℕ) → IsOnTheWay stand turns cpu steps → far.turns ≡ stand.turns → far.cpu ≡ stand.cpu → far.steps ≡ steps → IsAt first turns cpu steps far.machine.value
    → IsReplayOf first far.machine.value → IsStanding first far
stands_there first stand far turns cpu steps way same goes counts at replays =
    let turned : far.turns.items ≡ turns = ap (λ xs. xs.items) same ∙ way.turned in
    let on : far.cpu ≡ cpu = goes ∙ way.goes in record {
      at = subst (λ (n : ℕ). IsAt first far.turns.items far.cpu n far.machine.value) (sym counts)
          (subst (λ (c : ℕ). IsAt first far.turns.items c steps far.machine.value) (sym on) (subst (λ (xs : List CpuTurn). IsAt first xs cpu steps far.machine.value) (sym turned) at));
      replays = replays;
    }

-- both stand where they have begun
pub both_stand : (first : State) (kept seen seen' : Stand) → IsStanding first kept → IsStanding first seen → seen' ≡ seen → AreStanding first kept seen'
both_stand first kept seen seen' keeps sees same = record { keeps = keeps; sees = subst (λ (stand : Stand). IsStanding first stand) (sym same) sees }

-- lists with the same at each place
pub same-turns : (xs ys : List CpuTurn) → length xs ≡ length ys → ((i : ℕ) → i < length xs → slice_get xs i ≡ slice_get ys i) → xs ≡ ys
same-turns [] [] e h = refl
same-turns [] (y ∷ ys) e h = absurd (omega (arith, e))
same-turns (x ∷ xs) [] e h = absurd (omega (arith, e))
same-turns (x ∷ xs) (y ∷ ys) e h =
    let head : Some x ≡ Some y = h 0 (omega arith) in
    let same : x ≡ y = cc in
    let rest : xs ≡ ys = same-turns xs ys (omega (arith, e)) (λ i less. h (suc i) (omega (arith, less))) in
    rw (same, rest) refl
