-- Lists of events one behind another, and what a branch that goes another way begins with.
use Rattle.std.proofs.Common.{◌≡◌, ℕ, ◌⊎◌, inl, inr, List, [], ◌∷◌, ◌++◌, Bool, true, false, refl, sym, ap, ◌∙◌, append_assoc, arith}
use Rattle.std.specs.Prelude.{replicate, ◌==◌}
use Rattle.std.proofs.lemmas.Bool.Decides.{nat_tests}
use Rattle.std.proofs.lemmas.List.{append-nil}
use Rattle.evm_model.specs.Event.{Event}
use Rattle.evm_model.specs.Replay.{apply, left_by, replay}
use Rattle.evm_model.specs.State.{State}
use Rattle.evm_model.specs.declared.event.Answer.{Answer}
use Rattle.evm_model.specs.declared.event.Event.TheVariants.{Step, Tick, Raise, Bell, Stop, Go, StepI, SetReg, SetPc, Poke, Break, Unbreak}
use Rattle.hunt_schedules.specs.Branches.{event_of_choice, turn_events, events_of_turns, forked, HasBranch, KeepsBranches}
use Rattle.hunt_schedules.specs.Schedules.{switches, NoneFails}
use Rattle.hunt_schedules.specs.Walks.{IsReached}
use Rattle.hunt_schedules.specs.declared.branch.Branch.{Branch}
use Rattle.hunt_schedules.specs.declared.branch.Choice.{Choice}
use Rattle.hunt_schedules.specs.declared.branch.CpuTurn.{CpuTurn}

abbrev pub Allows : Type 1
Allows = State → Event → Type 0

abbrev pub Failing : Type 1
Failing = State → Event → Answer → State → Type 0

-- ---- one list behind another
pub replay-append : (s : State) (xs ys : List Event) → replay s (xs ++ ys) ≡ replay (replay s xs) ys
unfolding replay
replay-append s [] ys = refl
replay-append s (x ∷ xs) ys = replay-append (left_by (apply s x) s) xs ys

pub replay-one : (s : State) (event : Event) → replay s (event ∷ []) ≡ left_by (apply s event) s
unfolding replay
replay-one s event = refl

pub none-append : (Fails : Failing) (s : State) (xs ys : List Event) → NoneFails Fails s xs → NoneFails Fails (replay s xs) ys → NoneFails Fails s (xs ++ ys)
unfolding replay
none-append Fails s [] ys h g = g
none-append Fails s (x ∷ xs) ys h g = (h.0, none-append Fails (left_by (apply s x) s) xs ys h.1 g)

pub none-behind : (Fails : Failing) (s : State) (xs ys : List Event) → NoneFails Fails s (xs ++ ys) → NoneFails Fails (replay s xs) ys
unfolding replay
none-behind Fails s [] ys h = h
none-behind Fails s (x ∷ xs) ys h = none-behind Fails (left_by (apply s x) s) xs ys h.1

pub events-append : (xs ys : List CpuTurn) → events_of_turns (xs ++ ys) ≡ events_of_turns xs ++ events_of_turns ys
events-append [] ys = refl
events-append (x ∷ xs) ys = ap (λ (events : List Event). turn_events x ++ events) (events-append xs ys) ∙ sym (append_assoc (turn_events x) (events_of_turns xs) (events_of_turns ys))

-- the events of a branch that goes another way: those of the branch, the steps and the choice
pub events-forked : (branch : Branch) (steps : ℕ) (choice : Choice)
    → events_of_turns (forked branch steps choice).turns.items ≡ (events_of_turns branch.turns.items ++ replicate steps (Step branch.cpu)) ++ event_of_choice choice ∷ []
events-forked branch steps choice =
    let turn : CpuTurn = record { cpu = branch.cpu; steps = steps; choice = choice } in
    events-append branch.turns.items (turn ∷ [])
    ∙ (ap (λ (events : List Event). events_of_turns branch.turns.items ++ events) (append-nil (turn_events turn))
    ∙ sym (append_assoc (events_of_turns branch.turns.items) (replicate steps (Step branch.cpu)) (event_of_choice choice ∷ [])))

-- ---- a switch, or a step of the same processor
cond-cases : (t : Bool) (n : ℕ) → (t ≡ true) ⊎ (t ≡ false)
cond-cases true n = inl refl
cond-cases false n = inr refl

pub step-or-switch : (c : ℕ) (event : Event) → (event ≡ Step c) ⊎ (switches c event ≡ 1)
step-or-switch c (Step d) = elim (cond-cases (d == c) 0) [
  | inl same ↦ inl (let e : d ≡ c = grind (arith, nat_tests) in ap (λ (n : ℕ). let event : Event = Step n in event) e)
  | inr other ↦ inr (rw other refl)
]
step-or-switch c Tick = inr refl
step-or-switch c (Raise d line) = inr refl
step-or-switch c (Bell d line) = inr refl
step-or-switch c (Stop d) = inr refl
step-or-switch c (Go d) = inr refl
step-or-switch c (StepI d) = inr refl
step-or-switch c (SetReg d r value) = inr refl
step-or-switch c (SetPc d pc) = inr refl
step-or-switch c (Poke address bytes) = inr refl
step-or-switch c (Break address) = inr refl
step-or-switch c (Unbreak address) = inr refl

-- ---- a branch that goes another way
pub reached-more : (first : State) (branch : Branch) (steps : ℕ) (s : State) (choice : Choice) → IsReached first branch steps s
    → replay first (events_of_turns (forked branch steps choice).turns.items) ≡ left_by (apply s (event_of_choice choice)) s
reached-more first branch steps s choice e =
    ap (replay first) (events-forked branch steps choice)
    ∙ (replay-append first (events_of_turns branch.turns.items ++ replicate steps (Step branch.cpu)) (event_of_choice choice ∷ [])
    ∙ (ap (λ (t : State). replay t (event_of_choice choice ∷ [])) (sym e)
    ∙ replay-one s (event_of_choice choice)))

-- ---- more branches
pub has-still : (before after : List Branch) (branch : Branch) → KeepsBranches before after → HasBranch before branch → HasBranch after branch
has-still before after branch keeps has = (has.0, keeps has.0 branch has.1)
