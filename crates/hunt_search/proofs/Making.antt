-- The events of a schedule as the choices of a search.
use Rattle.std.proofs.Common.{◌≡◌, ℕ, ◌<◌, ◌≢◌, List, [], ◌∷◌, Option, Some, None, Ok, Err, Result, true, false, length, refl, sym, ap, subst, ◌∙◌, arith}
use Rattle.std.specs.Prelude.{slice_get, ◌==◌, IfNone}
use Rattle.std.proofs.lemmas.Bool.Decides.{nat_tests}
use Rattle.evm_model.specs.Event.{Event}
use Rattle.evm_model.specs.Replay.{apply, left_by, replay}
use Rattle.evm_model.specs.State.{State}
use Rattle.evm_model.specs.declared.event.Answer.{Answer}
use Rattle.evm_model.specs.declared.event.Event.TheVariants.{Step, Tick, Raise, Bell, Stop, Go, StepI, SetReg, SetPc, Poke, Break, Unbreak}
use Rattle.evm_model.specs.declared.refusal.Refusal.{Refusal}
use Rattle.hunt_failures.specs.Failures.{FailsAsWanted, IsSeen}
use Rattle.hunt_failures.specs.Awake.{IsAwake, IsOver}
use Rattle.hunt_schedules.specs.Making.{MayMake}
use Rattle.hunt_failures.specs.declared.failure.Failure.{Failure}
use Rattle.hunt_failures.specs.declared.wanted.Wanted.{Wanted}
use Rattle.hunt_schedules.proofs.Searching.{replay-one}
use Rattle.hunt_schedules.proofs.Walking.{AreChoices}
use Rattle.hunt_schedules.specs.Branches.{event_of_choice, HasBranch, HasSwitches, IsSwitch, forked}
use Rattle.hunt_schedules.specs.Schedules.{switches}
use Rattle.hunt_schedules.specs.Walks.{AreForked, CantStep, HasPassed}
use Rattle.hunt_schedules.specs.declared.branch.Branch.{Branch}
use Rattle.hunt_schedules.specs.declared.branch.Choice.{Choice}
use Rattle.hunt_schedules.specs.declared.branch.Choice.TheVariants as choices

pub are-choices : (lines : List ℕ) → AreChoices (MayMake lines)
are-choices lines s (Step c) may = (choices.Step c, refl)
are-choices lines s Tick may = (choices.Tick, refl)
are-choices lines s (Raise c line) may = (choices.Raise c line, refl)
are-choices lines s (Bell c line) may = absurd may
are-choices lines s (Stop c) may = absurd may
are-choices lines s (Go c) may = absurd may
are-choices lines s (StepI c) may = absurd may
are-choices lines s (SetReg c r value) may = absurd may
are-choices lines s (SetPc c pc) may = absurd may
are-choices lines s (Poke address bytes) may = absurd may
are-choices lines s (Break address) may = absurd may
are-choices lines s (Unbreak address) may = absurd may

-- ---- where nothing more can happen
pub over-none : (lines : List ℕ) (s : State) (choice : Choice) → IsOver lines s → MayMake lines s (event_of_choice choice) → ⊥
over-none lines s (choices.Step c) over may = over.asleep c may
over-none lines s choices.Tick over may = may over
over-none lines s (choices.Raise c line) over may = may.0 over

pub over_forked : (lines : List ℕ) (most : ℕ) (branches : List Branch) (branch : Branch) (steps : ℕ) (s : State) → IsOver lines s → AreForked (MayMake lines) most branches branch steps s
over_forked lines most branches branch steps s over few choice may one = absurd (over-none lines s choice over may)

pub over_cant : (lines : List ℕ) (branch : Branch) (s : State) → IsOver lines s → CantStep (MayMake lines) branch s
over_cant lines branch s over may after answer done = over.asleep branch.cpu may

-- ---- the switches that may be made
same-step : (c : ℕ) → switches c (Step c) ≡ 1 → ⊥
same-step c h = let e : (c == c) ≡ true = grind (arith, nat_tests) in let zero : switches c (Step c) ≡ 0 = rw e refl in let no : 0 ≡ 1 = sym zero ∙ h in cc

pub may-switch : (lines awake : List ℕ) (cpus c : ℕ) (s : State) (choice : Choice) → ((d : ℕ) → IsAwake d s → (i : ℕ) × (slice_get awake i ≡ Some d)) → cpus ≡ length s.board.parts.processors
    → MayMake lines s (event_of_choice choice) → switches c (event_of_choice choice) ≡ 1 → IsSwitch c awake cpus lines choice
may-switch lines awake cpus c s (choices.Step d) all count may one = ((λ same. same-step c (subst (λ (n : ℕ). switches c (Step n) ≡ 1) same one)), (all d may).0, (all d may).1)
may-switch lines awake cpus c s choices.Tick all count may one = tt
may-switch lines awake cpus c s (choices.Raise d line) all count may one = (subst (λ (n : ℕ). d < n) (sym count) may.1, may.2)

pub all-forked : (lines awake : List ℕ) (cpus most : ℕ) (branches : List Branch) (branch : Branch) (steps : ℕ) (s : State) → ((d : ℕ) → IsAwake d s → (i : ℕ) × (slice_get awake i ≡ Some d))
    → cpus ≡ length s.board.parts.processors → HasSwitches branches branch steps awake cpus lines → AreForked (MayMake lines) most branches branch steps s
all-forked lines awake cpus most branches branch steps s all count has few choice may one = has choice (may-switch lines awake cpus branch.cpu s choice all count may one)

-- ---- one event
pub attempted : (wanted : Wanted) (before after : State) (event : Event) (answer : Answer) → apply before event ≡ Ok (after, answer) → (FailsAsWanted wanted before event answer after → ⊥)
    → HasPassed (FailsAsWanted wanted) before (event ∷ []) after
attempted wanted before after event answer done none = record {
  harmless = (
    (λ t a same fails.
        let both : Ok (after, answer) ≡ Ok (t, a) = sym done ∙ same in
        let pair : (after, answer) ≡ (t, a) = cc in
        let state : after ≡ t = ap (λ (p : State × Answer). p.0) pair in
        let word : answer ≡ a = ap (λ (p : State × Answer). p.1) pair in
        none (subst (λ (u : State). FailsAsWanted wanted before event answer u) (sym state) (subst (λ (b : Answer). FailsAsWanted wanted before event b t) (sym word) fails))),
    tt,
  );
  reached = sym (replay-one before event ∙ ap (λ (r : Result (State × Answer) Refusal). left_by r before) done);
}

pub not-accepted : (wanted : Wanted) (before : State) (event : Event) (why : Refusal) → apply before event ≡ Err why → HasPassed (FailsAsWanted wanted) before (event ∷ []) before
not-accepted wanted before event why done = record {
  harmless = ((λ t a same fails. let both : Err why ≡ Ok (t, a) = sym done ∙ same in cc), tt);
  reached = sym (replay-one before event ∙ ap (λ (r : Result (State × Answer) Refusal). left_by r before) done);
}

pub attempted-if : (wanted : Wanted) (before after : State) (event : Event) (seen : Option Failure)
    → (answer : Answer) × (apply before event ≡ Ok (after, answer)) × IsSeen wanted before event answer after seen → IfNone seen (HasPassed (FailsAsWanted wanted) before (event ∷ []) after)
attempted-if wanted before after event None h = attempted wanted before after event h.0 h.1 h.2
attempted-if wanted before after event (Some failure) h = tt

pub if-none : (seen : Option Failure) (P Q : Type 0) → (P → Q) → IfNone seen P → IfNone seen Q
if-none None P Q more h = more h
if-none (Some failure) P Q more h = tt

pub asleep : (awake : List ℕ) (s : State) → length awake ≡ 0 → ((d : ℕ) → IsAwake d s → (i : ℕ) × (slice_get awake i ≡ Some d)) → (c : ℕ) → IsAwake c s → ⊥
asleep [] s none all c is = let found = all c is in let bad : slice_get [] found.0 ≡ Some c = found.1 in cc
asleep (x ∷ xs) s none all c is = absurd (omega arith)
