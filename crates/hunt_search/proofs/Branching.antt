-- How a branch goes on and ends, and what a whole search comes to.
use Rattle.std.proofs.Common.{◌≡◌, ℕ, zero, suc, ◌+◌, ◌<◌, ◌≤◌, List, [], ◌∷◌, ◌++◌, Some, Ok, Result, true, false, length, refl, sym, ap, subst, ◌∙◌, below_more, arith}
use Rattle.std.specs.Prelude.{map, replicate, slice_get}
use Rattle.std.proofs.lemmas.Option.{slice_get_within}
use Rattle.std.proofs.lemmas.List.{append-nil}
use Rattle.evm_ram.specs.Images.{Contents}
use Rattle.evm_dev.specs.declared.kind.Kind.{Kind}
use Rattle.evm_model.specs.Devices.{Attached}
use Rattle.evm_model.specs.Event.{Event}
use Rattle.evm_model.specs.Replay.{replay}
use Rattle.evm_model.specs.State.{State}
use Rattle.evm_model.specs.declared.boot.Boot.{Boot}
use Rattle.evm_model.specs.declared.event.Event.TheVariants.{Step}
use Rattle.hunt_search.specs.Searches.{EndsBranch, is_failed}
use Rattle.hunt_search.proofs.Making.{are-choices}
use Rattle.hunt_schedules.specs.Beginning.{Begins}
use Rattle.hunt_failures.specs.Failures.{FailsAsWanted}
use Rattle.hunt_schedules.specs.Making.{MayMake, NeverFails}
use Rattle.hunt_schedules.specs.Runs.{Ends}
use Rattle.hunt_schedules.specs.declared.running.RunOutcome.{RunOutcome}
use Rattle.hunt_schedules.specs.declared.running.RunOutcome.TheVariants.{Failed, Over, Full}
use Rattle.hunt_failures.specs.declared.wanted.Wanted.{Wanted}
use Rattle.hunt_schedules.proofs.Boards.{look-at-boards}
use Rattle.hunt_schedules.proofs.Closing.{GoesFarther, searched, searched-still}
use Rattle.hunt_schedules.proofs.Going.{at-last, front-still, more-goes, walked-more, walked-out, searched-by}
use Rattle.hunt_schedules.proofs.Searching.{replay-append}
use Rattle.hunt_schedules.proofs.Walking.{reached-none, reached-step}
use Rattle.hunt_schedules.specs.Branches.{KeepsBranches, events_of_turns}
use Rattle.hunt_schedules.specs.Searches.{AreSearched, HasWalked, IsPassed, IsSearched, IsWalked}
use Rattle.hunt_schedules.specs.Walks.{AreForked, CantStep, HasPassed, HasStepped, IsReached}
use Rattle.hunt_schedules.specs.declared.branch.Branch.{Branch}
use Rattle.hunt_schedules.specs.declared.branch.CpuTurn.{CpuTurn}

pub ends-branch : (wanted : Wanted) (branch : Branch) (before after : State) (outcome : RunOutcome) → EndsBranch wanted branch before after outcome → Ends wanted.lines outcome after
ends-branch wanted branch before after (Failed failure) h = h
ends-branch wanted branch before after Over h = tt
ends-branch wanted branch before after Full h = tt

cant-step : (wanted : Wanted) (branch : Branch) (before after : State) (outcome : RunOutcome) → is_failed outcome ≡ false → EndsBranch wanted branch before after outcome → CantStep (MayMake wanted.lines) branch before
cant-step wanted branch before after (Failed failure) alive h = cc
cant-step wanted branch before after Over alive h = h
cant-step wanted branch before after Full alive h = h

-- ---- the states that a branch reaches
-- there is one machine with which schedules begin
pub one-first : (image : Contents) (boot : Boot) (a b : State) → Begins image boot a → Begins image boot b → a ≡ b
one-first image boot a b h g = let both : Ok a ≡ Ok b = sym h ∙ g in cc

-- the state behind the beginning of a branch
pub begins-at : (image : Contents) (boot : Boot) (wanted : Wanted) (branch : Branch) (turns : List CpuTurn) (begun start first : State) → branch.turns.items ≡ turns → Begins image boot begun
    → HasPassed (FailsAsWanted wanted) begun (events_of_turns turns) start → Begins image boot first → IsReached first branch 0 start
begins-at image boot wanted branch turns begun start first same begins passed begins' =
    let one = one-first image boot begun first begins begins' in
    let here : start ≡ replay begun (events_of_turns branch.turns.items) = subst (λ (xs : List CpuTurn). start ≡ replay begun (events_of_turns xs)) (sym same) passed.reached in
    subst (λ (s : State). IsReached s branch 0 start) one (reached-none begun start branch here)

-- the state behind some steps more
pub comes-to : (wanted : Wanted) (first start s : State) (branch : Branch) (steps : ℕ) → HasPassed (FailsAsWanted wanted) start (replicate steps (Step branch.cpu)) s → IsReached first branch 0 start → IsReached first branch steps s
comes-to wanted first start s branch steps passed reached =
    let events = events_of_turns branch.turns.items in
    let none : events ++ [] ≡ events = append-nil events in
    let there : start ≡ replay first events = reached ∙ ap (replay first) none in
    passed.reached ∙ (ap (λ (t : State). replay t (replicate steps (Step branch.cpu))) there ∙ sym (replay-append first events (replicate steps (Step branch.cpu))))

-- the state behind the beginning of a branch and some steps
pub goes-to : (wanted : Wanted) (branch : Branch) (turns : List CpuTurn) (first start s : State) (steps : ℕ) → branch.turns.items ≡ turns
    → HasPassed (FailsAsWanted wanted) first (events_of_turns turns) start → HasPassed (FailsAsWanted wanted) start (replicate steps (Step branch.cpu)) s → IsReached first branch steps s
goes-to wanted branch turns first start s steps same passed more =
    let here : start ≡ replay first (events_of_turns branch.turns.items) = subst (λ (xs : List CpuTurn). start ≡ replay first (events_of_turns xs)) (sym same) passed.reached in
    comes-to wanted first start s branch steps more (reached-none first start branch here)

pub steps-to : (wanted : Wanted) (first s after : State) (branch : Branch) (steps : ℕ) → HasStepped (FailsAsWanted wanted) branch s after → IsReached first branch steps s → IsReached first branch (steps + 1) after
steps-to wanted first s after branch steps made reached =
    let one : suc steps ≡ steps + 1 = omega arith in
    subst (λ (n : ℕ). IsReached first branch n after) one (reached-step first s after branch steps made.0 reached made.1)

-- two states that branches reach have devices of the same kinds
abbrev pub kinds_at : State → List Kind
kinds_at s = map (λ (device : Attached). device.kind) s.board.memory.devices

pub same-kinds : ((s : State) (events : List Event) → kinds_at (replay s events) ≡ kinds_at s) → (first s t : State) (a b : Branch) (n m : ℕ) → IsReached first a n s → IsReached first b m t → kinds_at s ≡ kinds_at t
same-kinds stay first s t a b n m h g =
    let one : kinds_at s ≡ kinds_at first = ap kinds_at h ∙ stay first (events_of_turns a.turns.items ++ replicate n (Step a.cpu)) in
    let other : kinds_at t ≡ kinds_at first = ap kinds_at g ∙ stay first (events_of_turns b.turns.items ++ replicate m (Step b.cpu)) in
    one ∙ sym other

-- ---- a branch step by step
abbrev pub IsWalkedBy : Wanted → State → ℕ → List Branch → List ℕ → Branch → ℕ → State → Type 0
IsWalkedBy wanted first most branches walked branch steps s = IsWalked (MayMake wanted.lines) (FailsAsWanted wanted) first most branches walked branch steps s

abbrev pub HasWalkedBy : Wanted → State → ℕ → List Branch → List ℕ → Branch → ℕ → State → Type 0
HasWalkedBy wanted first most branches walked branch count start = HasWalked (MayMake wanted.lines) (FailsAsWanted wanted) first most branches walked branch count start

pub walks : (wanted : Wanted) (first : State) (most : ℕ) (before branches : List Branch) (walked : List ℕ) (branch : Branch) (steps : ℕ) (s after : State) → slice_get before (length walked) ≡ Some branch → KeepsBranches before branches
    → AreForked (MayMake wanted.lines) most branches branch steps s → HasStepped (FailsAsWanted wanted) branch s after
    → IsWalkedBy wanted first most before walked branch steps s → IsWalkedBy wanted first most branches walked branch (steps + 1) after
walks wanted first most before branches walked branch steps s after there keeps forks made walked' =
    walked-more (MayMake wanted.lines) (FailsAsWanted wanted) first most before branches walked branch steps s after there keeps forks made walked'

-- a branch has come to its end
pub walks-out : (wanted : Wanted) (first : State) (most : ℕ) (before branches : List Branch) (walked : List ℕ) (branch : Branch) (steps : ℕ) (start s after : State) (outcome : RunOutcome)
    → slice_get before (length walked) ≡ Some branch → KeepsBranches before branches → AreForked (MayMake wanted.lines) most branches branch steps s → EndsBranch wanted branch s after outcome → is_failed outcome ≡ false
    → IsReached first branch 0 start → IsWalkedBy wanted first most before walked branch steps s → HasWalkedBy wanted first most branches walked branch (steps + 1) start
walks-out wanted first most before branches walked branch steps start s after outcome there keeps forks ends alive begins walked' =
    walked-out (MayMake wanted.lines) (FailsAsWanted wanted) first most before branches walked branch steps start s there keeps forks (cant-step wanted branch s after outcome alive ends) begins walked'

-- a branch that has passed its beginning and gone on is looked at
pub searches : (image : Contents) (boot : Boot) (wanted : Wanted) (most : ℕ) (branches : List Branch) (walked : List ℕ) (branch : Branch) (turns : List CpuTurn) (count : ℕ) (begun start first : State) → branch.turns.items ≡ turns
    → Begins image boot begun → HasPassed (FailsAsWanted wanted) begun (events_of_turns turns) start → Begins image boot first → HasWalkedBy wanted first most branches walked branch count start
    → IsSearched (MayMake wanted.lines) (FailsAsWanted wanted) first most branches (IsPassed first branches (walked ++ count ∷ [])) branch count
searches image boot wanted most branches walked branch turns count begun start first same begins passed begins' walked' =
    let one = one-first image boot begun first begins begins' in
    let passed' = subst (λ (xs : List CpuTurn). HasPassed (FailsAsWanted wanted) begun (events_of_turns xs) start) (sym same) passed in
    searched-by (MayMake wanted.lines) (FailsAsWanted wanted) first most branches walked branch count start (subst (λ (s : State). HasPassed (FailsAsWanted wanted) s (events_of_turns branch.turns.items) start) one passed') walked'

-- ---- the whole search
-- the branches that were looked at
abbrev pub AreSearchedTo : Wanted → ℕ → State → List Branch → List ℕ → ℕ → Type 0
AreSearchedTo wanted most first branches walked place = AreSearched (MayMake wanted.lines) (FailsAsWanted wanted) first most branches walked place

old-has : (before : List Branch) (j place : ℕ) (branch : Branch) → slice_get before place ≡ Some branch → j < place → (b : Branch) × (slice_get before j ≡ Some b)
old-has [] j place branch h less = cc
old-has (x ∷ xs) zero place branch h less = (x, refl)
old-has (x ∷ xs) (suc j) zero branch h less = absurd (omega arith)
old-has (x ∷ xs) (suc j) (suc place) branch h less = old-has xs j place branch h (omega arith)

pub searched-more : (wanted : Wanted) (most : ℕ) (first : State) (before branches : List Branch) (walked : List ℕ) (place count : ℕ) (branch : Branch) → length walked ≡ place → KeepsBranches before branches → slice_get before place ≡ Some branch
    → IsSearched (MayMake wanted.lines) (FailsAsWanted wanted) first most branches (IsPassed first branches (walked ++ count ∷ [])) branch count
    → AreSearchedTo wanted most first before walked place → AreSearchedTo wanted most first branches (walked ++ count ∷ []) (place + 1)
searched-more wanted most first before branches walked place count branch long keeps there here old j b less at =
    let P : ℕ → Type 0 = λ i. (c : Branch) → slice_get branches i ≡ Some c
    → (n : ℕ) × (slice_get (walked ++ count ∷ []) i ≡ Some n) × IsSearched (MayMake wanted.lines) (FailsAsWanted wanted) first most branches (IsPassed first branches (walked ++ count ∷ [])) c n in
    let below : (i : ℕ) → i < place → P i = λ i lower c found.
    let had = old-has before i place branch there lower in
    let both : Some had.0 ≡ Some c = sym (keeps i had.0 had.1) ∙ found in
    let all = old i c lower (had.1 ∙ both) in
    (all.0, front-still walked (count ∷ []) i all.0 all.1, searched-still (MayMake wanted.lines) (FailsAsWanted wanted) first most before branches walked (walked ++ count ∷ []) c all.0 keeps (more-goes walked count) all.2) in
    let now : P place = λ c found.
    let both : Some branch ≡ Some c = sym (keeps place branch there) ∙ found in
    let same : branch ≡ c = cc in
    let last : slice_get (walked ++ count ∷ []) place ≡ Some count = subst (λ (i : ℕ). slice_get (walked ++ count ∷ []) i ≡ Some count) long (at-last walked count) in
    (count, last, subst (λ (d : Branch). IsSearched (MayMake wanted.lines) (FailsAsWanted wanted) first most branches (IsPassed first branches (walked ++ count ∷ [])) d count) same here) in
    below_more P place below now j less b at

-- a search that has looked at all its branches
pub searched-all : (image : Contents) (boot : Boot) (wanted : Wanted) (most : ℕ) (branches : List Branch) (walked : List ℕ) (place : ℕ) → slice_get branches 0 ≡ Some (record { turns = record { items = [] }; cpu = 0 })
    → length branches ≤ place → ((first : State) → Begins image boot first → AreSearchedTo wanted most first branches walked place) → NeverFails image boot wanted most
searched-all image boot wanted most branches walked place root few all first begins =
    searched (MayMake wanted.lines) (FailsAsWanted wanted) first most branches walked (record { turns = record { items = [] }; cpu = 0 }) (look-at-boards wanted) (are-choices wanted.lines) refl root
    (λ j branch there. let within = slice_get_within branches j branch there in all first begins j branch (omega arith) there)
