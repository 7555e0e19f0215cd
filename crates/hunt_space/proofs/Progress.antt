-- How a search comes farther: what was visited and done stays so, and a path goes on step by step.
use Rattle.std.proofs.Common.{◌≡◌, ℕ, zero, suc, ◌+◌, ◌<◌, ◌≤◌, ◌⊎◌, inl, inr, List, [], ◌∷◌, ◌++◌, Option, Some, Ok, true, length, get_or, refl, sym, ap, subst, ◌∙◌, arith}
use Rattle.std.specs.Prelude.{slice_get}
use Rattle.std.proofs.Math.Dec.{ltb}
use Rattle.std.proofs.lemmas.Bool.Decides.{nat_tests}
use Rattle.evm_model.specs.Event.{Event}
use Rattle.evm_model.specs.Replay.{apply}
use Rattle.evm_model.specs.State.{State}
use Rattle.evm_model.specs.declared.event.Answer.{Answer}
use Rattle.evm_model.specs.declared.event.Event.TheVariants.{Step}
use Rattle.hunt_failures.specs.Failures.{FailsAsWanted}
use Rattle.hunt_failures.specs.declared.wanted.Wanted.{Wanted}
use Rattle.hunt_schedules.specs.Branches.{event_of_choice}
use Rattle.hunt_schedules.specs.Schedules.{stepped}
use Rattle.hunt_schedules.specs.declared.branch.CpuTurn.{CpuTurn}
use Rattle.hunt_schedules.specs.declared.branch.Choice.{Choice}
use Rattle.hunt_space.specs.Exploring.{HasFork, LeadsSafely}
use Rattle.hunt_space.specs.Passing.{IsUnderWay}
use Rattle.hunt_space.specs.Runs.{MayCome}
use Rattle.hunt_space.specs.Space.{AreExplored, AreAllPaths, AreGone, AreAlikeStates, CallsNone, HasAlikeAt, IsAt, IsKnown, IsExplored, IsExploredAt, IsGone, GoesPrivately, IsPassedAt, IsPathAt, IsUndebugged, IsVisited, KeepsPaths, KeepsPlaces, SparesText, StaysKnown, with_turn}
use Rattle.hunt_space.specs.declared.bounds.EventBounds.{EventBounds}
use Rattle.hunt_space.specs.declared.path.Path.{Path}
use Rattle.hunt_space.specs.declared.visited.StatePlace.{StatePlace}
use Rattle.hunt_space.proofs.Covering.{raises-same}
use Rattle.hunt_space.proofs.Reaching.{at-next}

-- ---- lists that grow
pub places-more : (places more : List StatePlace) → KeepsPlaces places (places ++ more)
places-more [] more i place h = cc
places-more (x ∷ xs) more zero place h = h
places-more (x ∷ xs) more (suc i) place h = places-more xs more i place h

pub places-same : (places after : List StatePlace) → after ≡ places → KeepsPlaces places after
places-same places after e i place h = subst (λ (xs : List StatePlace). slice_get xs i ≡ Some place) (sym e) h

pub last-place : (places : List StatePlace) (place : StatePlace) → slice_get (places ++ place ∷ []) (length places) ≡ Some place
last-place [] place = refl
last-place (x ∷ xs) place = last-place xs place

pub last-path : (paths : List Path) (path : Path) → slice_get (paths ++ path ∷ []) (length paths) ≡ Some path
last-path [] path = refl
last-path (x ∷ xs) path = last-path xs path

found-there : (paths : List Path) (i : ℕ) (path : Path) → i < length paths → path ≡ get_or paths i path → slice_get paths i ≡ Some path
found-there [] i path less h = absurd (omega arith)
found-there (x ∷ xs) zero path less h = ap (λ (p : Path). let o : Option Path = Some p in o) (sym h)
found-there (x ∷ xs) (suc i) path less h = found-there xs i path (omega arith) h

-- the path at a number, as a list gives it
pub item-there : (paths : List Path) (i : ℕ) (path : Path) → true ≡ ltb i (length paths) → path ≡ get_or paths i path → slice_get paths i ≡ Some path
item-there paths i path within h = found-there paths i path (let less : i < length paths = grind (arith, nat_tests) in less) h

pub length-last : (places : List StatePlace) (place : StatePlace) → length (places ++ place ∷ []) ≡ suc (length places)
length-last [] place = refl
length-last (x ∷ xs) place = ap (λ (n : ℕ). suc n) (length-last xs place)

has-place : (places : List StatePlace) (i : ℕ) → i < length places → (place : StatePlace) × (slice_get places i ≡ Some place)
has-place [] i less = absurd (omega arith)
has-place (x ∷ xs) zero less = (x, refl)
has-place (x ∷ xs) (suc i) less = has-place xs i (omega arith)

one-place : (places after : List StatePlace) (i : ℕ) (place : StatePlace) → KeepsPlaces places after → i < length places → slice_get after i ≡ Some place → slice_get places i ≡ Some place
one-place places after i place keeps less there =
    let old = has-place places i less in
    let both : Some old.0 ≡ Some place = sym (keeps i old.0 old.1) ∙ there in
    old.1 ∙ both

pub path-still : (before after : List Path) (n : ℕ) (turns : List CpuTurn) (cpu : ℕ) → KeepsPaths before after → IsPathAt before n turns cpu → IsPathAt after n turns cpu
path-still before after n turns cpu keeps h = (h.0, keeps n h.0 h.1, h.2, h.3)

pub fork-still : (before after : List Path) (path : Path) (steps : ℕ) (choice : Choice) → KeepsPaths before after → HasFork before path steps choice → HasFork after path steps choice
fork-still before after path steps choice keeps h =
    (h.0, path-still before after h.0 (with_turn path.turns.items path.cpu steps choice) (stepped path.cpu (event_of_choice choice)) keeps h.1)

-- ---- what was visited and done stays so
visited-still : (first : State) (paths paths' : List Path) (places places' : List StatePlace) (s : State) → KeepsPaths paths paths' → KeepsPlaces places places' → IsVisited first paths places s → IsVisited first paths' places' s
visited-still first paths paths' places places' s keeps keeps' v =
    record { index = v.index; place = v.place; turns = v.turns; cpu = v.cpu; there = keeps' v.index v.place v.there; path = path-still paths paths' v.place.path v.turns v.cpu keeps v.path; reached = v.reached }

pub covered-still : (bounds : EventBounds) (first : State) (paths paths' : List Path) (places places' : List StatePlace) (s : State) → KeepsPaths paths paths' → KeepsPlaces places places' → IsKnown bounds first paths places s → IsKnown bounds first paths' places' s
covered-still bounds first paths paths' places places' s keeps keeps' h = (h.0, visited-still first paths paths' places places' h.0 keeps keeps' h.1, h.2, h.3)

pub stays-still : (wanted : Wanted) (bounds : EventBounds) (first : State) (paths paths' : List Path) (places places' : List StatePlace) (s : State) (event : Event) → KeepsPaths paths paths' → KeepsPlaces places places'
    → StaysKnown bounds (FailsAsWanted wanted) first paths places s event → StaysKnown bounds (FailsAsWanted wanted) first paths' places' s event
stays-still wanted bounds first paths paths' places places' s event keeps keeps' h =
    record { after = h.after; answer = h.answer; accepted = h.accepted; harmless = h.harmless; known = covered-still bounds first paths paths' places places' h.after keeps keeps' h.known }

done-still : (low high : ℕ) (wanted : Wanted) (bounds : EventBounds) (first : State) (paths paths' : List Path) (places places' : List StatePlace) (turns : List CpuTurn) (cpu steps : ℕ) (s : State) → KeepsPaths paths paths' → KeepsPlaces places places'
    → IsExplored low high bounds (MayCome wanted.lines bounds) (FailsAsWanted wanted) first paths places turns cpu steps s → IsExplored low high bounds (MayCome wanted.lines bounds) (FailsAsWanted wanted) first paths' places' turns cpu steps s
done-still low high wanted bounds first paths paths' places places' turns cpu steps s keeps keeps' h = record {
  forks = λ choice may other.
      let has = h.forks choice may other in
      (has.0, path-still paths paths' has.0 (with_turn turns cpu steps choice) (stepped cpu (event_of_choice choice)) keeps has.1);
  calls = h.calls;
  next = λ may. stays-still wanted bounds first paths paths' places places' s (Step cpu) keeps keeps' (h.next may);
  spares = h.spares;
  undebugged = h.undebugged;
}

done-at-still : (low high : ℕ) (wanted : Wanted) (bounds : EventBounds) (first : State) (paths paths' : List Path) (places places' : List StatePlace) (place : StatePlace) → KeepsPaths paths paths' → KeepsPlaces places places'
    → IsExploredAt low high bounds (MayCome wanted.lines bounds) (FailsAsWanted wanted) first paths places place → IsExploredAt low high bounds (MayCome wanted.lines bounds) (FailsAsWanted wanted) first paths' places' place
done-at-still low high wanted bounds first paths paths' places places' place keeps keeps' h = record {
  turns = h.turns;
  cpu = h.cpu;
  path = path-still paths paths' place.path h.turns h.cpu keeps h.path;
  done = λ s at. done-still low high wanted bounds first paths paths' places places' h.turns h.cpu place.steps s keeps keeps' (h.done s at);
}

passed-still : (low high : ℕ) (first : State) (paths paths' : List Path) (places places' : List StatePlace) (i : ℕ) (place : StatePlace) → KeepsPaths paths paths' → KeepsPlaces places places'
    → IsPassedAt low high first paths places i place → IsPassedAt low high first paths' places' i place
passed-still low high first paths paths' places places' i place keeps keeps' h = record {
  turns = h.turns;
  cpu = h.cpu;
  path = path-still paths paths' place.path h.turns h.cpu keeps h.path;
  next = keeps' (i + 1) (record place { steps = place.steps + 1 }) h.next;
  done = h.done;
}

pub are-done-still : (low high : ℕ) (wanted : Wanted) (bounds : EventBounds) (first : State) (paths paths' : List Path) (places places' : List StatePlace) (n : ℕ) → KeepsPaths paths paths' → KeepsPlaces places places' → n ≤ length places
    → AreExplored low high bounds (MayCome wanted.lines bounds) (FailsAsWanted wanted) first paths places n → AreExplored low high bounds (MayCome wanted.lines bounds) (FailsAsWanted wanted) first paths' places' n
are-done-still low high wanted bounds first paths paths' places places' n keeps keeps' within h i place less there =
    elim (h i place less (one-place places places' i place keeps' (omega arith) there)) [
      | inl all ↦ inl (done-at-still low high wanted bounds first paths paths' places places' place keeps keeps' all)
      | inr passed ↦ inr (passed-still low high first paths paths' places places' i place keeps keeps' passed)
    ]

pub gone-still : (wanted : Wanted) (bounds : EventBounds) (first : State) (paths paths' : List Path) (places places' : List StatePlace) (turns : List CpuTurn) → KeepsPaths paths paths' → KeepsPlaces places places'
    → IsGone bounds (FailsAsWanted wanted) first paths places turns → IsGone bounds (FailsAsWanted wanted) first paths' places' turns
gone-still wanted bounds first paths paths' places places' turns keeps keeps' h = record {
  root = λ none. covered-still bounds first paths paths' places places' first keeps keeps' (h.root none);
  last = λ front turn s same at. stays-still wanted bounds first paths paths' places places' s (event_of_choice turn.choice) keeps keeps' (h.last front turn s same at);
}

-- ---- a path under way
-- no event that may come reads the clock or names a time
abbrev pub CallsNoneOf : Wanted → EventBounds → State → Type 0
CallsNoneOf wanted bounds s = (event : Event) → MayCome wanted.lines bounds s event → CallsNone bounds.ticks event s

-- a state whose place is the last one is visited
pub visited-last : (bounds : EventBounds) (first : State) (paths : List Path) (places after : List StatePlace) (number : ℕ) (turns : List CpuTurn) (cpu steps : ℕ) (s : State) → IsPathAt paths number turns cpu → IsAt first turns cpu steps s
    → after ≡ places ++ record { path = number; steps = steps } ∷ [] → AreAlikeStates bounds.ticks s s → IsKnown bounds first paths after s
visited-last bounds first paths places after number turns cpu steps s path at e itself =
    let place : StatePlace = record { path = number; steps = steps } in
    let there : slice_get after (length places) ≡ Some place = ap (λ (xs : List StatePlace). slice_get xs (length places)) e ∙ last-place places place in
    (s, record { index = length places; place = place; turns = turns; cpu = cpu; there = there; path = path; reached = at }, itself, raises-same bounds.raises s)

before-or-last : (i n : ℕ) → i < suc n → (i < n) ⊎ (i ≡ n)
before-or-last zero zero less = inr refl
before-or-last zero (suc n) less = inl (omega arith)
before-or-last (suc i) zero less = absurd (omega arith)
before-or-last (suc i) (suc n) less = elim (before-or-last i n (omega arith)) [
  | inl before ↦ inl (omega arith)
  | inr same ↦ inr (ap (λ (k : ℕ). suc k) same)
]

-- a place is explored or passed
abbrev pub IsDoneAt : ℕ → ℕ → Wanted → EventBounds → State → List Path → List StatePlace → ℕ → StatePlace → Type 0
IsDoneAt low high wanted bounds first paths places i place = IsExploredAt low high bounds (MayCome wanted.lines bounds) (FailsAsWanted wanted) first paths places place ⊎ IsPassedAt low high first paths places i place

-- the last place is done too
lasts : (low high : ℕ) (wanted : Wanted) (bounds : EventBounds) (first : State) (paths paths' : List Path) (places places' : List StatePlace) (number : ℕ) (turns : List CpuTurn) (cpu steps : ℕ) (s : State)
    → (way : IsUnderWay low high wanted bounds first paths places number turns cpu steps s) → KeepsPaths paths paths' → KeepsPlaces places places'
    → IsDoneAt low high wanted bounds first paths' places' way.count (record { path = number; steps = steps }) → AreExplored low high bounds (MayCome wanted.lines bounds) (FailsAsWanted wanted) first paths' places' (length places)
lasts low high wanted bounds first paths paths' places places' number turns cpu steps s way keeps keeps' last i place less there =
    let counted = way.counted in
    let old = one-place places places' i place keeps' less there in
    elim (before-or-last i way.count (omega arith)) [
      | inl before ↦ are-done-still low high wanted bounds first paths paths' places places' way.count keeps keeps' (omega arith) way.done i place before there
      | inr same ↦
          let here : slice_get places way.count ≡ Some place = subst (λ (n : ℕ). slice_get places n ≡ Some place) same old in
          let both : Some (let p : StatePlace = record { path = number; steps = steps } in p) ≡ Some place = sym way.last ∙ here in
          let is : (let p : StatePlace = record { path = number; steps = steps } in p) ≡ place = cc in
          subst (λ (n : ℕ). IsDoneAt low high wanted bounds first paths' places' n place) (sym same)
          (subst (λ (p : StatePlace). IsDoneAt low high wanted bounds first paths' places' way.count p) is last)
    ]

-- it is explored
pub finishes : (low high : ℕ) (wanted : Wanted) (bounds : EventBounds) (first : State) (paths paths' : List Path) (places places' : List StatePlace) (number : ℕ) (turns : List CpuTurn) (cpu steps : ℕ) (s : State)
    → (way : IsUnderWay low high wanted bounds first paths places number turns cpu steps s) → KeepsPaths paths paths' → KeepsPlaces places places' → AreAllPaths (MayCome wanted.lines bounds) paths' turns cpu steps s → CallsNoneOf wanted bounds s
    → SparesText low high (MayCome wanted.lines bounds) s → IsUndebugged s → (MayCome wanted.lines bounds s (Step cpu) → StaysKnown bounds (FailsAsWanted wanted) first paths' places' s (Step cpu))
    → AreExplored low high bounds (MayCome wanted.lines bounds) (FailsAsWanted wanted) first paths' places' (length places)
finishes low high wanted bounds first paths paths' places places' number turns cpu steps s way keeps keeps' forks calls spares clean next =
    let all : IsExplored low high bounds (MayCome wanted.lines bounds) (FailsAsWanted wanted) first paths' places' turns cpu steps s = record { forks = forks; calls = calls; next = next; spares = spares; undebugged = clean } in
    lasts low high wanted bounds first paths paths' places places' number turns cpu steps s way keeps keeps' (inl (record {
      turns = turns;
      cpu = cpu;
      path = path-still paths paths' number turns cpu keeps way.path;
      done = λ t at. subst (λ (x : State). IsExplored low high bounds (MayCome wanted.lines bounds) (FailsAsWanted wanted) first paths' places' turns cpu steps x) (way.at ∙ sym at) all;
    }))

-- a step that was made leads to a state that is covered
pub made-stays : (wanted : Wanted) (bounds : EventBounds) (first : State) (paths : List Path) (places : List StatePlace) (s after : State) (event : Event) → LeadsSafely wanted s event after → IsKnown bounds first paths places after
    → StaysKnown bounds (FailsAsWanted wanted) first paths places s event
made-stays wanted bounds first paths places s after event made covered = record { after = after; answer = made.answer; accepted = made.accepted; harmless = made.harmless; known = covered }

-- the path passes this state by a private row
pub passes-on : (low high : ℕ) (wanted : Wanted) (bounds : EventBounds) (first : State) (paths : List Path) (places places' : List StatePlace) (number : ℕ) (turns : List CpuTurn) (cpu steps : ℕ) (s after : State) (answer : Answer)
    → IsUnderWay low high wanted bounds first paths places number turns cpu steps s → GoesPrivately low high cpu s → places' ≡ places ++ record { path = number; steps = steps + 1 } ∷ [] → apply s (Step cpu) ≡ Ok (after, answer)
    → IsUnderWay low high wanted bounds first paths places' number turns cpu (steps + 1) after
passes-on low high wanted bounds first paths places places' number turns cpu steps s after answer way passed e made =
    let place : StatePlace = record { path = number; steps = steps + 1 } in
    let keeps' : KeepsPlaces places places' = λ i x h. subst (λ (xs : List StatePlace). slice_get xs i ≡ Some x) (sym e) (places-more places (place ∷ []) i x h) in
    let last' : slice_get places' (length places) ≡ Some place = ap (λ (xs : List StatePlace). slice_get xs (length places)) e ∙ last-place places place in
    let next : length places ≡ way.count + 1 = let counted = way.counted in omega arith in record {
      count = length places;
      counted = ap length e ∙ length-last places place;
      last = last';
      path = way.path;
      at = at-next first s after turns cpu steps answer way.at made;
      done = lasts low high wanted bounds first paths paths places places' number turns cpu steps s way (λ j x h. h) keeps' (inr (record {
        turns = turns;
        cpu = cpu;
        path = way.path;
        next = subst (λ (n : ℕ). slice_get places' n ≡ Some place) next last';
        done = λ t at. subst (λ (x : State). GoesPrivately low high cpu x) (way.at ∙ sym at) passed;
      }));
    }

-- ---- the whole search
has-path : (paths : List Path) (i : ℕ) → i < length paths → (path : Path) × (slice_get paths i ≡ Some path)
has-path [] i less = absurd (omega arith)
has-path (x ∷ xs) zero less = (x, refl)
has-path (x ∷ xs) (suc i) less = has-path xs i (omega arith)

-- one path more was gone
pub gone-more : (wanted : Wanted) (bounds : EventBounds) (first : State) (paths paths' : List Path) (places places' : List StatePlace) (n : ℕ) (turns : List CpuTurn) (cpu : ℕ) → KeepsPaths paths paths' → KeepsPlaces places places' → n ≤ length paths
    → IsPathAt paths' n turns cpu → IsGone bounds (FailsAsWanted wanted) first paths' places' turns → AreGone bounds (FailsAsWanted wanted) first paths places n → AreGone bounds (FailsAsWanted wanted) first paths' places' (n + 1)
gone-more wanted bounds first paths paths' places places' n turns cpu keeps keeps' within here gone old j path less there =
    elim (before-or-last j n (omega arith)) [
      | inl before ↦
          let had = has-path paths j (omega arith) in
          let both : Some had.0 ≡ Some path = sym (keeps j had.0 had.1) ∙ there in
          gone-still wanted bounds first paths paths' places places' path.turns.items keeps keeps' (old j path before (had.1 ∙ both))
      | inr same ↦
          let at : slice_get paths' n ≡ Some path = subst (λ (k : ℕ). slice_get paths' k ≡ Some path) same there in
          let both : Some here.0 ≡ Some path = sym here.1 ∙ at in
          let is : here.0 ≡ path = cc in
          let turns' : turns ≡ path.turns.items = sym here.2 ∙ ap (λ (p : Path). p.turns.items) is in
          subst (λ (xs : List CpuTurn). IsGone bounds (FailsAsWanted wanted) first paths' places' xs) turns' gone
    ]

-- the state of a place that was visited is alike
pub known-by : (bounds : EventBounds) (first : State) (paths : List Path) (places : List StatePlace) (place : StatePlace) (s : State) → (i : ℕ) × (slice_get places i ≡ Some place) → HasAlikeAt bounds first paths place s
    → IsKnown bounds first paths places s
known-by bounds first paths places place s at h =
    (h.seen, record { index = at.0; place = place; turns = h.turns; cpu = h.cpu; there = at.1; path = h.path; reached = h.reached }, h.alike, h.raised)
