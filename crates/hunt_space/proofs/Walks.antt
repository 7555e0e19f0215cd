-- The path that a search goes: what is known and explored as it goes on.
use Rattle.std.proofs.Common.{◌≡◌, ℕ, ◌+◌, List, [], ◌∷◌, ◌++◌, Some, Result, Ok, Err, Bool, true, false, length, refl, sym, ap, subst, ◌∙◌, arith}
use Rattle.std.specs.Prelude.{replicate, slice_get, IfOk}
use Rattle.evm_model.specs.Replay.{replay}
use Rattle.evm_model.specs.State.{State}
use Rattle.evm_model.specs.declared.event.Event.TheVariants.{Step}
use Rattle.hunt_failures.specs.Failures.{FailsAsWanted}
use Rattle.hunt_failures.specs.declared.wanted.Wanted.{Wanted}
use Rattle.hunt_schedules.specs.Branches.{event_of_choice, events_of_turns}
use Rattle.hunt_schedules.specs.Runs.{Ends}
use Rattle.hunt_schedules.specs.declared.branch.CpuTurn.{CpuTurn}
use Rattle.hunt_schedules.specs.declared.running.RunOutcome.{RunOutcome}
use Rattle.hunt_schedules.specs.declared.running.RunOutcome.TheVariants.{Failed, Over, Full}
use Rattle.hunt_schedules.specs.declared.stop.HuntStop.{HuntStop}
use Rattle.hunt_search.specs.Searches.{is_failed}
use Rattle.hunt_space.specs.Exploring.{ComesOfAttempt, EndsPath, LeadsSafely}
use Rattle.hunt_space.specs.Going.{ComesOfTurn, ComesOfVisit, HasExplored, HasGone, HasGoneOn, EndsByTurn, IsNumbered, Knows, LeadsTo, Opens, BeginsSearch}
use Rattle.hunt_space.specs.Passing.{ComesOfRow, IsVisiting, PassesRows}
use Rattle.hunt_space.specs.Space.{IsAt, IsGone, IsKnown, KeepsPaths, KeepsPlaces, StaysKnown}
use Rattle.hunt_space.specs.Standing.{BeginsAfresh}
use Rattle.hunt_space.specs.declared.attempt.Attempt.{Attempt}
use Rattle.hunt_space.specs.declared.attempt.Attempt.TheVariants.{Harmless, Fails, Refused}
use Rattle.hunt_space.specs.declared.bounds.EventBounds.{EventBounds}
use Rattle.hunt_space.specs.declared.going.Going.{Going}
use Rattle.hunt_space.specs.declared.path.Path.{Path}
use Rattle.hunt_space.specs.declared.seeing.Arrival.TheVariants.{First, Again}
use Rattle.hunt_space.specs.declared.visited.StatePlace.{StatePlace}
use Rattle.hunt_space.proofs.Progress.{passes-on, are-done-still, covered-still, finishes, last-place, length-last, made-stays, places-more, places-same}
use Rattle.hunt_space.proofs.Reaching.{at-choice, at-next, at-none, no-events, one-boot}

-- ---- a path under way
-- once the next state is known, so is the one from which the path went on, and all places are explored
pub record IsAwaiting (going : Going) (before paths : List Path) (seen places : List StatePlace) (begun s : State) : Type 0 where
  pub known : (after : List StatePlace) → KeepsPlaces places after → Knows going paths after s → Knows going paths after begun
  pub explored : (after : List StatePlace) → KeepsPlaces places after → Knows going paths after s → (first : State) → BeginsSearch going first → HasExplored going first before seen (length seen) → HasExplored going first paths after (length places)

pub begins-walk : (going : Going) (paths : List Path) (places : List StatePlace) (s : State) → IsAwaiting going paths paths places places s s
begins-walk going paths places s = record {
  known = λ after keeps known. known;
  explored = λ after keeps known first starts done.
      are-done-still going.text.low going.text.high going.target.wanted.now going.bounds first paths paths places after (length places) (λ j path h. h) keeps (omega arith) done;
}

-- the state is known already
pub walks-again : (going : Going) (before paths : List Path) (seen places after : List StatePlace) (begun s : State) → IsAwaiting going before paths seen places begun s → after ≡ places → Knows going paths after s
    → HasGoneOn going before paths seen after begun
walks-again going before paths seen places after begun s awaits same known =
    let keeps = places-same places after same in record {
      known = awaits.known after keeps known;
      explored = λ first starts done. subst (λ (n : ℕ). HasExplored going first paths after n) (ap length (sym same)) (awaits.explored after keeps known first starts done);
    }

-- it is visited
pub walks-to : (going : Going) (before paths : List Path) (seen places after : List StatePlace) (steps : ℕ) (begun s : State) → IsAwaiting going before paths seen places begun s → IsNumbered going paths → LeadsTo going steps s
    → after ≡ places ++ record { path = going.number; steps = steps } ∷ [] → Knows going paths after s → IsVisiting going before paths seen after steps begun s
walks-to going before paths seen places after steps begun s awaits path leads e known =
    let place : StatePlace = record { path = going.number; steps = steps } in
    let keeps : KeepsPlaces places after = λ i x h. subst (λ (xs : List StatePlace). slice_get xs i ≡ Some x) (sym e) (places-more places (place ∷ []) i x h) in record {
      known = awaits.known after keeps known;
      way = λ first starts done. record {
        count = length places;
        counted = ap length e ∙ length-last places place;
        last = ap (λ (xs : List StatePlace). slice_get xs (length places)) e ∙ last-place places place;
        path = path;
        at = leads first starts;
        done = awaits.explored after keeps known first starts done;
      };
    }

-- the path's own processor steps
pub walks-on : (going : Going) (before paths paths' : List Path) (seen places : List StatePlace) (steps : ℕ) (begun s t : State) → IsVisiting going before paths seen places steps begun s → KeepsPaths paths paths' → Opens going paths' steps s
    → LeadsSafely going.target.wanted.now s (Step going.path.now.cpu) t → IsAwaiting going before paths' seen places begun t
walks-on going before paths paths' seen places steps begun s t visits keeps opens made = record {
  known = λ after keeps' known first starts. covered-still going.bounds first paths paths' places after begun keeps keeps' (visits.known first starts);
  explored = λ after keeps' known first starts done.
      finishes going.text.low going.text.high going.target.wanted.now going.bounds first paths paths' places after going.number going.path.now.turns.items going.path.now.cpu steps s (visits.way first starts done) keeps keeps'
      opens.forks opens.calls opens.spares opens.undebugged (λ may. made-stays going.target.wanted.now going.bounds first paths' after s t (Step going.path.now.cpu) made (known first starts));
}

pub leads-on : (going : Going) (steps : ℕ) (s t : State) → LeadsTo going steps s → LeadsSafely going.target.wanted.now s (Step going.path.now.cpu) t → LeadsTo going (steps + 1) t
leads-on going steps s t leads made first starts = at-next first s t going.path.now.turns.items going.path.now.cpu steps made.answer (leads first starts) made.accepted

true-false : true ≡ false → ⊥
true-false e = cc

-- the path ends there
pub walks-out : (going : Going) (before paths paths' : List Path) (seen places : List StatePlace) (steps : ℕ) (begun s t : State) (cut : Bool) (outcome : RunOutcome) → is_failed outcome ≡ false → cut ≡ false
    → EndsPath going.target.wanted.now going.bounds going.path.now.cpu cut s t outcome → IsVisiting going before paths seen places steps begun s → KeepsPaths paths paths' → Opens going paths' steps s → HasGoneOn going before paths' seen places begun
walks-out going before paths paths' seen places steps begun s t cut (Failed failure) alive none ends visits keeps opens = absurd (true-false alive)
walks-out going before paths paths' seen places steps begun s t cut Over alive none ends visits keeps opens = record {
  known = λ first starts. covered-still going.bounds first paths paths' places places begun keeps (λ i place h. h) (visits.known first starts);
  explored = λ first starts done.
      finishes going.text.low going.text.high going.target.wanted.now going.bounds first paths paths' places places going.number going.path.now.turns.items going.path.now.cpu steps s (visits.way first starts done) keeps (λ i place h. h)
      opens.forks opens.calls opens.spares opens.undebugged (λ may. absurd (ends may));
}
walks-out going before paths paths' seen places steps begun s t cut Full alive none ends visits keeps opens = absurd (true-false (sym ends ∙ none))

pub ends-walk : (wanted : Wanted) (bounds : EventBounds) (cpu : ℕ) (cut : Bool) (s t : State) (outcome : RunOutcome) → EndsPath wanted bounds cpu cut s t outcome → Ends wanted.lines outcome t
ends-walk wanted bounds cpu cut s t (Failed failure) h = h
ends-walk wanted bounds cpu cut s t Over h = tt
ends-walk wanted bounds cpu cut s t Full h = tt

-- ---- what a visit comes to
-- one that was visited is alike
pub comes-again : (going : Going) (before paths paths' : List Path) (seen places after : List StatePlace) (steps : ℕ) (cut : Bool) (begun s : State) → IsAwaiting going before paths seen places begun s → paths' ≡ paths
    → ComesOfVisit going cut paths places after steps s Again → HasGoneOn going before paths' seen after begun
comes-again going before paths paths' seen places after steps cut begun s awaits same comes =
    subst (λ (xs : List Path). HasGoneOn going before xs seen after begun) (sym same) (walks-again going before paths seen places after begun s awaits comes.0 comes.1)

-- none that was visited is
pub comes-first : (going : Going) (before paths : List Path) (seen places after : List StatePlace) (steps : ℕ) (cut : Bool) (begun s : State) → IsAwaiting going before paths seen places begun s → IsNumbered going paths → LeadsTo going steps s
    → ComesOfVisit going cut paths places after steps s First → IsVisiting going before paths seen after steps begun s
comes-first going before paths seen places after steps cut begun s awaits path leads comes = walks-to going before paths seen places after steps begun s awaits path leads comes.0 comes.1

-- ---- private rows
pub passes-none : (going : Going) (places : List StatePlace) (steps : ℕ) (s : State) → PassesRows going places places steps steps s s
passes-none going places steps s before paths seen begun visits = visits

pub passes-more : (going : Going) (places after after' : List StatePlace) (from steps : ℕ) (s t u : State) → PassesRows going places after from steps s t → KeepsPlaces after after' → ComesOfRow going steps t u after after' true
    → PassesRows going places after' from (steps + 1) s u
passes-more going places after after' from steps s t u passes keeps row before paths seen begun visits =
    let here = passes before paths seen begun visits in record {
      known = λ first starts. covered-still going.bounds first paths paths after after' begun (λ j path h. h) keeps (here.known first starts);
      way = λ first starts done.
          passes-on going.text.low going.text.high going.target.wanted.now going.bounds first paths after after' going.number going.path.now.turns.items going.path.now.cpu steps t u row.0.answer (here.way first starts done) row.0.private row.1 row.0.accepted;
    }

pub leads-past : (going : Going) (steps : ℕ) (s t : State) (places after : List StatePlace) → LeadsTo going steps s → ComesOfRow going steps s t places after true → LeadsTo going (steps + 1) t
leads-past going steps s t places after leads row first starts = at-next first s t going.path.now.turns.items going.path.now.cpu steps row.0.answer (leads first starts) row.0.accepted

pub passes-still : (going : Going) (places after after' : List StatePlace) (from steps : ℕ) (s t u : State) → PassesRows going places after from steps s t → ComesOfRow going steps t u after after' false → PassesRows going places after' from steps s u
passes-still going places after after' from steps s t u passes row =
    subst (λ (x : State). PassesRows going places after' from steps s x) (sym row.0) (subst (λ (xs : List StatePlace). PassesRows going places xs from steps s t) (sym row.1) passes)

-- ---- the last turn
append-ends : (xs ys : List CpuTurn) (x y : CpuTurn) → xs ++ x ∷ [] ≡ ys ++ y ∷ [] → (xs ≡ ys) × (x ≡ y)
append-ends [] [] x y e = let same : x ≡ y = cc in (refl, same)
append-ends [] (b ∷ []) x y e = cc
append-ends [] (b ∷ c ∷ ys) x y e = cc
append-ends (a ∷ []) [] x y e = cc
append-ends (a ∷ c ∷ xs) [] x y e = cc
append-ends (a ∷ xs) (b ∷ ys) x y e =
    let head : a ≡ b = cc in
    let tail : xs ++ x ∷ [] ≡ ys ++ y ∷ [] = cc in
    let rest = append-ends xs ys x y tail in
    (rw head (ap (λ (zs : List CpuTurn). b ∷ zs) rest.0), rest.1)

no-end : (xs : List CpuTurn) (x : CpuTurn) → xs ++ x ∷ [] ≡ [] → ⊥
no-end [] x e = cc
no-end (y ∷ xs) x e = cc

gone-by : (wanted : Wanted) (bounds : EventBounds) (first : State) (paths : List Path) (places : List StatePlace) (turns front : List CpuTurn) (turn : CpuTurn) (s after : State) → turns ≡ front ++ turn ∷ [] → IsAt first front turn.cpu turn.steps s
    → LeadsSafely wanted s (event_of_choice turn.choice) after → IsKnown bounds first paths places after → IsGone bounds (FailsAsWanted wanted) first paths places turns
gone-by wanted bounds first paths places turns front turn s after same at made known = record {
  root = λ none. absurd (no-end front turn (sym same ∙ none));
  last = λ front' turn' t same' at'.
      let both = append-ends front front' turn turn' (sym same ∙ same') in
      let there : IsAt first front' turn'.cpu turn'.steps s = subst (λ (x : CpuTurn). IsAt first front' x.cpu x.steps s) both.1 (subst (λ (xs : List CpuTurn). IsAt first xs turn.cpu turn.steps s) both.0 at) in
      let state : s ≡ t = there ∙ sym at' in
      let stays : StaysKnown bounds (FailsAsWanted wanted) first paths places s (event_of_choice turn.choice) = made-stays wanted bounds first paths places s after (event_of_choice turn.choice) made known in
      subst (λ (x : State). StaysKnown bounds (FailsAsWanted wanted) first paths places x (event_of_choice turn'.choice)) state
      (subst (λ (x : CpuTurn). StaysKnown bounds (FailsAsWanted wanted) first paths places s (event_of_choice x.choice)) both.1 stays);
}

gone-root : (wanted : Wanted) (bounds : EventBounds) (first s : State) (paths : List Path) (places : List StatePlace) (turns : List CpuTurn) → turns ≡ [] → s ≡ first → IsKnown bounds first paths places s → IsGone bounds (FailsAsWanted wanted) first paths places turns
gone-root wanted bounds first s paths places turns none same known = record {
  root = λ e. subst (λ (x : State). IsKnown bounds first paths places x) same known;
  last = λ front turn t e at. absurd (no-end front turn (sym e ∙ none));
}

-- the state from which the last turn's event comes
forks-there : (going : Going) (front : List CpuTurn) (last : CpuTurn) (kept before : State) → BeginsAfresh going → IsAt going.first.now front last.cpu last.steps kept → before ≡ kept → (first : State) → BeginsSearch going first
    → IsAt first front last.cpu last.steps before
forks-there going front last kept before starts at same first starts' =
    let one = one-boot going.target.image.now going.target.boot.now going.first.now first starts.begins starts' in
    subst (λ (s : State). IsAt s front last.cpu last.steps before) one (subst (λ (s : State). IsAt going.first.now front last.cpu last.steps s) (sym same) at)

pub comes-of-turn : (going : Going) (front : List CpuTurn) (last : CpuTurn) (kept before after : State) (attempt : Attempt) → going.path.now.turns.items ≡ front ++ last ∷ [] → BeginsAfresh going → IsAt going.first.now front last.cpu last.steps kept → before ≡ kept
    → ComesOfAttempt going.target.wanted.now before (event_of_choice last.choice) after attempt → ComesOfTurn going after attempt
comes-of-turn going front last kept before after Harmless turns starts at same made = λ first starts'. record {
  front = front;
  turn = last;
  before = before;
  turns = turns;
  reached = forks-there going front last kept before starts at same first starts';
  leads = made;
}
comes-of-turn going front last kept before after (Fails failure) turns starts at same made = made
comes-of-turn going front last kept before after Refused turns starts at same made = tt

none-left : (turns : List CpuTurn) → length turns ≡ 0 → turns ≡ []
none-left [] none = refl
none-left (turn ∷ turns) none = absurd (omega arith)

pub no-turns : (lent turns : List CpuTurn) → length lent ≡ 0 → lent ≡ turns → turns ≡ []
no-turns lent turns none same = sym same ∙ none-left lent none

-- the path has no turn
pub root-leads : (going : Going) (s : State) → going.path.now.turns.items ≡ [] → BeginsSearch going s → LeadsTo going 0 s
root-leads going s none starts first starts' =
    let same = one-boot going.target.image.now going.target.boot.now s first starts starts' in
    subst (λ (turns : List CpuTurn). IsAt first turns going.path.now.cpu 0 s) (sym none) (at-none first s [] going.path.now.cpu (same ∙ no-events first))

pub root-gone : (going : Going) (before paths : List Path) (seen places : List StatePlace) (s : State) → going.path.now.turns.items ≡ [] → BeginsSearch going s → HasGoneOn going before paths seen places s → HasGone going before paths seen places
root-gone going before paths seen places s none starts on = record {
  gone = λ first starts'. gone-root going.target.wanted.now going.bounds first s paths places going.path.now.turns.items none (one-boot going.target.image.now going.target.boot.now s first starts starts') (on.known first starts');
  explored = on.explored;
}

-- .. or some
pub turn-leads : (going : Going) (s : State) → ((first : State) → BeginsSearch going first → EndsByTurn going first s) → LeadsTo going 0 s
turn-leads going s turned first starts =
    let h = turned first starts in
    let there = at-choice first h.before s h.front h.turn h.leads.answer h.reached h.leads.accepted in
    at-none first s going.path.now.turns.items going.path.now.cpu (subst (λ (turns : List CpuTurn). s ≡ replay first (events_of_turns turns)) (sym h.turns) there)

pub turn-gone : (going : Going) (before paths : List Path) (seen places : List StatePlace) (s : State) → ((first : State) → BeginsSearch going first → EndsByTurn going first s) → HasGoneOn going before paths seen places s
    → HasGone going before paths seen places
turn-gone going before paths seen places s turned on = record {
  gone = λ first starts.
      let h = turned first starts in
      gone-by going.target.wanted.now going.bounds first paths places going.path.now.turns.items h.front h.turn h.before s h.turns h.reached h.leads (on.known first starts);
  explored = on.explored;
}

-- ---- what went on
pub went-on : (P Q : RunOutcome → Type 0) (r : Result RunOutcome HuntStop) → ((outcome : RunOutcome) → P outcome → Q outcome) → IfOk r P → IfOk r Q
went-on P Q (Ok outcome) more h = more outcome h
went-on P Q (Err stop) more h = h
