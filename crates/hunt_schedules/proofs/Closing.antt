-- That a search which has looked at all its branches has looked at every schedule.
use Rattle.std.proofs.Common.{◌≡◌, ℕ, ◌+◌, ◌<◌, ◌≤◌, inl, inr, List, [], ◌∷◌, ◌++◌, Some, Result, length, sym, ap, subst, ◌∙◌, arith}
use Rattle.std.specs.Prelude.{replicate, slice_get}
use Rattle.std.proofs.lemmas.List.{length-append}
use Rattle.evm_model.specs.Event.{Event}
use Rattle.evm_model.specs.Replay.{left_by, replay}
use Rattle.evm_model.specs.State.{State}
use Rattle.evm_model.specs.declared.event.Answer.{Answer}
use Rattle.evm_model.specs.declared.event.Event.TheVariants.{Step}
use Rattle.evm_model.specs.declared.refusal.Refusal.{Refusal}
use Rattle.hunt_schedules.proofs.Covering.{none-from}
use Rattle.hunt_schedules.proofs.Searching.{Allows, Failing, events-forked, has-still, none-behind, reached-more, step-or-switch}
use Rattle.hunt_schedules.proofs.Walking.{AreChoices}
use Rattle.hunt_schedules.specs.Branches.{event_of_choice, events_of_turns, forked, KeepsBranches}
use Rattle.hunt_schedules.specs.Covering.{AreClosed, IsCovered, LookAtBoards, StaysCovered}
use Rattle.hunt_schedules.specs.Schedules.{switches, stepped, NoneFails, NoScheduleFails}
use Rattle.hunt_schedules.specs.Searches.{IsDone, IsPassed, IsSearched}
use Rattle.hunt_schedules.specs.Walks.{IsReached}
use Rattle.hunt_schedules.specs.declared.branch.Branch.{Branch}
use Rattle.hunt_schedules.specs.declared.branch.Choice.{Choice}
use Rattle.hunt_schedules.specs.declared.branch.CpuTurn.{CpuTurn}

-- ---- a search that has come farther
-- each branch went on for at least as many steps
abbrev pub GoesFarther : List ℕ → List ℕ → Type 0
GoesFarther walked more = (j n : ℕ) → slice_get walked j ≡ Some n → (m : ℕ) × (n ≤ m) × (slice_get more j ≡ Some m)

pub passed-still : (first : State) (before after : List Branch) (walked more : List ℕ) (s : State) (c k : ℕ) → KeepsBranches before after → GoesFarther walked more
    → IsPassed first before walked s c k → IsPassed first after more s c k
passed-still first before after walked more s c k keeps farther h =
    let at = farther h.place h.count h.far in
    let less = h.before in
    let up = at.1 in
    record { place = h.place; branch = h.branch; steps = h.steps; count = at.0; there = keeps h.place h.branch h.there; far = at.2; before = omega arith; reached = h.reached; cpu = h.cpu; made = h.made }

pub covered-still : (first : State) (before after : List Branch) (walked more : List ℕ) (s : State) (c k : ℕ) → KeepsBranches before after → GoesFarther walked more
    → IsCovered (IsPassed first before walked) s c k → IsCovered (IsPassed first after more) s c k
covered-still first before after walked more s c k keeps farther h = (h.0, h.1, passed-still first before after walked more h.0 c h.1 keeps farther h.2, h.3, h.4)

pub done-still : (May : Allows) (Fails : Failing) (first : State) (most : ℕ) (before after : List Branch) (walked more : List ℕ) (branch : Branch) (steps : ℕ) (s : State) → KeepsBranches before after → GoesFarther walked more
    → IsDone May Fails most before (IsPassed first before walked) branch steps s → IsDone May Fails most after (IsPassed first after more) branch steps s
done-still May Fails first most before after walked more branch steps s keeps farther h = record {
  forks = λ few choice may one. has-still before after (forked branch steps choice) keeps (h.forks few choice may one);
  next = λ may t answer done.
      let all = h.next may t answer done in
      (all.0, covered-still first before after walked more t (stepped branch.cpu (Step branch.cpu)) (length branch.turns.items + switches branch.cpu (Step branch.cpu)) keeps farther all.1);
}

pub searched-still : (May : Allows) (Fails : Failing) (first : State) (most : ℕ) (before after : List Branch) (walked more : List ℕ) (branch : Branch) (count : ℕ) → KeepsBranches before after → GoesFarther walked more
    → IsSearched May Fails first most before (IsPassed first before walked) branch count → IsSearched May Fails first most after (IsPassed first after more) branch count
searched-still May Fails first most before after walked more branch count keeps farther h = record {
  harmless = h.harmless;
  covered = covered-still first before after walked more (replay first (events_of_turns branch.turns.items)) branch.cpu (length branch.turns.items) keeps farther h.covered;
  done = λ steps s less reached. done-still May Fails first most before after walked more branch steps s keeps farther (h.done steps s less reached);
}

-- ---- the positions of a search that has looked at all its branches
abbrev AllSearched : Allows → Failing → State → ℕ → List Branch → List ℕ → Type 0
AllSearched May Fails first most branches walked =
    (j : ℕ) (branch : Branch) → slice_get branches j ≡ Some branch → (count : ℕ) × (slice_get walked j ≡ Some count) × IsSearched May Fails first most branches (IsPassed first branches walked) branch count

-- a switch from a position leads to the beginning of a branch
switch-stays : (May : Allows) (Fails : Failing) (first : State) (most : ℕ) (branches : List Branch) (walked : List ℕ) (branch : Branch) (steps : ℕ) (s : State) (choice : Choice) (count : ℕ) → IsReached first branch steps s
    → IsSearched May Fails first most branches (IsPassed first branches walked) (forked branch steps choice) count → switches branch.cpu (event_of_choice choice) ≡ 1
    → StaysCovered Fails (IsPassed first branches walked) s branch.cpu (length branch.turns.items) (event_of_choice choice)
switch-stays May Fails first most branches walked branch steps s choice count reached searched one after answer done =
    let turn : CpuTurn = record { cpu = branch.cpu; steps = steps; choice = choice } in
    let all = subst (NoneFails Fails first) (events-forked branch steps choice) searched.harmless in
    let last = none-behind Fails first (events_of_turns branch.turns.items ++ replicate steps (Step branch.cpu)) (event_of_choice choice ∷ []) all in
    let here = subst (λ (t : State). NoneFails Fails t (event_of_choice choice ∷ [])) (sym reached) last in
    let there : replay first (events_of_turns (forked branch steps choice).turns.items) ≡ after = reached-more first branch steps s choice reached ∙ ap (λ (r : Result (State × Answer) Refusal). left_by r s) done in
    let longer : length (forked branch steps choice).turns.items ≡ length branch.turns.items + 1 = length-append branch.turns.items (turn ∷ []) in
    let more : length (forked branch steps choice).turns.items ≡ length branch.turns.items + switches branch.cpu (event_of_choice choice) = omega arith in
    let covered : IsCovered (IsPassed first branches walked) after (stepped branch.cpu (event_of_choice choice)) (length (forked branch steps choice).turns.items) =
    subst (λ (t : State). IsCovered (IsPassed first branches walked) t (stepped branch.cpu (event_of_choice choice)) (length (forked branch steps choice).turns.items)) there searched.covered in
    (here.0 after answer done, subst (λ (k : ℕ). IsCovered (IsPassed first branches walked) after (stepped branch.cpu (event_of_choice choice)) k) more covered)

-- each event that may come at a position stays among them
position-stays : (May : Allows) (Fails : Failing) (first : State) (most : ℕ) (branches : List Branch) (walked : List ℕ) (branch : Branch) (steps : ℕ) (s : State) (event : Event) → AreChoices May
    → AllSearched May Fails first most branches walked → IsReached first branch steps s → IsDone May Fails most branches (IsPassed first branches walked) branch steps s
    → May s event → length branch.turns.items + switches branch.cpu event ≤ most → StaysCovered Fails (IsPassed first branches walked) s branch.cpu (length branch.turns.items) event
position-stays May Fails first most branches walked branch steps s event choices all reached done may few =
    elim (step-or-switch branch.cpu event) [
      | inl same ↦ subst (StaysCovered Fails (IsPassed first branches walked) s branch.cpu (length branch.turns.items)) (sym same) (done.next (subst (May s) same may))
      | inr one ↦
          let found = choices s event may in
          let fewer : length branch.turns.items < most = omega arith in
          let may' = subst (May s) (sym found.1) may in
          let one' : switches branch.cpu (event_of_choice found.0) ≡ 1 = ap (switches branch.cpu) found.1 ∙ one in
          let has = done.forks fewer found.0 may' one' in
          let next = all has.0 (forked branch steps found.0) has.1 in
          subst (StaysCovered Fails (IsPassed first branches walked) s branch.cpu (length branch.turns.items)) found.1
          (switch-stays May Fails first most branches walked branch steps s found.0 next.0 reached next.2 one')
    ]

closed-search : (May : Allows) (Fails : Failing) (first : State) (most : ℕ) (branches : List Branch) (walked : List ℕ) → AreChoices May → AllSearched May Fails first most branches walked
    → AreClosed May Fails most (IsPassed first branches walked)
closed-search May Fails first most branches walked choices all s c k event passed may few =
    let here = all passed.place passed.branch passed.there in
    let counts : Some here.0 ≡ Some passed.count = sym here.1 ∙ passed.far in
    let count : here.0 ≡ passed.count = cc in
    let before = passed.before in
    let done = here.2.done passed.steps s (omega arith) passed.reached in
    let few' : length passed.branch.turns.items + switches passed.branch.cpu event ≤ most = subst (λ (n : ℕ). n + switches passed.branch.cpu event ≤ most) (sym passed.made) (subst (λ (d : ℕ). k + switches d event ≤ most) (sym passed.cpu) few) in
    let stays = position-stays May Fails first most branches walked passed.branch passed.steps s event choices all passed.reached done may few' in
    subst (λ (n : ℕ). StaysCovered Fails (IsPassed first branches walked) s c n event) passed.made
    (subst (λ (d : ℕ). StaysCovered Fails (IsPassed first branches walked) s d (length passed.branch.turns.items) event) passed.cpu stays)

-- no schedule with as many switches as may be fails from the first state, if each branch was looked at and the first is the root
pub searched : (May : Allows) (Fails : Failing) (first : State) (most : ℕ) (branches : List Branch) (walked : List ℕ) (root : Branch) → LookAtBoards May Fails → AreChoices May
    → root.turns.items ≡ [] → slice_get branches 0 ≡ Some root → AllSearched May Fails first most branches walked → NoScheduleFails May Fails root.cpu most first
unfolding replay
searched May Fails first most branches walked root look choices none there all events h =
    let covered = (all 0 root there).2.covered in
    let begins : IsCovered (IsPassed first branches walked) first root.cpu 0 = subst (λ (turns : List CpuTurn). IsCovered (IsPassed first branches walked) (replay first (events_of_turns turns)) root.cpu (length turns)) none covered in
    none-from May Fails most (IsPassed first branches walked) look (closed-search May Fails first most branches walked choices all) events first root.cpu 0 most begins (omega arith) h
