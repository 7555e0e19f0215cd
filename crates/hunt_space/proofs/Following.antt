-- A machine follows a search: it is alike to a state that was visited, without the private rows by which tasks are ahead there.
use Rattle.std.proofs.Common.{◌≡◌, ℕ, zero, suc, ◌+◌, ◌≤◌, inl, inr, List, Option, Some, None, Ok, Bool, true, false, length, refl, sym, ap, subst, ◌∙◌, arith}
use Rattle.std.specs.Prelude.{if◌then◌else◌, slice_get}
use Rattle.std.proofs.lemmas.Option.{slice_get_within}
use Rattle.evm_exec.specs.declared.hart.Hart.{Hart}
use Rattle.evm_model.specs.Event.{Event}
use Rattle.evm_model.specs.Good.{Good}
use Rattle.evm_model.specs.Refusals.{board_refusal, is_full}
use Rattle.evm_model.specs.Replay.{apply}
use Rattle.evm_model.specs.Rows.{row}
use Rattle.evm_model.specs.State.{Board, Memory, State}
use Rattle.evm_model.specs.declared.event.Answer.{Answer}
use Rattle.evm_model.specs.declared.event.Answer.TheVariants.{Ran}
use Rattle.evm_model.specs.declared.event.Event.TheVariants.{Step, Tick, Raise, Bell, Stop, Go, StepI, SetReg, SetPc, Poke, Break, Unbreak}
use Rattle.evm_model.specs.declared.processor.Processor.{Processor}
use Rattle.evm_model.specs.declared.refusal.Refusal.{Refusal}
use Rattle.evm_model.specs.declared.refusal.Refusal.TheVariants.{Full}
use Rattle.hunt_failures.specs.Failures.{FailsAsWanted, IsAtCall, step_of}
use Rattle.hunt_failures.specs.declared.wanted.Wanted.{Wanted}
use Rattle.hunt_schedules.specs.declared.branch.CpuTurn.{CpuTurn}
use Rattle.law_runs.proofs.Alike.AheadCatching.{steps_catch_up, steps_go_ahead}
use Rattle.law_runs.proofs.Alike.AheadLaws.{actors_are_ready, raises_keep_ahead, ticks_keep_ahead}
use Rattle.law_runs.proofs.Alike.AheadResting.{good_boards_rest}
use Rattle.law_runs.proofs.Alike.AheadText.{sparing_steps_keep_ahead}
use Rattle.law_runs.specs.Ahead.{IsAtTask, HeadStart, TasksAhead, actor, has_ready_state, one_less, one_more, private_hart, skips, text}
use Rattle.law_runs.specs.Sparing.{spares_text}
use Rattle.law_rules.proofs.Keeps.{row-good}
use Rattle.law_rules.proofs.Replays.{accepted}
use Rattle.hunt_space.proofs.Covering.{alike-back, alike-more, raises-behind, raises-more, raises-next, raises-still, row-answer, row-board}
use Rattle.hunt_space.proofs.FailingAhead.{IsStill, fails-harts}
use Rattle.hunt_space.proofs.Harmless.{private-harmless}
use Rattle.hunt_space.proofs.Harts.{ahead-harts, hart_board, with_harts}
use Rattle.hunt_space.proofs.Private.{calls-private, no-call, private-of}
use Rattle.hunt_space.proofs.Reaching.{at-next}
use Rattle.hunt_space.proofs.Reading.{ReadsSame}
use Rattle.hunt_space.proofs.Shared.{actor-alike, alike-boards, alike-row, breakpoints-alike, demotes-or-fails, reads-alike, with_board}
use Rattle.hunt_space.specs.Demoting.{FailsOrDemotes}
use Rattle.hunt_space.specs.Runs.{MayCome}
use Rattle.hunt_space.specs.Space.{AreAlikeStates, AreExplored, CallsNone, IsAt, IsExplored, IsExploredAt, IsPassedAt, IsPathAt, IsUndebugged, IsVisited, RaisesNoMore, SparesText, StaysKnown}
use Rattle.hunt_space.specs.declared.bounds.EventBounds.{EventBounds}
use Rattle.hunt_space.specs.declared.path.Path.{Path}
use Rattle.hunt_space.specs.declared.visited.StatePlace.{StatePlace}

-- ---- the machine, and the state that was visited
pub record Follows (low high : ℕ) (bounds : EventBounds) (first : State) (paths : List Path) (places : List StatePlace) (t : State) : Type 0 where
  pub rows : ℕ → ℕ
  pub harts : List Hart
  pub seen : State
  pub visited : IsVisited first paths places seen
  pub ahead : TasksAhead low high rows t.board (hart_board harts t.board)
  pub alike : AreAlikeStates bounds.ticks seen (with_harts harts t)
  pub raised : RaisesNoMore bounds.raises seen t

-- .. which was explored
pub record Stands (low high : ℕ) (wanted : Wanted) (bounds : EventBounds) (first : State) (paths : List Path) (places : List StatePlace) (t : State) : Type 0 where
  pub follows : Follows low high bounds first paths places t
  pub explored : IsExplored low high bounds (MayCome wanted.lines bounds) (FailsOrDemotes high wanted) first paths places follows.visited.turns follows.visited.cpu follows.visited.place.steps follows.seen

-- ---- the rules
unless-full : (full : Bool) (why : Option Refusal) → (if full then Some Full else why) ≡ None → why ≡ None
unless-full true why e = cc
unless-full false why e = e

pub good-next : (t behind : State) (event : Event) (word : Answer) → Good t.board.parts → apply t event ≡ Ok (behind, word) → Good behind.board.parts
good-next t behind event word good done =
    let passes = unless-full (is_full t) (board_refusal event t.board) (accepted t behind event word done).0 in
    subst (λ (b : Board). Good b.parts) (row-board event t behind word done) (row-good event t.board passes good)

-- ---- rows of tasks that aren't ahead
row-kept : (lines : List ℕ) (bounds : EventBounds) (low high : ℕ) (rows : ℕ → ℕ) (t : State) (harts : List Hart) (event : Event) → TasksAhead low high rows t.board (hart_board harts t.board) → MayCome lines bounds t event
    → ((c u : ℕ) → step_of event ≡ Some c → actor c t.board ≡ Some u → (rows u ≡ 0) × (spares_text low high t.board.memory (slice_get harts u) ≡ true))
    → TasksAhead low high rows (row event t.board).0 (row event (hart_board harts t.board)).0 × ((row event t.board).1 ≡ (row event (hart_board harts t.board)).1)
row-kept lines bounds low high rows t harts (Step c) ahead may still = sparing_steps_keep_ahead low high rows c t.board (hart_board harts t.board) ahead (λ u acts. still c u refl acts)
row-kept lines bounds low high rows t harts Tick ahead may still = ticks_keep_ahead low high rows t.board (hart_board harts t.board) ahead
row-kept lines bounds low high rows t harts (Raise c line) ahead may still = raises_keep_ahead low high rows c line t.board (hart_board harts t.board) ahead
row-kept lines bounds low high rows t harts (Bell c line) ahead may still = absurd may
row-kept lines bounds low high rows t harts (Stop c) ahead may still = absurd may
row-kept lines bounds low high rows t harts (Go c) ahead may still = absurd may
row-kept lines bounds low high rows t harts (StepI c) ahead may still = absurd may
row-kept lines bounds low high rows t harts (SetReg c r value) ahead may still = absurd may
row-kept lines bounds low high rows t harts (SetPc c pc) ahead may still = absurd may
row-kept lines bounds low high rows t harts (Poke address bytes) ahead may still = absurd may
row-kept lines bounds low high rows t harts (Break address) ahead may still = absurd may
row-kept lines bounds low high rows t harts (Unbreak address) ahead may still = absurd may

pub step-is : (event : Event) (c : ℕ) → step_of event ≡ Some c → event ≡ Step c
step-is (Step d) c e = let same : d ≡ c = cc in ap (λ (n : ℕ). let event : Event = Step n in event) same
step-is _ c e = cc

spares-here : (lines : List ℕ) (bounds : EventBounds) (low high : ℕ) (seen t : State) (harts : List Hart) (event : Event) (c u : ℕ) → SparesText low high (MayCome lines bounds) seen → ReadsSame seen.board (hart_board harts t.board)
    → MayCome lines bounds seen event → step_of event ≡ Some c → actor c t.board ≡ Some u → spares_text low high t.board.memory (slice_get harts u) ≡ true
spares-here lines bounds low high seen t harts event c u spares reads may e acts =
    let may' : MayCome lines bounds seen (Step c) = subst (λ (x : Event). MayCome lines bounds seen x) (step-is event c e) may in
    let there : actor c (hart_board harts t.board) ≡ Some u = acts in
    let acts' : actor c seen.board ≡ Some u = actor-alike seen.board (hart_board harts t.board) reads c ∙ there in
    let at = spares c u may' acts' in
    subst (λ (hs : List Hart). spares_text low high t.board.memory (slice_get hs u) ≡ true) reads.harts
    (subst (λ (m : Memory). spares_text low high m (slice_get seen.board.parts.harts u) ≡ true) reads.memory at)

module _ (low high : ℕ) (wanted : Wanted) (bounds : EventBounds) (first : State) (paths : List Path) (places : List StatePlace) where
  -- an event of no task that is ahead
  pub keeps : (t behind : State) (event : Event) (word : Answer) (f : Follows low high bounds first paths places t) → SparesText low high (MayCome wanted.lines bounds) f.seen
      → MayCome wanted.lines bounds f.seen event → ((e : Event) → MayCome wanted.lines bounds f.seen e → CallsNone bounds.ticks e f.seen)
      → StaysKnown bounds (FailsOrDemotes high wanted) first paths places f.seen event → IsStill f.rows t event → MayCome wanted.lines bounds t event → apply t event ≡ Ok (behind, word)
      → (FailsAsWanted wanted t event word behind → ⊥) × Follows low high bounds first paths places behind
  keeps t behind event word f spares may-seen calls stays still may done =
      let w : Board = hart_board f.harts t.board in
      let there : State = with_harts f.harts t in
      let reads = reads-alike bounds.ticks f.seen there f.alike in
      let kept = row-kept wanted.lines bounds low high f.rows t f.harts event f.ahead may
      (λ c u e acts. (still c u e acts, spares-here wanted.lines bounds low high f.seen t f.harts event c u spares reads may-seen e acts)) in
      let alike = alike-row bounds.ticks event f.seen there f.alike (calls event may-seen) in
      let harts' : List Hart = (row event w).0.parts.harts in
      let here = row-board event t behind word done in
      let ahead : TasksAhead low high f.rows behind.board (row event w).0 = subst (λ (b : Board). TasksAhead low high f.rows b (row event w).0) here kept.0 in
      let lead : HeadStart = record { code = text low high behind.board.memory; rows = f.rows } in
      let same : (row event w).0 ≡ hart_board harts' behind.board = ahead-harts lead behind.board (row event w).0 ahead in
      let ahead' : TasksAhead low high f.rows behind.board (hart_board harts' behind.board) = subst (λ (b : Board). TasksAhead low high f.rows behind.board b) same ahead in
      let alike' = alike-boards bounds.ticks (with_board (row event f.seen.board).0 f.seen) stays.after (with_board (row event w).0 there) (with_harts harts' behind) (row-board event f.seen stays.after stays.answer stays.accepted) same alike.1 in
      let words : word ≡ stays.answer = sym (row-answer event t behind word done) ∙ kept.1 ∙ sym alike.0 ∙ row-answer event f.seen stays.after stays.answer stays.accepted in (
        (λ fails.
            let fails' : FailsAsWanted wanted t event stays.answer behind = subst (λ (a : Answer). FailsAsWanted wanted t event a behind) words fails in
            let far = fails-harts low high f.rows t behind f.harts harts' f.ahead ahead' event still wanted stays.answer fails' in
            stays.harmless (demotes-or-fails high bounds.ticks wanted there f.seen (with_harts harts' behind) stays.after event stays.answer (alike-back bounds.ticks f.seen there f.alike) (alike-back bounds.ticks stays.after (with_harts harts' behind) alike') far)),
        record {
          rows = f.rows;
          harts = harts';
          seen = stays.known.0;
          visited = stays.known.1;
          ahead = ahead';
          alike = alike-more bounds.ticks stays.known.0 stays.after (with_harts harts' behind) stays.known.2 alike';
          raised = raises-more bounds.raises stays.known.0 stays.after behind stays.known.3 (raises-next bounds.raises event f.seen t stays.after behind stays.answer word f.raised stays.accepted done);
        },
      )

  -- a Step of a task that is ahead
  pub catches : (t behind : State) (c u n : ℕ) (word : Answer) (f : Follows low high bounds first paths places t) → IsUndebugged f.seen → Good t.board.parts → actor c t.board ≡ Some u → f.rows u ≡ suc n
      → apply t (Step c) ≡ Ok (behind, word)
      → (FailsAsWanted wanted t (Step c) word behind → ⊥) × (rows : ℕ → ℕ) × TasksAhead low high rows behind.board (hart_board f.harts behind.board) × AreAlikeStates bounds.ticks f.seen (with_harts f.harts behind)
      × RaisesNoMore bounds.raises f.seen behind
  catches t behind c u n word f clean good acts more done =
      let w : Board = hart_board f.harts t.board in
      let there : State = with_harts f.harts t in
      let event : Event = Step c in
      let reads = reads-alike bounds.ticks f.seen there f.alike in
      let is : IsAtTask c u t.board = record {
        acts = acts;
        unbroken = sym (breakpoints-alike bounds.ticks f.seen there f.alike) ∙ clean.unbroken;
        unskipped = ap (λ (ps : List Processor). skips (slice_get ps c)) (sym reads.processors) ∙ clean.unskipped c;
        rests = good_boards_rest c u t.board good acts;
      } in
      let rows : ℕ → ℕ = one_less u f.rows in
      let caught = steps_catch_up low high f.rows c u n t.board w f.ahead is more in
      let here = row-board event t behind word done in
      let ahead : TasksAhead low high rows behind.board w = subst (λ (b : Board). TasksAhead low high rows b w) here caught.0 in
      let lead : HeadStart = record { code = text low high behind.board.memory; rows = rows } in
      let same : w ≡ hart_board f.harts behind.board = ahead-harts lead behind.board w ahead in
      let ran : word ≡ Ran u = sym (row-answer event t behind word done) ∙ caught.1 in
      let changed : behind.board ≡ hart_board behind.board.parts.harts t.board = sym (ap (hart_board behind.board.parts.harts) same) in
      let p = private-of low high f.rows t.board w u n f.ahead more in
      let none : (pc : ℕ) → IsAtCall u pc t → ⊥ = λ pc at. no-call low high t.board.memory (slice_get t.board.parts.harts u) p.0 pc p.1 at.0 at.1 in (
        private-harmless wanted t behind c u word acts (f.ahead.parts.ready u n more) ran changed none,
        rows,
        subst (λ (b : Board). TasksAhead low high rows behind.board b) same ahead,
        alike-boards bounds.ticks f.seen f.seen there (with_harts f.harts behind) refl same f.alike,
        raises-behind bounds.raises c f.seen t behind word f.raised done,
      )

  -- ---- from a state that was passed to the next place
  reached-by : (n steps cpu cpu' : ℕ) (turns turns' : List CpuTurn) (s : State) → IsPathAt paths n turns cpu → IsPathAt paths n turns' cpu' → IsAt first turns cpu steps s → IsAt first turns' cpu' steps s
  reached-by n steps cpu cpu' turns turns' s h g at =
      let both : Some h.0 ≡ Some g.0 = sym h.1 ∙ g.1 in
      let same : h.0 ≡ g.0 = cc in
      let turned : turns ≡ turns' = sym h.2 ∙ (ap (λ (path : Path). path.turns.items) same ∙ g.2) in
      let on : cpu ≡ cpu' = sym h.3 ∙ (ap (λ (path : Path). path.cpu) same ∙ g.3) in
      subst (λ (c : ℕ). IsAt first turns' c steps s) on (subst (λ (xs : List CpuTurn). IsAt first xs cpu steps s) turned at)

  goes-on : (t : State) (f : Follows low high bounds first paths places t) → Good t.board.parts → IsPassedAt low high first paths places f.visited.index f.visited.place
      → (g : Follows low high bounds first paths places t) × (g.visited.index ≡ f.visited.index + 1)
  goes-on t f good passed =
      let v = f.visited in
      let cpu = passed.cpu in
      let w : Board = hart_board f.harts t.board in
      let there : State = with_harts f.harts t in
      let event : Event = Step cpu in
      let reached = reached-by v.place.path v.place.steps v.cpu cpu v.turns passed.turns f.seen v.path passed.path v.reached in
      let p = passed.done f.seen reached in
      let reads = reads-alike bounds.ticks f.seen there f.alike in
      let acts : actor cpu w ≡ Some p.task = sym (actor-alike f.seen.board w reads cpu) ∙ p.acts in
      let acts' : actor cpu t.board ≡ Some p.task = acts in
      let is : IsAtTask cpu p.task w = record {
        acts = acts;
        unbroken = sym (breakpoints-alike bounds.ticks f.seen there f.alike) ∙ p.undebugged.unbroken;
        unskipped = ap (λ (ps : List Processor). skips (slice_get ps cpu)) (sym reads.processors) ∙ p.undebugged.unskipped cpu;
        rests = λ harts. good_boards_rest cpu p.task t.board good acts' harts;
      } in
      let ready : has_ready_state (slice_get w.parts.tasks p.task) ≡ true = actors_are_ready cpu p.task t.board good acts' in
      let private : private_hart (text low high w.memory) (slice_get w.parts.harts p.task) ≡ Some p.next =
      subst (λ (m : Memory). private_hart (text low high m) (slice_get f.harts p.task) ≡ Some p.next) reads.memory
      (subst (λ (hs : List Hart). private_hart (text low high f.seen.board.memory) (slice_get hs p.task) ≡ Some p.next) reads.harts p.private) in
      let rows : ℕ → ℕ = one_more p.task f.rows in
      let gone = steps_go_ahead low high f.rows cpu p.task p.next t.board w f.ahead is ready private in
      let harts' : List Hart = (row event w).0.parts.harts in
      let lead : HeadStart = record { code = text low high t.board.memory; rows = rows } in
      let same : (row event w).0 ≡ hart_board harts' t.board = ahead-harts lead t.board (row event w).0 gone.0 in
      let alike = alike-row bounds.ticks event f.seen there f.alike (calls-private bounds.ticks low high cpu p.task p.next f.seen p.acts p.private) in
      let visited : IsVisited first paths places p.after = record {
        index = v.index + 1;
        place = record v.place { steps = v.place.steps + 1 };
        turns = passed.turns;
        cpu = cpu;
        there = passed.next;
        path = passed.path;
        reached = at-next first f.seen p.after passed.turns cpu v.place.steps p.answer reached p.accepted;
      } in
      let g : Follows low high bounds first paths places t = record {
        rows = rows;
        harts = harts';
        seen = p.after;
        visited = visited;
        ahead = subst (λ (b : Board). TasksAhead low high rows t.board b) same gone.0;
        alike = alike-boards bounds.ticks (with_board (row event f.seen.board).0 f.seen) p.after (with_board (row event w).0 there) (with_harts harts' t) (row-board event f.seen p.after p.answer p.accepted) same alike.1;
        raised = raises-still bounds.raises cpu f.seen p.after t p.answer f.raised p.accepted;
      } in
      (g, refl)

  module _ (done : AreExplored low high bounds (MayCome wanted.lines bounds) (FailsOrDemotes high wanted) first paths places (length places)) where
    explored-here : (t : State) (f : Follows low high bounds first paths places t) → IsExploredAt low high bounds (MayCome wanted.lines bounds) (FailsOrDemotes high wanted) first paths places f.visited.place
        → Stands low high wanted bounds first paths places t
    explored-here t f all =
        let v = f.visited in
        let both : Some all.path.0 ≡ Some v.path.0 = sym all.path.1 ∙ v.path.1 in
        let same : all.path.0 ≡ v.path.0 = cc in
        let turned : all.turns ≡ v.turns = sym all.path.2 ∙ (ap (λ (path : Path). path.turns.items) same ∙ v.path.2) in
        let on : all.cpu ≡ v.cpu = sym all.path.3 ∙ (ap (λ (path : Path). path.cpu) same ∙ v.path.3) in
        let D : List CpuTurn → ℕ → Type 0 = λ turns cpu. (s : State) → IsAt first turns cpu v.place.steps s
        → IsExplored low high bounds (MayCome wanted.lines bounds) (FailsOrDemotes high wanted) first paths places turns cpu v.place.steps s in
        record { follows = f; explored = subst (λ (cpu : ℕ). D v.turns cpu) on (subst (λ (turns : List CpuTurn). D turns all.cpu) turned all.done) f.seen v.reached }

    -- up to a state that was explored
    pub goes-along : (k : ℕ) (t : State) (f : Follows low high bounds first paths places t) → Good t.board.parts → length places ≤ f.visited.index + k → Stands low high wanted bounds first paths places t
    goes-along zero t f good room = let within = slice_get_within places f.visited.index f.visited.place f.visited.there in absurd (omega (arith, within, room))
    goes-along (suc k) t f good room = elim (done f.visited.index f.visited.place (slice_get_within places f.visited.index f.visited.place f.visited.there) f.visited.there) [
      | inl all ↦ explored-here t f all
      | inr passed ↦ let next = goes-on t f good passed in goes-along k t next.0 good (omega (arith, next.1, room))
    ]

    pub stands : (t : State) → Good t.board.parts → Follows low high bounds first paths places t → Stands low high wanted bounds first paths places t
    stands t good f = goes-along (length places) t f good (omega arith)
