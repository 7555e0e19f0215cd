-- Where each state that was visited is explored or passed, and each path was gone, no schedule fails.
use Rattle.std.proofs.Common.{◌≡◌, ◌≢◌, ℕ, zero, suc, ◌⊎◌, inl, inr, List, [], ◌∷◌, Option, Some, None, Result, Ok, Err, length, refl, sym, ap, subst, ◌∙◌, arith}
use Rattle.std.proofs.lemmas.Bool.Decides.{eqb_tells}
use Rattle.std.proofs.lemmas.Option.{slice_get_within}
use Rattle.evm_core.specs.Load.{load, load_refusal, load_unless}
use Rattle.evm_devs.specs.Devices.{program_devices}
use Rattle.evm_ram.specs.Images.{Contents, byte_at}
use Rattle.evm_model.specs.Event.{Event}
use Rattle.evm_model.specs.Good.{Good}
use Rattle.evm_model.specs.Load.{load_board}
use Rattle.evm_model.specs.Replay.{apply, left_by, start}
use Rattle.evm_model.specs.State.{Board, State, booted, booted_parts}
use Rattle.evm_model.specs.declared.boot.Boot.{Boot}
use Rattle.evm_model.specs.declared.event.Answer.{Answer}
use Rattle.evm_model.specs.declared.event.Event.TheVariants.{Step, Tick, Raise, Bell, Stop, Go, StepI, SetReg, SetPc, Poke, Break, Unbreak}
use Rattle.evm_model.specs.declared.refusal.Refusal.{Refusal}
use Rattle.hunt_failures.specs.Failures.{FailsAsWanted, step_of}
use Rattle.hunt_failures.specs.declared.wanted.Wanted.{Wanted}
use Rattle.hunt_schedules.specs.Beginning.{Begins}
use Rattle.hunt_schedules.specs.Branches.{event_of_choice}
use Rattle.hunt_schedules.specs.Schedules.{Behind, IsHarmless, NoneFails}
use Rattle.hunt_schedules.specs.declared.branch.Choice.{Choice}
use Rattle.hunt_schedules.specs.declared.branch.Choice.TheVariants as choices
use Rattle.law_runs.proofs.Alike.AheadLaws.{none_is_ahead}
use Rattle.law_runs.proofs.Alike.TimelessLaws.{boots_have_no_times}
use Rattle.law_runs.specs.Ahead.{actor}
use Rattle.law_runs.specs.Alike.{StampsBelow}
use Rattle.law_runs.specs.Timeless.{HasNoTimes}
use Rattle.hunt_space.proofs.Covering.{alike-back, alike-more, alike-same, may-come, raises-more}
use Rattle.hunt_space.proofs.FailingAhead.{IsStill}
use Rattle.hunt_space.proofs.Following.{Follows, Stands, catches, good-next, keeps, stands, step-is}
use Rattle.hunt_space.proofs.Harts.{may-harts, raises-harts, with_harts}
use Rattle.hunt_space.specs.Complete.{SearchesAreComplete}
use Rattle.hunt_space.specs.Demoting.{FailsOrDemotes}
use Rattle.hunt_space.specs.Raises.{raise_count}
use Rattle.hunt_space.specs.Runs.{IsAnySchedule, MayCome, with_capacity}
use Rattle.hunt_space.specs.Space.{AreAlikeStates, AreExplored, AreGone, FitsClock, IsExplored, IsVisited, RaisesNoMore, StaysKnown}
use Rattle.hunt_space.specs.declared.bounds.Bound.{Bound}
use Rattle.hunt_space.specs.declared.bounds.EventBounds.{EventBounds}
use Rattle.hunt_space.specs.declared.bounds.Bound.TheVariants.{AtMost, Free}
use Rattle.hunt_space.specs.declared.path.Path.{Path}
use Rattle.hunt_space.specs.declared.visited.StatePlace.{StatePlace}

-- ---- each event that may come is a choice
pub choice-of : (lines : List ℕ) (bounds : EventBounds) (s : State) (event : Event) → MayCome lines bounds s event → (choice : Choice) × (event_of_choice choice ≡ event)
choice-of lines bounds s (Step c) may = (choices.Step c, refl)
choice-of lines bounds s Tick may = (choices.Tick, refl)
choice-of lines bounds s (Raise c line) may = (choices.Raise c line, refl)
choice-of lines bounds s (Bell c line) may = absurd may
choice-of lines bounds s (Stop c) may = absurd may
choice-of lines bounds s (Go c) may = absurd may
choice-of lines bounds s (StepI c) may = absurd may
choice-of lines bounds s (SetReg c r value) may = absurd may
choice-of lines bounds s (SetPc c pc) may = absurd may
choice-of lines bounds s (Poke address bytes) may = absurd may
choice-of lines bounds s (Break address) may = absurd may
choice-of lines bounds s (Unbreak address) may = absurd may

-- a step of a processor, or another event
pub own-or-other : (c : ℕ) (choice : Choice) → (event_of_choice choice ≡ Step c) ⊎ (event_of_choice choice ≢ Step c)
own-or-other c (choices.Step d) = elim (eqb_tells d c) [
  | inl same ↦ inl (ap (λ (n : ℕ). let event : Event = Step n in event) same.1)
  | inr other ↦ inr (λ e. let same : d ≡ c = cc in other.1 same)
]
own-or-other c choices.Tick = inr (λ e. cc)
own-or-other c (choices.Raise d line) = inr (λ e. cc)

-- each event that may come at a state that was explored stays among the states that are known
pub stays-explored : (low high : ℕ) (wanted : Wanted) (bounds : EventBounds) (first : State) (paths : List Path) (places : List StatePlace) (s : State) (event : Event) → AreGone bounds (FailsOrDemotes high wanted) first paths places (length paths)
    → (v : IsVisited first paths places s) → IsExplored low high bounds (MayCome wanted.lines bounds) (FailsOrDemotes high wanted) first paths places v.turns v.cpu v.place.steps s
    → MayCome wanted.lines bounds s event → StaysKnown bounds (FailsOrDemotes high wanted) first paths places s event
stays-explored low high wanted bounds first paths places s event gone v here may =
    let chosen = choice-of wanted.lines bounds s event may in
    let choice = chosen.0 in
    let may' : MayCome wanted.lines bounds s (event_of_choice choice) = subst (λ (e : Event). MayCome wanted.lines bounds s e) (sym chosen.1) may in
    let stays : StaysKnown bounds (FailsOrDemotes high wanted) first paths places s (event_of_choice choice) = elim (own-or-other v.cpu choice) [
      | inl own ↦ subst (λ (e : Event). StaysKnown bounds (FailsOrDemotes high wanted) first paths places s e) (sym own) (here.next (subst (λ (e : Event). MayCome wanted.lines bounds s e) own may'))
      | inr other ↦
          let has = here.forks choice may' other in
          let path = has.1 in
          let last = gone has.0 path.0 (slice_get_within paths has.0 path.0 path.1) path.1 in
          last.last v.turns (record { cpu = v.cpu; steps = v.place.steps; choice = choice }) s path.2 v.reached
    ] in
    subst (λ (e : Event). StaysKnown bounds (FailsOrDemotes high wanted) first paths places s e) chosen.1 stays

-- ---- whose step an event is
pub record IsAheadAt (rows : ℕ → ℕ) (s : State) (event : Event) : Type 0 where
  pub cpu : ℕ
  pub task : ℕ
  pub less : ℕ
  pub steps : event ≡ Step cpu
  pub acts : actor cpu s.board ≡ Some task
  pub more : rows task ≡ suc less

by-rows : (rows : ℕ → ℕ) (s : State) (event : Event) (c t n : ℕ) → step_of event ≡ Some c → actor c s.board ≡ Some t → rows t ≡ n → IsStill rows s event ⊎ IsAheadAt rows s event
by-rows rows s event c t zero e acts z = inl (λ d u e' acts'.
    let both : Some c ≡ Some d = sym e ∙ e' in
    let cpu : c ≡ d = cc in
    let there : actor d s.board ≡ Some t = subst (λ (n : ℕ). actor n s.board ≡ Some t) cpu acts in
    let one : Some t ≡ Some u = sym there ∙ acts' in
    let task : t ≡ u = cc in
    subst (λ (v : ℕ). rows v ≡ 0) task z)
by-rows rows s event c t (suc n) e acts more = inr (record { cpu = c; task = t; less = n; steps = step-is event c e; acts = acts; more = more })

by-actor : (rows : ℕ → ℕ) (s : State) (event : Event) (c : ℕ) (o : Option ℕ) → step_of event ≡ Some c → actor c s.board ≡ o → IsStill rows s event ⊎ IsAheadAt rows s event
by-actor rows s event c None e acts = inl (λ d u e' acts'.
    let both : Some c ≡ Some d = sym e ∙ e' in
    let cpu : c ≡ d = cc in
    let there : actor d s.board ≡ None = subst (λ (n : ℕ). actor n s.board ≡ None) cpu acts in
    let no : None ≡ Some u = sym there ∙ acts' in
    cc)
by-actor rows s event c (Some t) e acts = by-rows rows s event c t (rows t) e acts refl

still-or-ahead : (rows : ℕ → ℕ) (s : State) (event : Event) (o : Option ℕ) → step_of event ≡ o → IsStill rows s event ⊎ IsAheadAt rows s event
still-or-ahead rows s event None e = inl (λ d u e' acts. let no : None ≡ Some d = sym e ∙ e' in cc)
still-or-ahead rows s event (Some c) e = by-actor rows s event c (actor c s.board) e refl

module _ (low high : ℕ) (wanted : Wanted) (bounds : EventBounds) (first : State) (paths : List Path) (places : List StatePlace)
    (done : AreExplored low high bounds (MayCome wanted.lines bounds) (FailsOrDemotes high wanted) first paths places (length places))
    (gone : AreGone bounds (FailsOrDemotes high wanted) first paths places (length paths)) where
  -- ---- one event
  one-event : (t behind : State) (event : Event) (word : Answer) → Good t.board.parts → Stands low high wanted bounds first paths places t → MayCome wanted.lines bounds t event → apply t event ≡ Ok (behind, word)
      → (FailsAsWanted wanted t event word behind → ⊥) × Stands low high wanted bounds first paths places behind
  one-event t behind event word good stand may run =
      let f = stand.follows in
      let there : State = with_harts f.harts t in
      let good' = good-next t behind event word good run in
      elim (still-or-ahead f.rows t event (step_of event) refl) [
        | inl still ↦
            let may-seen = may-come wanted bounds there f.seen event (alike-back bounds.ticks f.seen there f.alike) (raises-harts bounds.raises f.seen t f.harts f.raised) (may-harts wanted.lines bounds t f.harts event may) in
            let stays = stays-explored low high wanted bounds first paths places f.seen event gone f.visited stand.explored may-seen in
            let next = keeps low high wanted bounds first paths places t behind event word f stand.explored.spares may-seen stand.explored.calls stays still may run in
            (next.0, stands low high wanted bounds first paths places done behind good' next.1)
        | inr ahead ↦
            let run' : apply t (Step ahead.cpu) ≡ Ok (behind, word) = subst (λ (e : Event). apply t e ≡ Ok (behind, word)) ahead.steps run in
            let next = catches low high wanted bounds first paths places t behind ahead.cpu ahead.task ahead.less word f stand.explored.undebugged good ahead.acts ahead.more run' in (
              (λ fails. next.0 (subst (λ (e : Event). FailsAsWanted wanted t e word behind) ahead.steps fails)),
              record {
                follows = record { rows = next.1; harts = f.harts; seen = f.seen; visited = f.visited; ahead = next.2; alike = next.3; raised = next.4 };
                explored = stand.explored;
              },
            )
      ]

  -- ---- a schedule
  run-first : (t : State) (event : Event) (events : List Event) (r : Result (State × Answer) Refusal) → apply t event ≡ r → Good t.board.parts → Stands low high wanted bounds first paths places t → MayCome wanted.lines bounds t event
      → ((u : State) → Good u.board.parts → Stands low high wanted bounds first paths places u → IsAnySchedule (MayCome wanted.lines bounds) u events → NoneFails (FailsAsWanted wanted) u events)
      → Behind r (λ after. IsAnySchedule (MayCome wanted.lines bounds) after events)
      → IsHarmless (FailsAsWanted wanted) t event × NoneFails (FailsAsWanted wanted) (left_by r t) events
  run-first t event events (Err refusal) e good stand may others run = absurd run
  run-first t event events (Ok behind) e good stand may others run =
      let next = one-event t behind.0 event behind.1 good stand may e in (
        (λ u answer same fails.
            let one : Ok behind ≡ Ok (u, answer) = sym e ∙ same in
            let pair : behind ≡ (u, answer) = cc in
            let state : behind.0 ≡ u = ap (λ (p : State × Answer). p.0) pair in
            let word : behind.1 ≡ answer = ap (λ (p : State × Answer). p.1) pair in
            next.0 (subst (λ (a : Answer). FailsAsWanted wanted t event a behind.0) (sym word) (subst (λ (x : State). FailsAsWanted wanted t event answer x) (sym state) fails))),
        others behind.0 (good-next t behind.0 event behind.1 good e) next.1 run,
      )

  pub none-run : (events : List Event) (t : State) → Good t.board.parts → Stands low high wanted bounds first paths places t → IsAnySchedule (MayCome wanted.lines bounds) t events → NoneFails (FailsAsWanted wanted) t events
  none-run [] t good stand run = tt
  none-run (event ∷ events) t good stand run = run-first t event events (apply t event) refl good stand run.0 (none-run events) run.1

-- ---- the boot
-- machines that boot with an image have one board, whatever the capacity
loaded-board : (image : Contents) (s t : State) (r : Option Refusal) → load_unless r image s ≡ Ok t → t.board ≡ load_board (byte_at image) image.entry s.board
loaded-board image s t (Some refusal) h = cc
loaded-board image s t None h = let same : record s { board = load_board (byte_at image) image.entry s.board } ≡ t = cc in ap (λ (x : State). x.board) (sym same)

begun-board : (image : Contents) (boot : Boot) (s : State) → Begins image boot s → s.board ≡ load_board (byte_at image) image.entry (booted program_devices boot)
unfolding load
begun-board image boot s h = loaded-board image (start program_devices boot) s (load_refusal image (start program_devices boot)) h

same-boot : (boot : Boot) (capacity : ℕ) → booted program_devices (with_capacity capacity boot) ≡ booted program_devices boot
unfolding booted booted_parts
same-boot boot capacity = refl

-- a boot gives one stamp
begun-stamps : (image : Contents) (boot : Boot) → StampsBelow (load_board (byte_at image) image.entry (booted program_devices boot)).parts
unfolding booted booted_parts load_board
begun-stamps image boot zero less = omega arith
begun-stamps image boot (suc t) less = absurd (omega arith)

-- a boot names no time
begun-fits : (clock : Bound) (image : Contents) (boot : Boot) (first : State) → Begins image boot first → FitsClock clock first
begun-fits (AtMost most) image boot first h = tt
begun-fits Free image boot first h =
    subst (λ (b : Board). HasNoTimes b.parts) (sym (begun-board image boot first h)) ((boots_have_no_times program_devices boot).1 (byte_at image) image.entry)

same-begun : (image : Contents) (boot : Boot) (capacity : ℕ) (first s : State) → Begins image boot first → Begins image (with_capacity capacity boot) s → first.board ≡ s.board
same-begun image boot capacity first s h g =
    begun-board image boot first h ∙ (ap (load_board (byte_at image) image.entry) (sym (same-boot boot capacity)) ∙ sym (begun-board image (with_capacity capacity boot) s g))

one-board : (bounds : EventBounds) (image : Contents) (boot : Boot) (capacity : ℕ) (first s : State) → Begins image boot first → Begins image (with_capacity capacity boot) s → AreAlikeStates bounds.ticks first s
one-board bounds image boot capacity first s h g =
    let board = begun-board image boot first h in
    alike-same bounds.ticks first s (subst (λ (b : Board). StampsBelow b.parts) (sym board) (begun-stamps image boot)) (begun-fits bounds.ticks image boot first h) (same-begun image boot capacity first s h g)

-- no line was raised at a boot
loaded-journal : (image : Contents) (s t : State) (r : Option Refusal) → load_unless r image s ≡ Ok t → t.journal ≡ s.journal
loaded-journal image s t (Some refusal) h = cc
loaded-journal image s t None h = let same : record s { board = load_board (byte_at image) image.entry s.board } ≡ t = cc in ap (λ (x : State). x.journal) (sym same)

begun-journal : (image : Contents) (boot : Boot) (s : State) → Begins image boot s → s.journal ≡ []
unfolding load
begun-journal image boot s h = loaded-journal image (start program_devices boot) s (load_refusal image (start program_devices boot)) h

raises-begun : (bound : Bound) (image : Contents) (boot : Boot) (first s : State) → Begins image boot first → RaisesNoMore bound first s
raises-begun (AtMost most) image boot first s h = let none = ap raise_count (begun-journal image boot first h) in omega arith
raises-begun Free image boot first s h = tt

-- ---- the search
pub searches_are_complete : SearchesAreComplete
searches_are_complete low high image boot wanted bounds first paths places root begins good there none done gone capacity s events begins' run =
    let here = (gone 0 root (slice_get_within paths 0 root there) there).root none in
    let good' : Good s.board.parts = subst (λ (b : Board). Good b.parts) (same-begun image boot capacity first s begins begins') good in
    let f : Follows low high bounds first paths places s = record {
      rows = λ t. 0;
      harts = s.board.parts.harts;
      seen = here.0;
      visited = here.1;
      ahead = none_is_ahead low high s.board good'.harts_count;
      alike = alike-more bounds.ticks here.0 first s here.2 (one-board bounds image boot capacity first s begins begins');
      raised = raises-more bounds.raises here.0 first s here.3 (raises-begun bounds.raises image boot first s begins);
    } in
    none-run low high wanted bounds first paths places done gone events s good' (stands low high wanted bounds first paths places done s good' f) run
