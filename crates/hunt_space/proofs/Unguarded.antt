-- A machine without a watchdog: no line demotes a task, so a search needn't look for that.
use Rattle.std.proofs.Common.{◌≡◌, ℕ, ◌<◌, List, [], ◌∷◌, ◌++◌, Bool, true, false, Option, Some, None, Result, Ok, Err, length, refl, sym, ap, subst, ◌∙◌, ◌⊎◌, inl, inr}
use Rattle.std.specs.Prelude.{if◌then◌else◌, replicate, slice_get}
use Rattle.evm_core.specs.Load.{load, load_refusal, load_unless}
use Rattle.evm_devs.specs.Devices.{program_devices}
use Rattle.evm_lines.specs.Lines.{has_line, least_line}
use Rattle.evm_model.specs.Current.{current_of}
use Rattle.evm_model.specs.Event.{Event}
use Rattle.evm_model.specs.Good.{GoodState}
use Rattle.evm_model.specs.Load.{load_board}
use Rattle.evm_model.specs.Pipes.{Pipe}
use Rattle.evm_model.specs.Replay.{apply, left_by, replay, start}
use Rattle.evm_model.specs.Rows.{row, step}
use Rattle.evm_model.specs.State.{Board, Parts, State}
use Rattle.evm_model.specs.declared.boot.Boot.{Boot}
use Rattle.evm_model.specs.declared.event.Answer.{Answer}
use Rattle.evm_model.specs.declared.event.Event.TheVariants.{Step}
use Rattle.evm_model.specs.declared.processor.Processor.{Processor}
use Rattle.evm_model.specs.declared.profile.Profile.{Profile}
use Rattle.evm_model.specs.declared.refusal.Refusal.{Refusal}
use Rattle.evm_model.specs.declared.task.Task.{Task}
use Rattle.evm_model.specs.declared.task.TaskState.{TaskState}
use Rattle.evm_model.specs.declared.task.TaskState.TheVariants.{Waits}
use Rattle.evm_model.specs.declared.task.Wait.{Wait}
use Rattle.evm_model.specs.declared.task.Wait.TheVariants.{Event as OfEvent}
use Rattle.evm_ram.specs.Images.{Contents, byte_at}
use Rattle.hunt_failures.specs.Failures.{FailsAsWanted, is_in_band_task, is_out_of_band}
use Rattle.hunt_failures.specs.declared.wanted.Wanted.{Wanted}
use Rattle.hunt_schedules.specs.Beginning.{Begins}
use Rattle.hunt_schedules.specs.Branches.{event_of_choice, events_of_turns}
use Rattle.hunt_schedules.specs.declared.branch.CpuTurn.{CpuTurn}
use Rattle.law_runs.specs.Ahead.{actor_now, actor_among, actor_on}
use Rattle.law_rules.proofs.PlayingWalks.{first_on}
use Rattle.law_rules.proofs.Replays.{accepted}
use Rattle.law_rules.proofs.States.{GoodState-replay}
use Rattle.law_runs.proofs.Commands.{events_change_only}
use Rattle.law_runs.specs.Changes.{Hears, MakesNone, Overruns, Spends, StepChanges, Stays}
use Rattle.hunt_space.proofs.Completing.{searches_are_complete}
use Rattle.hunt_space.proofs.Covering.{row-board}
use Rattle.hunt_space.proofs.Following.{step-is}
use Rattle.hunt_space.proofs.Harmless.{out-of-band}
use Rattle.hunt_space.specs.Complete.{SearchesWithoutWatchdog}
use Rattle.hunt_space.specs.Demoting.{FailsOrDemotes, IsDemotedByLine}
use Rattle.hunt_space.specs.Runs.{MayCome}
use Rattle.hunt_space.specs.Space.{AreExplored, AreGone, IsAt, IsExploredAt, StaysKnown}
use Rattle.hunt_space.specs.declared.bounds.EventBounds.{EventBounds}
use Rattle.hunt_space.specs.declared.path.Path.{Path}
use Rattle.hunt_space.specs.declared.visited.StatePlace.{StatePlace}

-- ---- a task that stays
-- what is out-of-band before and in-band behind has changed
changed-state : (o o' : Option Task) → is_out_of_band o ≡ true → is_in_band_task o' ≡ true → o ≡ o' → ⊥
changed-state o o' out in' same =
    let not : is_in_band_task o ≡ false = out-of-band o out in
    let no : true ≡ false = sym in' ∙ ap is_in_band_task (sym same) ∙ not in cc

of-state : (o : Option Task) (task : Task) (state : TaskState) → is_out_of_band o ≡ true → o ≡ Some task → task.state ≡ state → is_out_of_band (Some (record task { state = state })) ≡ true
of-state o task state out there on = ap (λ (x : TaskState). is_out_of_band (Some (record task { state = x }))) (sym on) ∙ ap is_out_of_band (sym there) ∙ out

waits-not : (o : Option Task) (task : Task) (wait : Wait) → is_out_of_band o ≡ true → o ≡ Some task → task.state ≡ Waits wait → ⊥
waits-not o task wait out there on = let h = of-state o task (Waits wait) out there on in cc

module _ (c t : ℕ) (old new : Parts) (out : is_out_of_band (slice_get old.tasks t) ≡ true) (into : is_in_band_task (slice_get new.tasks t) ≡ true) where
  rests-not : (o : Option Task) → slice_get old.tasks t ≡ o → ((task : Task) → slice_get old.tasks t ≡ Some task → slice_get new.tasks t ≡ Some task) → ⊥
  rests-not None e rest = let no : is_out_of_band None ≡ true = ap is_out_of_band (sym e) ∙ out in cc
  rests-not (Some task) e rest = changed-state (slice_get old.tasks t) (slice_get new.tasks t) out into (e ∙ sym (rest task e))

  stays-not : Stays None MakesNone c t old new → ⊥
  stays-not (inl rests) = rests-not (slice_get old.tasks t) refl rests.task
  stays-not (inr (inl wakes)) = waits-not (slice_get old.tasks t) wakes.task wakes.wait out wakes.waited wakes.on
  stays-not (inr (inr requeues)) = waits-not (slice_get old.tasks t) requeues.task (OfEvent requeues.event) out requeues.waited requeues.on

  spends-not : Spends c t old new → ⊥
  spends-not h =
      let after : is_in_band_task (Some (record h.task { slice = h.slice; stamp = h.stamp })) ≡ true = ap is_in_band_task (sym h.spends) ∙ into in
      let before : is_out_of_band (Some h.task) ≡ true = ap is_out_of_band (sym h.there) ∙ out in
      let not = out-of-band (Some h.task) before in
      let no : true ≡ false = sym after ∙ not in cc

  heard-not : old.profile.watchdog ≡ 0 → Stays None MakesNone c t old new ⊎ (Spends c t old new ⊎ Overruns c t old new) → ⊥
  heard-not none (inl stays) = stays-not stays
  heard-not none (inr (inl spends)) = spends-not spends
  heard-not none (inr (inr overruns)) = overruns.guarded none

-- ---- a step of no instruction
least-on : (set : List ℕ) (l : ℕ) → least_line set ≡ Some l → has_line set l ≡ true
least-on [] l e = cc
least-on (x ∷ xs) l e = let same : x ≡ l = cc in rw same (first_on l xs)

-- the processor is stopped or has no pipe, and nothing happens, or a line is on its wire
abbrev pub IsIdleStep : ℕ → Board → Type 0
IsIdleStep c b = ((row (Step c) b).0 ≡ b) ⊎ Hears c b.parts

wire-hears : (c t : ℕ) (b : Board) (p : Processor) (pipe : Pipe) (o : Option ℕ) → slice_get b.parts.pipes c ≡ Some pipe → p.current ≡ Some t → least_line pipe.wire ≡ o → actor_now o p ≡ None → Hears c b.parts
wire-hears c t b p pipe None e runs f none = let no : None ≡ Some t = sym none ∙ runs in cc
wire-hears c t b p pipe (Some l) e runs f none = record { pipe = pipe; line = l; there = e; on = least-on pipe.wire l f }

pipe-idles : (c t : ℕ) (b : Board) (p : Processor) (o : Option Pipe) → slice_get b.parts.processors c ≡ Some p → p.stopped ≡ false → p.current ≡ Some t → slice_get b.parts.pipes c ≡ o → actor_on o p ≡ None → IsIdleStep c b
unfolding row step
pipe-idles c t b p None at goes runs e none = inl (rw (at, goes, e) refl)
pipe-idles c t b p (Some pipe) at goes runs e none = inr (wire-hears c t b p pipe (least_line pipe.wire) e runs refl none)

stop-idles : (c t : ℕ) (b : Board) (p : Processor) (stopped : Bool) → slice_get b.parts.processors c ≡ Some p → p.stopped ≡ stopped → p.current ≡ Some t → (if stopped then None else actor_on (slice_get b.parts.pipes c) p) ≡ None → IsIdleStep c b
unfolding row step
stop-idles c t b p true at stops runs none = inl (rw (at, stops) refl)
stop-idles c t b p false at goes runs none = pipe-idles c t b p (slice_get b.parts.pipes c) at goes runs refl none

idles : (c t : ℕ) (b : Board) (o : Option Processor) → slice_get b.parts.processors c ≡ o → current_of o ≡ Some t → actor_among o (slice_get b.parts.pipes c) ≡ None → IsIdleStep c b
idles c t b None at runs none = cc
idles c t b (Some p) at runs none = stop-idles c t b p p.stopped at refl runs none

-- ---- without a watchdog
none-demoted : (t : ℕ) (s after : State) (event : Event) (answer : Answer) → GoodState s → s.board.parts.profile.watchdog ≡ 0 → apply s event ≡ Ok (after, answer) → IsDemotedByLine t s event after → ⊥
none-demoted t s after event answer good none done h =
    let c = h.cpu in
    let is : event ≡ Step c = step-is event c h.steps in
    let done' : apply s (Step c) ≡ Ok (after, answer) = subst (λ (e : Event). apply s e ≡ Ok (after, answer)) is done in
    let changes : StepChanges c s.board after.board = (events_change_only s after (Step c) answer done').board good.good good.devices.few in
    elim (idles c t s.board (slice_get s.board.parts.processors c) refl h.runs (subst (λ (o : Option ℕ). o ≡ None) refl h.does_none)) [
      | inl still ↦
          let same : s.board ≡ after.board = sym still ∙ row-board (Step c) s after answer done' in
          changed-state (slice_get s.board.parts.tasks t) (slice_get after.board.parts.tasks t) h.was_out_of_band h.is_in_band (ap (λ (b : Board). slice_get b.parts.tasks t) same)
      | inr hears ↦ heard-not c t s.board.parts after.board.parts h.was_out_of_band h.is_in_band none ((changes.hears hears).1 t)
    ]

boot-next : (s : State) (event : Event) (r : Result (State × Answer) Refusal) → apply s event ≡ r → (left_by r s).boot ≡ s.boot
boot-next s event (Ok after) e = ap (λ (p : State × Answer). p.0.boot) (accepted s after.0 event after.1 e).1
boot-next s event (Err refusal) e = refl

boot-replay : (events : List Event) (s : State) → (replay s events).boot ≡ s.boot
unfolding replay
boot-replay [] s = refl
boot-replay (event ∷ events) s = boot-replay events (left_by (apply s event) s) ∙ boot-next s event (apply s event) refl

loaded-boot : (image : Contents) (s t : State) (r : Option Refusal) → load_unless r image s ≡ Ok t → t.boot ≡ s.boot
loaded-boot image s t (Some refusal) h = cc
loaded-boot image s t None h = let same : record s { board = load_board (byte_at image) image.entry s.board } ≡ t = cc in ap (λ (x : State). x.boot) (sym same)

begun-boot : (image : Contents) (boot : Boot) (s : State) → Begins image boot s → s.boot ≡ boot
unfolding load
begun-boot image boot s h = loaded-boot image (start program_devices boot) s (load_refusal image (start program_devices boot)) h

module _ (wanted : Wanted) (bounds : EventBounds) (first : State) (paths : List Path) (places : List StatePlace) (good : GoodState first) (high : ℕ) (none : wanted.demotion ≡ true → 0 < high → first.boot.watchdog ≡ 0) where
  at-good : (turns : List CpuTurn) (cpu steps : ℕ) (s : State) → IsAt first turns cpu steps s → GoodState s
  at-good turns cpu steps s at = subst (λ (x : State). GoodState x) (sym at) (GoodState-replay first (events_of_turns turns ++ replicate steps (Step cpu)) good)

  at-unguarded : (turns : List CpuTurn) (cpu steps : ℕ) (s : State) → IsAt first turns cpu steps s → wanted.demotion ≡ true → 0 < high → s.board.parts.profile.watchdog ≡ 0
  at-unguarded turns cpu steps s at sought some =
      let boots : s.boot ≡ first.boot = ap (λ (x : State). x.boot) at ∙ boot-replay (events_of_turns turns ++ replicate steps (Step cpu)) first in
      ap (λ (p : Profile). p.watchdog) (at-good turns cpu steps s at).profile ∙ ap (λ (b : Boot). b.watchdog) boots ∙ none sought some

  stays-harmless : (turns : List CpuTurn) (cpu steps : ℕ) (s : State) (event : Event) → IsAt first turns cpu steps s → StaysKnown bounds (FailsAsWanted wanted) first paths places s event
      → StaysKnown bounds (FailsOrDemotes high wanted) first paths places s event
  stays-harmless turns cpu steps s event at stays = record {
    after = stays.after;
    answer = stays.answer;
    accepted = stays.accepted;
    harmless = λ fails. elim fails [
      | inl seen ↦ stays.harmless seen
      | inr demotes ↦ none-demoted demotes.2 s stays.after event stays.answer (at-good turns cpu steps s at) (at-unguarded turns cpu steps s at demotes.0 demotes.1) stays.accepted demotes.3
    ];
    known = stays.known;
  }

  explored-harmless : (low : ℕ) (place : StatePlace) → IsExploredAt low high bounds (MayCome wanted.lines bounds) (FailsAsWanted wanted) first paths places place
      → IsExploredAt low high bounds (MayCome wanted.lines bounds) (FailsOrDemotes high wanted) first paths places place
  explored-harmless low place all = record {
    turns = all.turns;
    cpu = all.cpu;
    path = all.path;
    done = λ s at.
        let here = all.done s at in
        record {
          forks = here.forks;
          calls = here.calls;
          next = λ may. stays-harmless all.turns all.cpu place.steps s (Step all.cpu) at (here.next may);
          spares = here.spares;
          undebugged = here.undebugged;
        };
  }

  all-harmless : (low n : ℕ) → AreExplored low high bounds (MayCome wanted.lines bounds) (FailsAsWanted wanted) first paths places n → AreExplored low high bounds (MayCome wanted.lines bounds) (FailsOrDemotes high wanted) first paths places n
  all-harmless low n done i place less there = elim (done i place less there) [
    | inl all ↦ inl (explored-harmless low place all)
    | inr passed ↦ inr passed
  ]

  gone-harmless : (n : ℕ) → AreGone bounds (FailsAsWanted wanted) first paths places n → AreGone bounds (FailsOrDemotes high wanted) first paths places n
  gone-harmless n gone j path less there =
      let old = gone j path less there in
      record { root = old.root; last = λ front turn s same at. stays-harmless front turn.cpu turn.steps s (event_of_choice turn.choice) at (old.last front turn s same at) }

pub searches_without_watchdog : SearchesWithoutWatchdog
searches_without_watchdog low high image boot wanted bounds first paths places root begins good none there start' done gone =
    let none' : wanted.demotion ≡ true → 0 < high → first.boot.watchdog ≡ 0 = λ sought some. ap (λ (b : Boot). b.watchdog) (begun-boot image boot first begins) ∙ none sought some in
    searches_are_complete low high image boot wanted bounds first paths places root begins good.good there start'
    (all-harmless wanted bounds first paths places good high none' low (length places) done) (gone-harmless wanted bounds first paths places good high none' (length paths) gone)
