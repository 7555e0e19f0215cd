-- Boards of which all is alike.
use Rattle.std.proofs.Common.{◌≡◌, ℕ, ◌<◌, ◌≤◌, List, Option, Some, None, length, refl, sym, ap, ◌∙◌, arith}
use Rattle.std.specs.Prelude.{map, option_map, slice_get}
use Rattle.std.proofs.lemmas.List.{length-map}
use Rattle.std.proofs.lemmas.Option.{slice_get-map}
use Rattle.evm_core.specs.Views.{stages_in}
use Rattle.evm_core.specs.declared.stages.Stages.{Stages}
use Rattle.evm_model.proofs.Lists.{slice_get-within}
use Rattle.evm_model.specs.Good.{Good, GoodState}
use Rattle.evm_model.specs.Pipes.{Pipe}
use Rattle.evm_model.specs.State.{Board, Parts, State, profile_of}
use Rattle.evm_model.specs.declared.boot.Boot.{Boot}
use Rattle.hunt_states.specs.Same.{AreSameMemories}
use Rattle.hunt_states.specs.Places.{AreAlikeAt, AreAlikeBeside, AreAlikeBoots}
use Rattle.hunt_states.proofs.Equal.{kinds_of, same-actions, same-by-get, same-devices, same-events, same-watches}
use Rattle.law_runs.specs.Alike.{AlikeBoards, SameOrder, StampsBelow, erased, uncounted, unstamped}
use Rattle.law_runs.specs.Timeless.{AlikeTimeless, timeless, undated}

-- ---- lists whose elements have the same images
images-by-get : {X : Type 0} (f : X → X) (n : ℕ) (xs ys : List X) → length xs ≤ n → length ys ≤ n → ((i : ℕ) → i < n → option_map f (slice_get xs i) ≡ option_map f (slice_get ys i)) → map f xs ≡ map f ys
images-by-get f n xs ys a b h =
    same-by-get n (map f xs) (map f ys) (omega (arith, length-map xs f)) (omega (arith, length-map ys f))
    (λ i less. slice_get-map f xs i ∙ h i less ∙ sym (slice_get-map f ys i))

same-uncounted : (p q : Pipe) → stages_in (Some p) ≡ stages_in (Some q) → uncounted p ≡ uncounted q
same-uncounted p q stages =
    let s : Stages = record { oob = p.oob; in_band = p.in_band; wire = p.wire } in
    let t : Stages = record { oob = q.oob; in_band = q.in_band; wire = q.wire } in
    let both : Some s ≡ Some t = stages in
    let one : s ≡ t = cc in
    let oob : p.oob ≡ q.oob = ap (λ (u : Stages). u.oob) one in
    let in_band : p.in_band ≡ q.in_band = ap (λ (u : Stages). u.in_band) one in
    let wire : p.wire ≡ q.wire = ap (λ (u : Stages). u.wire) one in
    rw oob (rw in_band (rw wire refl))

pipe-images : (p q : Option Pipe) → stages_in p ≡ stages_in q → option_map uncounted p ≡ option_map uncounted q
pipe-images None None stages = refl
pipe-images (Some p) None stages = cc
pipe-images None (Some q) stages = cc
pipe-images (Some p) (Some q) stages = ap (λ (x : Pipe). Some x) (same-uncounted p q stages)

-- ---- the fields of two boards
record AreAlikeFields (a b : Parts) : Type 0 where
  pub profile : a.profile ≡ b.profile
  pub harts : a.harts ≡ b.harts
  pub tasks : map unstamped a.tasks ≡ map unstamped b.tasks
  pub processors : a.processors ≡ b.processors
  pub pipes : map uncounted a.pipes ≡ map uncounted b.pipes
  pub watches : a.watches ≡ b.watches
  pub mutexes : a.mutexes ≡ b.mutexes
  pub semaphores : a.semaphores ≡ b.semaphores
  pub events : a.events ≡ b.events
  pub flags : a.flags ≡ b.flags
  pub timers : a.timers ≡ b.timers
  pub actions : a.actions ≡ b.actions
  pub notices : map undated a.notices.kept ≡ map undated b.notices.kept

same-erased : (a b : Parts) → AreAlikeFields a b → AreAlikeBeside a b → erased (timeless a) ≡ erased (timeless b)
same-erased a b f s =
    rw f.profile (rw f.harts (rw f.tasks (rw f.processors (rw f.pipes (rw f.watches (rw f.mutexes (rw f.semaphores (rw f.events (rw f.flags (rw f.timers (rw f.actions (rw f.notices (rw s.total refl)))))))))))))

profiles-of : (a b : Boot) → AreAlikeBoots a b → profile_of a ≡ profile_of b
profiles-of a b h = rw h.profile (rw h.watchdog (rw h.ram refl))

module _ (a b : State) (ga : GoodState a) (gb : GoodState b) (h : (i : ℕ) → i < 64 → AreAlikeAt i a.board.parts b.board.parts) (beside : AreAlikeBeside a.board.parts b.board.parts) where
  notices-of : map undated a.board.parts.notices.kept ≡ map undated b.board.parts.notices.kept
  notices-of =
      let fa = ga.notices.kept in
      let fb = gb.notices.kept in
      images-by-get undated 64 a.board.parts.notices.kept b.board.parts.notices.kept (omega arith) (omega arith) (λ i less. (h i less).notices)

  pipes-of : map uncounted a.board.parts.pipes ≡ map uncounted b.board.parts.pipes
  pipes-of =
      let fa = ga.good.few_processors in
      let fb = gb.good.few_processors in
      let na = ga.good.pipes_count in
      let nb = gb.good.pipes_count in
      images-by-get uncounted 64 a.board.parts.pipes b.board.parts.pipes (omega arith) (omega arith)
      (λ i less. pipe-images (slice_get a.board.parts.pipes i) (slice_get b.board.parts.pipes i) (h i less).lines.stages)

  fields-of : AreAlikeBoots a.boot b.boot → AreAlikeFields a.board.parts b.board.parts
  fields-of boots =
      let ta = ga.good.few_tasks in
      let tb = gb.good.few_tasks in
      let ha = ga.good.harts_count in
      let hb = gb.good.harts_count in
      let pa = ga.good.few_processors in
      let pb = gb.good.few_processors in
      let ma = ga.good.locks.few in
      let mb = gb.good.locks.few in
      let sa = ga.semaphores.few in
      let sb = gb.semaphores.few in
      let fa = ga.flags.few in
      let fb = gb.flags.few in
      let ia = ga.timers.few in
      let ib = gb.timers.few in
      let ea = ga.few_events in
      let ac = ga.actions.count in
      let bc = gb.actions.count in
      let events = beside.events in
      let wa = ga.good.watches_count in
      let wb = gb.good.watches_count in
      let processors : a.board.parts.processors ≡ b.board.parts.processors =
      same-by-get 64 a.board.parts.processors b.board.parts.processors (omega arith) (omega arith) (λ i less. (h i less).runners.processors) in
      let watched : length a.board.parts.watches ≡ length b.board.parts.watches = wa ∙ (ap length processors ∙ sym wb) in
      record {
        profile = ga.profile ∙ (profiles-of a.boot b.boot boots ∙ sym gb.profile);
        harts = same-by-get 64 a.board.parts.harts b.board.parts.harts (omega arith) (omega arith) (λ i less. (h i less).runners.harts);
        tasks = images-by-get unstamped 64 a.board.parts.tasks b.board.parts.tasks (omega arith) (omega arith) (λ i less. (h i less).runners.tasks);
        processors = processors;
        pipes = pipes-of;
        watches = same-watches a.board.parts.watches b.board.parts.watches 64 (omega arith) watched (λ i less. (h i less).runners.watches);
        mutexes = same-by-get 64 a.board.parts.mutexes b.board.parts.mutexes (omega arith) (omega arith) (λ i less. (h i less).objects.mutexes);
        semaphores = same-by-get 64 a.board.parts.semaphores b.board.parts.semaphores (omega arith) (omega arith) (λ i less. (h i less).objects.semaphores);
        events = same-events a.board.parts.events b.board.parts.events 64 (omega arith) events (λ i less. (h i less).objects.events);
        flags = same-by-get 64 a.board.parts.flags b.board.parts.flags (omega arith) (omega arith) (λ i less. (h i less).objects.flags);
        timers = same-by-get 64 a.board.parts.timers b.board.parts.timers (omega arith) (omega arith) (λ i less. (h i less).objects.timers);
        actions = same-actions a.board.parts.actions b.board.parts.actions 64 (omega arith) (omega arith) (λ i less. (h i less).lines.actions);
        notices = notices-of;
      }

-- ---- stamps
stamps-below : (p : Parts) → Good p → StampsBelow p
stamps-below p g t less =
    let there = slice_get-within p.tasks t less in
    rw there.1 (g.stamps_below t there.0 there.1)

pub alike-timeless : (a b : State) → GoodState a → GoodState b → AreAlikeBoots a.boot b.boot → length a.board.breakpoints ≡ 0 → length b.board.breakpoints ≡ 0
    → ((i : ℕ) → i < 64 → AreAlikeAt i a.board.parts b.board.parts) → AreAlikeBeside a.board.parts b.board.parts → SameOrder a.board.parts.tasks b.board.parts.tasks
    → AreSameMemories a.board.memory b.board.memory → kinds_of a.board.memory.devices ≡ kinds_of b.board.memory.devices → AlikeTimeless a.board b.board
alike-timeless a b ga gb boots none nothing h beside order memory kinds =
    let devices : a.board.memory.devices ≡ b.board.memory.devices = same-devices a.board.memory.devices b.board.memory.devices kinds memory.words in
    record {
      memory = rw memory.ram (rw devices refl);
      breakpoints = same-by-get 0 a.board.breakpoints b.board.breakpoints (omega arith) (omega arith) (λ i less. absurd (omega arith));
      parts = record {
        same = same-erased a.board.parts b.board.parts (fields-of a b ga gb h beside boots) beside;
        order = order;
        below = stamps-below a.board.parts ga.good;
        other_below = stamps-below b.board.parts gb.good;
      };
    }

-- ---- boards that are alike without their clocks, and whose clocks are the same
-- parts that get the clock of others
abbrev with_clock : Parts → Parts → Parts
with_clock clock p = record p { ticks = clock.ticks; notices = clock.notices }

pub alike-clocks : (a b : Board) → AlikeTimeless a b → a.parts.ticks ≡ b.parts.ticks → a.parts.notices.kept ≡ b.parts.notices.kept → AlikeBoards a b
alike-clocks a b s ticks kept =
    let total = ap (λ (p : Parts). p.notices.total) s.parts.same in
    let clock : with_clock a.parts (erased b.parts) ≡ erased b.parts = rw ticks (rw kept (rw total refl)) in
    record {
      memory = s.memory;
      breakpoints = s.breakpoints;
      parts = record {
        same = ap (with_clock a.parts) s.parts.same ∙ clock;
        order = s.parts.order;
        below = s.parts.below;
        other_below = s.parts.other_below;
      };
    }
