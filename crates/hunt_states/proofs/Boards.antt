-- Boards of which all is the same.
use Rattle.std.proofs.Common.{◌≡◌, ℕ, ◌<◌, ◌≤◌, Some, length, refl, sym, ap, ◌∙◌, arith}
use Rattle.std.specs.Prelude.{slice_get}
use Rattle.evm_lines.specs.declared.TheConstants.{LINES}
use Rattle.evm_model.specs.Good.{GoodState}
use Rattle.evm_model.specs.Pipes.{Pipe}
use Rattle.evm_model.specs.State.{Board, Notices, Parts, State, profile_of}
use Rattle.hunt_states.specs.Same.{AreSameAt, AreSameBeside, AreSameMemories}
use Rattle.hunt_states.proofs.Equal.{kinds_of, same-actions, same-by-get, same-devices, same-events, same-pipes, same-watches}

-- there are counts for each line
counts-of : (s : State) → GoodState s → (c : ℕ) (pipe : Pipe) → slice_get s.board.parts.pipes c ≡ Some pipe → length pipe.counts ≤ LINES
counts-of s rules c pipe there = let count = (rules.good.pipes c pipe there).counts in omega arith

pipes-of : (a b : State) → GoodState a → GoodState b → ((i : ℕ) → i < 64 → AreSameAt i a.board.parts b.board.parts) → a.board.parts.pipes ≡ b.board.parts.pipes
pipes-of a b ga gb h =
    let fa = ga.good.few_processors in
    let fb = gb.good.few_processors in
    let na = ga.good.pipes_count in
    let nb = gb.good.pipes_count in
    same-by-get 64 a.board.parts.pipes b.board.parts.pipes (omega arith) (omega arith)
    (λ i less. same-pipes (slice_get a.board.parts.pipes i) (slice_get b.board.parts.pipes i) LINES (counts-of a ga i) (counts-of b gb i) (h i less).lines.stages (h i less).lines.counts)

notices-of : (a b : State) → GoodState a → GoodState b → ((i : ℕ) → i < 64 → AreSameAt i a.board.parts b.board.parts) → AreSameBeside a.board.parts b.board.parts
    → a.board.parts.notices ≡ b.board.parts.notices
notices-of a b ga gb h beside =
    let fa = ga.notices.kept in
    let fb = gb.notices.kept in
    let kept : a.board.parts.notices.kept ≡ b.board.parts.notices.kept = same-by-get 64 a.board.parts.notices.kept b.board.parts.notices.kept (omega arith) (omega arith) (λ i less. (h i less).notices) in
    let total : a.board.parts.notices.total ≡ b.board.parts.notices.total = beside.total in
    let notices : (x y : Notices) → x.kept ≡ y.kept → x.total ≡ y.total → x ≡ y = λ x y e f. rw e (rw f refl) in
    notices a.board.parts.notices b.board.parts.notices kept total

-- the fields of two boards
record AreSameFields (a b : Parts) : Type 0 where
  pub profile : a.profile ≡ b.profile
  pub harts : a.harts ≡ b.harts
  pub tasks : a.tasks ≡ b.tasks
  pub processors : a.processors ≡ b.processors
  pub pipes : a.pipes ≡ b.pipes
  pub watches : a.watches ≡ b.watches
  pub mutexes : a.mutexes ≡ b.mutexes
  pub semaphores : a.semaphores ≡ b.semaphores
  pub events : a.events ≡ b.events
  pub flags : a.flags ≡ b.flags
  pub timers : a.timers ≡ b.timers
  pub actions : a.actions ≡ b.actions
  pub notices : a.notices ≡ b.notices

same-parts : (a b : Parts) → AreSameFields a b → AreSameBeside a b → a ≡ b
same-parts a b f s =
    rw f.profile (rw s.ticks (rw f.harts (rw f.tasks (rw f.processors (rw f.pipes (rw f.watches (rw s.stamps (rw f.mutexes (rw f.semaphores (rw f.events (rw f.flags (rw f.timers (rw f.actions (rw s.console (rw f.notices refl)))))))))))))))

fields-of : (a b : State) → GoodState a → GoodState b → a.boot ≡ b.boot → ((i : ℕ) → i < 64 → AreSameAt i a.board.parts b.board.parts) → AreSameBeside a.board.parts b.board.parts
    → AreSameFields a.board.parts b.board.parts
fields-of a b ga gb boot h beside =
    let ta = ga.good.few_tasks in
    let tb = gb.good.few_tasks in
    let ha = ga.good.harts_count in
    let hb = gb.good.harts_count in
    let pa = ga.good.few_processors in
    let pb = gb.good.few_processors in
    let ma = ga.good.locks.few in
    let mb = gb.good.locks.few in
    let sa = ga.semaphores.few in
    let sb = gb.semaphores.few in
    let fa = ga.flags.few in
    let fb = gb.flags.few in
    let ia = ga.timers.few in
    let ib = gb.timers.few in
    let ea = ga.few_events in
    let ac = ga.actions.count in
    let bc = gb.actions.count in
    let events = beside.events in
    let wa = ga.good.watches_count in
    let wb = gb.good.watches_count in
    let processors : a.board.parts.processors ≡ b.board.parts.processors =
    same-by-get 64 a.board.parts.processors b.board.parts.processors (omega arith) (omega arith) (λ i less. (h i less).runners.processors) in
    let watched : length a.board.parts.watches ≡ length b.board.parts.watches = wa ∙ (ap length processors ∙ sym wb) in
    record {
      profile = ga.profile ∙ (ap profile_of boot ∙ sym gb.profile);
      harts = same-by-get 64 a.board.parts.harts b.board.parts.harts (omega arith) (omega arith) (λ i less. (h i less).runners.harts);
      tasks = same-by-get 64 a.board.parts.tasks b.board.parts.tasks (omega arith) (omega arith) (λ i less. (h i less).runners.tasks);
      processors = processors;
      pipes = pipes-of a b ga gb h;
      watches = same-watches a.board.parts.watches b.board.parts.watches 64 (omega arith) watched (λ i less. (h i less).runners.watches);
      mutexes = same-by-get 64 a.board.parts.mutexes b.board.parts.mutexes (omega arith) (omega arith) (λ i less. (h i less).objects.mutexes);
      semaphores = same-by-get 64 a.board.parts.semaphores b.board.parts.semaphores (omega arith) (omega arith) (λ i less. (h i less).objects.semaphores);
      events = same-events a.board.parts.events b.board.parts.events 64 (omega arith) events (λ i less. (h i less).objects.events);
      flags = same-by-get 64 a.board.parts.flags b.board.parts.flags (omega arith) (omega arith) (λ i less. (h i less).objects.flags);
      timers = same-by-get 64 a.board.parts.timers b.board.parts.timers (omega arith) (omega arith) (λ i less. (h i less).objects.timers);
      actions = same-actions a.board.parts.actions b.board.parts.actions 64 (omega arith) (omega arith) (λ i less. (h i less).lines.actions);
      notices = notices-of a b ga gb h beside;
    }

pub same-boards : (a b : State) → GoodState a → GoodState b → a.boot ≡ b.boot → length a.board.breakpoints ≡ 0 → length b.board.breakpoints ≡ 0
    → ((i : ℕ) → i < 64 → AreSameAt i a.board.parts b.board.parts) → AreSameBeside a.board.parts b.board.parts → AreSameMemories a.board.memory b.board.memory
    → kinds_of a.board.memory.devices ≡ kinds_of b.board.memory.devices → a.board ≡ b.board
same-boards a b ga gb boot none nothing h beside memory kinds =
    let parts : a.board.parts ≡ b.board.parts = same-parts a.board.parts b.board.parts (fields-of a b ga gb boot h beside) beside in
    let ram : a.board.memory.ram ≡ b.board.memory.ram = memory.ram in
    let devices : a.board.memory.devices ≡ b.board.memory.devices = same-devices a.board.memory.devices b.board.memory.devices kinds memory.words in
    let breakpoints : a.board.breakpoints ≡ b.board.breakpoints = same-by-get 0 a.board.breakpoints b.board.breakpoints (omega arith) (omega arith) (λ i less. absurd (omega arith)) in
    let boards : (x y : Board) → x.memory.ram ≡ y.memory.ram → x.memory.devices ≡ y.memory.devices → x.breakpoints ≡ y.breakpoints → x.parts ≡ y.parts → x ≡ y = λ x y e f g k. rw e (rw f (rw g (rw k refl))) in
    boards a.board b.board ram devices breakpoints parts
