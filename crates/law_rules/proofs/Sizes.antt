-- How many there are of each, how many stamps are given, and when the clock stays.
use Rattle.std.proofs.Common.{◌≡◌, ℕ, ◌+◌, ◌-◌, ◌≤◌, [], ◌∷◌, Bool, true, false, length, length-append, refl, sym, ◌∙◌, arith}
use Rattle.std.specs.Prelude.{nat_le, if◌then◌else◌}
use Rattle.std.proofs.lemmas.List.{length-map}
use Rattle.evm_model.specs.Commands.{tick}
use Rattle.evm_model.specs.Harts.{spawned_hart}
use Rattle.evm_model.specs.Pipes.{raise}
use Rattle.evm_model.specs.State.{Parts, new_task}
use Rattle.evm_model.specs.Timers.{idle_timer, taken}
use Rattle.evm_model.specs.OobCalls.{move_task}
use Rattle.evm_model.specs.Tasks.{restamp, set_state, set_policy, set_slice, spend_slice}
use Rattle.evm_model.specs.Waits.{wake, begin_wait}
use Rattle.evm_model.specs.declared.limits.TheConstants.{SLICE, TASK_LIMIT, TIMER_LIMIT}
use Rattle.evm_model.proofs.Lists.{length-change, length-each_from}
use Rattle.law_rules.proofs.Walk.{Actor, AreFew, Does, hart, task, stamps, turns, awaits_event, spends, migrates, overruns, watches, wakes, requeues, sets_timer, takes_expiries, expires, marks, picks, moves, tells, clock, schedules, adds, adds_timer, Walk, start, next}

-- what holds after a tick of a slice and after its last one
pub of_spend : (P : Parts → Type 0) (t slice : ℕ) (k : Parts) → P (restamp t (set_slice t SLICE k)) → P (set_slice t (slice - 1) k) → P (spend_slice t slice k)
unfolding spend_slice
of_spend P t slice k whole less = elim (nat_le slice 1) as (λ (b : Bool). P (if b then restamp t (set_slice t SLICE k) else set_slice t (slice - 1) k)) [ true ↦ whole | false ↦ less ]

-- as many pipes, processors and watches, no fewer harts and tasks, and no more tasks and timers than there may be
pub record Sizes (old new : Parts) : Type 0 where
  pub pipes : length new.pipes ≡ length old.pipes
  pub processors : length new.processors ≡ length old.processors
  pub watches : length new.watches ≡ length old.watches
  pub harts : length old.harts ≤ length new.harts
  pub tasks : length old.tasks ≤ length new.tasks
  pub few : length old.tasks ≤ TASK_LIMIT → length new.tasks ≤ TASK_LIMIT
  pub timers : length old.timers ≤ TIMER_LIMIT → length new.timers ≤ TIMER_LIMIT

sized : (x y : Parts) → length y.pipes ≡ length x.pipes → length y.processors ≡ length x.processors → length y.watches ≡ length x.watches → length y.harts ≡ length x.harts → length y.tasks ≡ length x.tasks → length y.timers ≡ length x.timers → Sizes x y
sized x y p q w h t m = record { pipes = p; processors = q; watches = w; harts = omega (arith, h); tasks = omega (arith, t); few = λ g. omega (arith, t, g); timers = λ g. omega (arith, m, g) }

sizes_then : (x y z : Parts) → Sizes x y → Sizes y z → Sizes x z
sizes_then x y z p q = record {
  pipes = q.pipes ∙ p.pipes;
  processors = q.processors ∙ p.processors;
  watches = q.watches ∙ p.watches;
  harts = omega (arith, p.harts, q.harts);
  tasks = omega (arith, p.tasks, q.tasks);
  few = λ g. q.few (p.few g);
  timers = λ g. q.timers (p.timers g);
}

module _ (a : Actor) (old : Parts) where
  does_sizes : (i j : ℕ) (k x : Parts) → Does a old i j k x → Sizes k x
  unfolding restamp set_state set_policy set_slice move_task wake begin_wait tick
  does_sizes _ _ _ _ (hart t r value f k own x there) = sized k _ refl refl refl (length-change f k.harts t) refl refl
  does_sizes _ _ _ _ (task t f k own x none there) = sized k _ refl refl refl refl (length-change f k.tasks t) refl
  does_sizes _ _ _ _ (stamps t k own there) = sized k _ refl refl refl refl (length-change _ k.tasks t) refl
  does_sizes _ _ _ _ (turns t f k own x none there) = sized k _ refl refl refl refl (length-change _ _ t ∙ length-change f k.tasks t) refl
  does_sizes _ _ _ _ (spends t x k runs there on) =
      of_spend (Sizes k) t x.slice k (sized k _ refl refl refl refl (length-change _ _ t ∙ length-change _ k.tasks t) refl) (sized k _ refl refl refl refl (length-change _ k.tasks t) refl)
  does_sizes _ _ _ _ (migrates t d x k own call is there on fresh) = sized k _ refl refl refl refl (length-change _ _ t ∙ length-change _ k.tasks t) refl
  does_sizes _ _ _ _ (overruns t k its on) = sized k _ refl refl refl refl (length-change _ _ t ∙ length-change _ k.tasks t) refl
  does_sizes _ _ _ _ (watches f k) = sized k _ refl refl (length-change f k.watches a.cpu) refl refl refl
  does_sizes _ _ _ _ (wakes u value x wait k there on why) = sized k _ refl refl refl (length-change _ k.harts u) (length-change _ _ u ∙ length-change _ k.tasks u) refl
  does_sizes _ _ _ _ (awaits_event t e m deadline k own there its small) = sized k _ refl refl refl refl (length-change _ _ t ∙ length-change _ k.tasks t) refl
  does_sizes _ _ _ _ (requeues u v e m answer x k there on its owned why) = sized k _ refl refl refl refl (length-change _ _ u ∙ length-change _ k.tasks u) refl
  does_sizes _ _ _ _ (sets_timer n first period x k call is small short fresh) = sized k _ refl refl refl refl refl (length-change _ k.timers n)
  does_sizes _ _ _ _ (takes_expiries n x k call is fresh) = sized k _ refl refl refl refl refl (length-change taken k.timers n)
  does_sizes _ _ _ _ (expires n timer woke k there due) = sized k _ refl refl refl refl refl (length-change _ k.timers n)
  does_sizes _ _ _ _ (marks f k x) = sized k _ refl (length-change f k.processors a.cpu) refl refl refl refl
  does_sizes _ _ _ _ (picks f k x) = sized k _ refl (length-change f k.processors a.cpu) refl refl refl refl
  does_sizes _ _ _ _ (moves i f k x) = sized k _ (length-change f k.pipes a.cpu) refl refl refl refl refl
  does_sizes _ _ _ _ (tells l f k h x) = sized k _ (length-each_from 0 f k.pipes) refl refl refl refl refl
  does_sizes _ _ _ _ (clock k x) = sized k _ (length-map k.pipes (raise 0)) refl refl refl refl refl
  does_sizes _ _ _ _ (schedules u priority class k fresh x) = sized k _ refl refl refl refl (length-change _ k.tasks u) refl
  does_sizes _ _ _ _ (adds t entry value cpu k own fresh room) = record {
    pipes = refl;
    processors = refl;
    watches = refl;
    harts = omega (arith, length-append k.harts (spawned_hart entry value ∷ []));
    tasks = omega (arith, length-append k.tasks (new_task cpu k.stamps ∷ []));
    few = λ g. omega (arith, room, length-append k.tasks (new_task cpu k.stamps ∷ []));
    timers = λ g. g;
  }
  does_sizes _ _ _ _ (adds_timer t k own fresh room) = record {
    pipes = refl;
    processors = refl;
    watches = refl;
    harts = omega arith;
    tasks = omega arith;
    few = λ g. g;
    timers = λ g. omega (arith, room, length-append k.timers (idle_timer ∷ []));
  }
  does_sizes _ _ k _ _ = sized k _ refl refl refl refl refl refl

  pub walk_sizes : (n s : ℕ) (k : Parts) → Walk a old n s k → Sizes old k
  walk_sizes _ _ _ start = sized old old refl refl refl refl refl refl
  walk_sizes _ _ _ (next m n s u i j k x h g d w) = sizes_then old k x (walk_sizes m s k w) (does_sizes i j k x d)

-- ---- stamps
-- so many are given
pub record Gives (s : ℕ) (old new : Parts) : Type 0 where
  pub least : old.stamps ≤ new.stamps
  pub most : new.stamps ≤ old.stamps + s

gives : (s : ℕ) (x y : Parts) → x.stamps ≤ y.stamps → y.stamps ≤ x.stamps + s → Gives s x y
gives s x y l m = record { least = l; most = m }

module _ (a : Actor) (old : Parts) where
  does_give : (i j : ℕ) (k x : Parts) → Does a old i j k x → Gives j k x
  unfolding restamp set_state set_policy set_slice move_task wake begin_wait tick
  does_give _ _ _ _ (spends t x k runs there on) = of_spend (Gives 1 k) t x.slice k (gives 1 k _ (omega arith) (omega arith)) (gives 1 k _ (omega arith) (omega arith))
  does_give _ j k _ _ = gives j k _ (omega arith) (omega arith)

  pub walk_least : (n s : ℕ) (k : Parts) → Walk a old n s k → old.stamps ≤ k.stamps
  walk_least _ _ _ start = omega arith
  walk_least _ _ _ (next m n s u i j k x h g d w) = omega (arith, walk_least m s k w, (does_give i j k x d).least)

  pub walk_most : (n s : ℕ) (k : Parts) → AreFew old → Walk a old n s k → k.stamps ≤ old.stamps + s
  walk_most _ _ _ few start = omega arith
  walk_most _ _ _ few (next m n s u i j k x h g d w) = omega (arith, walk_most m s k few w, (does_give i j k x d).most, g few)

-- ---- the profile and the clock
module _ (a : Actor) (old : Parts) where
  does_profile : (i j : ℕ) (k x : Parts) → Does a old i j k x → x.profile ≡ k.profile
  unfolding restamp set_state set_policy set_slice move_task wake begin_wait tick
  does_profile _ _ _ _ (spends t x k runs there on) = of_spend (λ y. y.profile ≡ k.profile) t x.slice k refl refl
  does_profile _ _ _ _ _ = refl

  pub walk_profile : (n s : ℕ) (k : Parts) → Walk a old n s k → k.profile ≡ old.profile
  walk_profile _ _ _ start = refl
  walk_profile _ _ _ (next m n s u i j k x h g d w) = does_profile i j k x d ∙ walk_profile m s k w

  module _ (d : ℕ) where
    does_ticks : (i j : ℕ) (k x : Parts) → a.may d 0 ≡ false → Does a old i j k x → x.ticks ≡ k.ticks
    unfolding restamp set_state set_policy set_slice move_task wake begin_wait tick
    does_ticks _ _ _ _ q (spends t x k runs there on) = of_spend (λ y. y.ticks ≡ k.ticks) t x.slice k refl refl
    does_ticks _ _ _ _ q (clock k x) = let no : true ≡ false = sym (x d) ∙ q in cc
    does_ticks _ _ _ _ q _ = refl

    -- where it may not raise line 0 somewhere the clock stays
    pub walk_ticks_at : (n s : ℕ) (k : Parts) → a.may d 0 ≡ false → Walk a old n s k → k.ticks ≡ old.ticks
    walk_ticks_at _ _ _ q start = refl
    walk_ticks_at _ _ _ q (next m n s u i j k x h g e w) = does_ticks i j k x q e ∙ walk_ticks_at m s k q w

  pub walk_ticks : (n s : ℕ) (k : Parts) → a.may 0 0 ≡ false → Walk a old n s k → k.ticks ≡ old.ticks
  walk_ticks n s k q w = walk_ticks_at 0 n s k q w
