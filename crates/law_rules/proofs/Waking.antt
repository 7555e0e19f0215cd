-- What a change of one task leaves of the others, and what waking tasks leaves of their processor.
use Rattle.std.proofs.Common.{◌≡◌, ℕ, zero, suc, ◌<◌, List, [], ◌∷◌, ◌++◌, Bool, true, false, not, Option, Some, None, length, refl, ap, sym, ◌∙◌, inl, inr}
use Rattle.std.specs.Prelude.{slice_get, option_map, ◌==◌, ◌&&◌, if◌then◌else◌}
use Rattle.std.proofs.lemmas.Bool.{cases_eq}
use Rattle.evm_model.proofs.Lists.{change-here, change-elsewhere, slice_get-below, slice_get-before}
use Rattle.evm_model.specs.Good.{IsOneOf, IsOwn, event_of, is_ready}
use Rattle.evm_model.specs.Harts.{A0, set_register}
use Rattle.evm_model.specs.Lists.{change}
use Rattle.evm_model.specs.Mutexes.{lock_of, owns_any}
use Rattle.evm_model.specs.Pipes.{Pipe, play}
use Rattle.evm_model.specs.Ranks.{best, rank, stamp, may_run_oob, runs_oob_task, is_oob_ready, is_in_ready}
use Rattle.evm_model.specs.Settle.{is_oob, play_in_band, play_in_band_lines}
use Rattle.evm_model.specs.State.{Parts, on_hart, on_task, on_pipe}
use Rattle.evm_model.specs.Tasks.{restamp, set_state, is_weak}
use Rattle.evm_model.specs.Waits.{is_wait_for, stage_of_wait, ready_on, woken_state, woken, wake, awaits_line, wake_below}
use Rattle.evm_model.specs.declared.stage.Stage.{Stage}
use Rattle.evm_model.specs.declared.stage.Stage.TheVariants.{OutOfBand, InBand}
use Rattle.evm_model.specs.declared.mutex.Mutex.{Mutex}
use Rattle.evm_model.specs.declared.task.Task.{Task}
use Rattle.evm_model.specs.declared.task.TaskState.{TaskState}
use Rattle.evm_model.specs.declared.task.TaskState.TheVariants.{InReady, Waits}
use Rattle.evm_model.specs.declared.task.Wait.TheVariants.{Line}
use Rattle.law_rules.proofs.Firsts.{IsOobOwn, both, eqb-is, oob-ready, in_band-ready, first-member, first-none}
use Rattle.law_rules.proofs.Ranking.{AreRanked, ranked-none, ranked-then, ranked-task}
use Rattle.law_rules.proofs.Shapes.{IsShaped, shaped-plain, shaped-pipe, shaped-hart, shaped-restamp}
use Rattle.law_rules.proofs.Waited.{deadlines-change}

-- ---- the tasks of a processor
-- where and how a task is: its processor, and its state if it was ready
pub record IsAlike (u : ℕ) (task : Task) (new : List Task) : Type 0 where
  pub now : Task
  pub there : slice_get new u ≡ Some now
  pub cpu : now.cpu ≡ task.cpu
  pub state : is_ready task.state ≡ true → now.state ≡ task.state

-- each task of processor d is there as it was, and such as were ready are in the same state
pub record AreAlike (d : ℕ) (tasks new : List Task) : Type 0 where
  pub each : (u : ℕ) (task : Task) → slice_get tasks u ≡ Some task → task.cpu ≡ d → IsAlike u task new

alike-is : (u : ℕ) (task : Task) (new : List Task) → slice_get new u ≡ Some task → IsAlike u task new
alike-is u task new e = record { now = task; there = e; cpu = refl; state = λ r. refl }

pub alike-none : (d : ℕ) (tasks : List Task) → AreAlike d tasks tasks
alike-none d tasks = record { each = λ u task e h. alike-is u task tasks e }

pub alike-then : (d : ℕ) (x y z : List Task) → AreAlike d x y → AreAlike d y z → AreAlike d x z
alike-then d x y z p q = record {
  each = λ u task e h.
      let a = p.each u task e h in
      let b = q.each u a.now a.there (a.cpu ∙ h) in
      record { now = b.now; there = b.there; cpu = b.cpu ∙ a.cpu; state = λ r. b.state (ap is_ready (a.state r) ∙ r) ∙ a.state r };
}

-- one that is ready in some way stays so
alike-one : (such : TaskState → Bool) (d u : ℕ) (tasks new : List Task) → ((s : TaskState) → such s ≡ true → is_ready s ≡ true) → AreAlike d tasks new → IsOneOf such d u tasks → IsOneOf such d u new
alike-one such d u tasks new ready s o =
    let a = s.each u o.task o.there o.at_home in
    record { task = a.now; there = a.there; at_home = a.cpu ∙ o.at_home; ready = ap such (a.state (ready o.task.state o.ready)) ∙ o.ready }

pub alike-own : (d u : ℕ) (tasks new : List Task) → AreAlike d tasks new → IsOwn d u tasks → IsOwn d u new
alike-own d u tasks new s o = alike-one is_ready d u tasks new (λ x e. e) s o

pub alike-oob_own : (d u : ℕ) (tasks new : List Task) → AreAlike d tasks new → IsOobOwn d u tasks → IsOobOwn d u new
alike-oob_own d u tasks new s o = alike-one is_oob_ready d u tasks new oob-ready s o

pub alike-in_band : (d u : ℕ) (tasks new : List Task) → AreAlike d tasks new → IsOneOf is_in_ready d u tasks → IsOneOf is_in_ready d u new
alike-in_band d u tasks new s o = alike-one is_in_ready d u tasks new in_band-ready s o

pub alike-oob : (d : ℕ) (now : Option ℕ) (tasks new : List Task) → AreAlike d tasks new → ((u : ℕ) → now ≡ Some u → IsOwn d u tasks) → is_oob now new ≡ is_oob now tasks
alike-oob d None tasks new s h = refl
alike-oob d (Some u) tasks new s h =
    let o = h u refl in
    let a = s.each u o.task o.there o.at_home in
    rw (o.there, a.there) (ap is_oob_ready (a.state o.ready))

some-is : (x y : Task) → Some x ≡ Some y → x ≡ y
some-is x y e = cc

-- a task of another processor changes
pub alike-other : (c d t : ℕ) (f : Task → Task) (tasks : List Task) → (d ≡ c → ⊥) → ((task : Task) → slice_get tasks t ≡ Some task → task.cpu ≡ c) → AreAlike d tasks (change f tasks t)
alike-other c d t f tasks n home = record {
  each = λ u task e h.
      let other : u ≡ t → ⊥ = λ same. n (sym h ∙ home task (ap (slice_get tasks) (sym same) ∙ e)) in
      alike-is u task (change f tasks t) (change-elsewhere f tasks t u other ∙ e);
}

-- any task changes, but not where and how it is
pub alike-change : (d t : ℕ) (f : Task → Task) (tasks : List Task) → ((task : Task) → (f task).cpu ≡ task.cpu) → ((task : Task) → (f task).state ≡ task.state) → AreAlike d tasks (change f tasks t)
alike-change d t f tasks cpu state = record {
  each = λ u task e h. elim (cases_eq u t) [
    | inl same ↦ record {
      now = f task;
      there = rw same (change-here f tasks t) ∙ ap (option_map f) (ap (slice_get tasks) (sym same) ∙ e);
      cpu = cpu task;
      state = λ r. state task;
    }
    | inr other ↦ alike-is u task (change f tasks t) (change-elsewhere f tasks t u other ∙ e)
  ];
}

-- one that wasn't ready changes in any way, on its processor
pub alike-idle : (d t : ℕ) (f : Task → Task) (tasks : List Task) → ((task : Task) → (f task).cpu ≡ task.cpu) → ((task : Task) → slice_get tasks t ≡ Some task → is_ready task.state ≡ false) → AreAlike d tasks (change f tasks t)
alike-idle d t f tasks cpu idle = record {
  each = λ u task e h. elim (cases_eq u t) [
    | inl same ↦
        let at : slice_get tasks t ≡ Some task = ap (slice_get tasks) (sym same) ∙ e in
        record {
          now = f task;
          there = rw same (change-here f tasks t) ∙ ap (option_map f) at;
          cpu = cpu task;
          state = λ r. let no : true ≡ false = sym r ∙ idle task at in cc;
        }
    | inr other ↦ alike-is u task (change f tasks t) (change-elsewhere f tasks t u other ∙ e)
  ];
}

pub alike-push : (d : ℕ) (task : Task) (tasks : List Task) → AreAlike d tasks (tasks ++ task ∷ [])
alike-push d task tasks = record { each = λ u old e h. alike-is u old _ (slice_get-before tasks task u old e) }

-- an own task that changes stays so where its state does
pub one-cases : (such : TaskState → Bool) (c t u : ℕ) (f : Task → Task) (tasks : List Task) (o : IsOneOf such c u tasks) → ((task : Task) → (f task).cpu ≡ task.cpu)
    → ((task : Task) → such task.state ≡ true → such (f task).state ≡ true) → IsOneOf such c u (change f tasks t)
one-cases such c t u f tasks o home ready = elim (cases_eq u t) [
  | inl same ↦ record {
    task = f o.task;
    there = rw same (change-here f tasks t) ∙ ap (option_map f) (ap (slice_get tasks) (sym same) ∙ o.there);
    at_home = home o.task ∙ o.at_home;
    ready = ready o.task o.ready;
  }
  | inr other ↦ record { task = o.task; there = change-elsewhere f tasks t u other ∙ o.there; at_home = o.at_home; ready = o.ready }
]

-- another one changes
pub one-other : (such : TaskState → Bool) (c t u : ℕ) (f : Task → Task) (tasks : List Task) → (u ≡ t → ⊥) → IsOneOf such c u tasks → IsOneOf such c u (change f tasks t)
one-other such c t u f tasks other o = record { task = o.task; there = change-elsewhere f tasks t u other ∙ o.there; at_home = o.at_home; ready = o.ready }

pub own-state : (c t u : ℕ) (state : TaskState) (k : Parts) → is_ready state ≡ true → IsOwn c u k.tasks → IsOwn c u (set_state t state k).tasks
unfolding set_state
own-state c t u state k ready o = one-cases is_ready c t u (λ task. record task { state = state }) k.tasks o (λ task. refl) (λ task h. ready)

-- ---- waking
-- tasks of c woke, lines of its in-band log were played: its own tasks stay its own, as many are out-of-band ready, and nothing else changes but registers
pub record Rouses (c : ℕ) (k x : Parts) : Type 0 where
  pub processors : x.processors ≡ k.processors
  pub watches : x.watches ≡ k.watches
  pub pipes : (d : ℕ) → (d ≡ c → ⊥) → slice_get x.pipes d ≡ slice_get k.pipes d
  pub shape : IsShaped k → IsShaped x
  pub others : (d : ℕ) → (d ≡ c → ⊥) → AreAlike d k.tasks x.tasks
  pub in_band : (u : ℕ) → IsOneOf is_in_ready c u k.tasks → IsOneOf is_in_ready c u x.tasks
  pub oob : (u : ℕ) → may_run_oob c x.tasks u ≡ may_run_oob c k.tasks u
  pub ranked : AreRanked k x

pub rouses-none : (c : ℕ) (k : Parts) → Rouses c k k
rouses-none c k = record {
  processors = refl;
  watches = refl;
  pipes = λ d n. refl;
  shape = λ s. s;
  others = λ d n. alike-none d k.tasks;
  in_band = λ u o. o;
  oob = λ u. refl;
  ranked = ranked-none k;
}

pub rouses-then : (c : ℕ) (x y z : Parts) → Rouses c x y → Rouses c y z → Rouses c x z
rouses-then c x y z p q = record {
  processors = q.processors ∙ p.processors;
  watches = q.watches ∙ p.watches;
  pipes = λ d n. q.pipes d n ∙ p.pipes d n;
  shape = λ s. q.shape (p.shape s);
  others = λ d n. alike-then d x.tasks y.tasks z.tasks (p.others d n) (q.others d n);
  in_band = λ u o. q.in_band u (p.in_band u o);
  oob = λ u. q.oob u ∙ p.oob u;
  ranked = ranked-then x y z p.ranked q.ranked;
}

pub rouses-if : (c : ℕ) (b : Bool) (k x y : Parts) → (b ≡ true → Rouses c k x) → (b ≡ false → Rouses c k y) → Rouses c k (if b then x else y)
rouses-if c true k x y p q = p refl
rouses-if c false k x y p q = q refl

pub rouses-pipe : (c : ℕ) (f : Pipe → Pipe) (k : Parts) → Rouses c k (on_pipe c f k)
rouses-pipe c f k = record {
  processors = refl;
  watches = refl;
  pipes = λ d n. change-elsewhere f k.pipes c d n;
  shape = shaped-pipe c f k;
  others = λ d n. alike-none d k.tasks;
  in_band = λ u o. o;
  oob = λ u. refl;
  ranked = record { mutexes = refl; size = refl; locks = λ u. refl; classes = λ u. refl };
}

-- the waiting task
record Waiter (c t : ℕ) (tasks : List Task) : Type 0 where
  task : Task
  there : slice_get tasks t ≡ Some task
  at_home : task.cpu ≡ c
  idle : is_oob_ready task.state ≡ false
  lockless : lock_of task.state ≡ None
  wakes : (returns : Bool) → is_oob_ready (woken_state returns task.state) ≡ false

wait-idle : (l : ℕ) (state : TaskState) → is_wait_for (Line l) state ≡ true → is_oob_ready state ≡ false
wait-idle l (Waits on) e = refl
wait-idle l _ e = cc

wait-lockless : (l : ℕ) (state : TaskState) → is_wait_for (Line l) state ≡ true → lock_of state ≡ None
wait-lockless l (Waits (Line m)) e = refl
wait-lockless l _ e = cc

pub wait-wakes : (l : ℕ) (returns : Bool) (state : TaskState) → is_wait_for (Line l) state ≡ true → is_oob_ready (woken_state returns state) ≡ false
wait-wakes l returns (Waits (Line m)) e = refl
wait-wakes l returns _ e = cc

-- a task that woke waits for no lock
ready-lockless : (stage : Stage) (returns : Bool) → lock_of (ready_on stage returns) ≡ None
ready-lockless InBand returns = refl
ready-lockless OutOfBand true = refl
ready-lockless OutOfBand false = refl

pub woken-lockless : (returns : Bool) (state : TaskState) → lock_of (woken_state returns state) ≡ None
woken-lockless returns (Waits wait) = ready-lockless (stage_of_wait wait) returns
woken-lockless returns _ = refl

ready-eventless : (stage : Stage) (returns : Bool) → event_of (ready_on stage returns) ≡ None
ready-eventless InBand returns = refl
ready-eventless OutOfBand true = refl
ready-eventless OutOfBand false = refl

-- nor for an event
pub woken-eventless : (returns : Bool) (state : TaskState) → event_of (woken_state returns state) ≡ None
woken-eventless returns (Waits wait) = ready-eventless (stage_of_wait wait) returns
woken-eventless returns _ = refl

-- and it has no deadline
pub shaped-woken : (t : ℕ) (owns : Bool) (k : Parts) → IsShaped k → IsShaped (on_task t (woken owns) k)
shaped-woken t owns k s =
    shaped-plain t (woken owns) k (record {
      cpu = λ x. refl;
      stamp = λ x. refl;
      lock = λ x m e. let no : None ≡ Some m = sym (woken-lockless (is_weak x.class && not owns) x.state) ∙ e in cc;
      event = λ x d e. let no : None ≡ Some d = sym (woken-eventless (is_weak x.class && not owns) x.state) ∙ e in cc;
    }) (deadlines-change (woken owns) k.tasks t (λ x e w. refl) s.deadlines) s

woken-in_band : (returns : Bool) (state : TaskState) → is_in_ready state ≡ true → is_in_ready (woken_state returns state) ≡ true
woken-in_band returns InReady e = refl
woken-in_band returns _ e = cc

waiter : (c l t : ℕ) (tasks : List Task) (o : Option Task) → slice_get tasks t ≡ o → awaits_line c l o ≡ true → Waiter c t tasks
waiter c l t tasks None e h = cc
waiter c l t tasks (Some task) e h =
    let b = both (is_wait_for (Line l) task.state) (task.cpu == c) h in
    record { task = task; there = e; at_home = eqb-is task.cpu c b.1; idle = wait-idle l task.state b.0; lockless = wait-lockless l task.state b.0; wakes = λ returns. wait-wakes l returns task.state b.0 }

-- the one that changes was not out-of-band ready, and isn't now
oob-change : (c t u : ℕ) (f : Task → Task) (tasks : List Task) → (w : Waiter c t tasks) → is_oob_ready (f w.task).state ≡ false → may_run_oob c (change f tasks t) u ≡ may_run_oob c tasks u
oob-change c t u f tasks w h = elim (cases_eq u t) [
  | inl same ↦
      let now : slice_get (change f tasks t) t ≡ Some (f w.task) = change-here f tasks t ∙ ap (option_map f) w.there in
      rw same (rw (now, w.there, h, w.idle) refl)
  | inr other ↦ ap (runs_oob_task c) (change-elsewhere f tasks t u other)
]

waiter-home : (c t : ℕ) (tasks : List Task) → Waiter c t tasks → (task : Task) → slice_get tasks t ≡ Some task → task.cpu ≡ c
waiter-home c t tasks w task e = let same : w.task ≡ task = some-is w.task task (sym w.there ∙ e) in rw (← same) w.at_home

waiter-lock : (c t : ℕ) (tasks : List Task) (w : Waiter c t tasks) (task : Task) → slice_get tasks t ≡ Some task → lock_of task.state ≡ None
waiter-lock c t tasks w task e = let same : w.task ≡ task = some-is w.task task (sym w.there ∙ e) in rw (← same) w.lockless

rouses-hart : (c t value : ℕ) (k : Parts) → Rouses c k (on_hart t (set_register A0 value) k)
rouses-hart c t value k = record {
  processors = refl;
  watches = refl;
  pipes = λ d n. refl;
  shape = shaped-hart t (set_register A0 value) k (λ hart h. h);
  others = λ d n. alike-none d k.tasks;
  in_band = λ u o. o;
  oob = λ u. refl;
  ranked = record { mutexes = refl; size = refl; locks = λ u. refl; classes = λ u. refl };
}

rouses-woken : (c t : ℕ) (owns : Bool) (k : Parts) → Waiter c t k.tasks → Rouses c k (on_task t (woken owns) k)
rouses-woken c t owns k w = record {
  processors = refl;
  watches = refl;
  pipes = λ d n. refl;
  shape = shaped-woken t owns k;
  others = λ d n. alike-other c d t (woken owns) k.tasks n (waiter-home c t k.tasks w);
  in_band = λ u o. one-cases is_in_ready c t u (woken owns) k.tasks o (λ x. refl) (λ x h. woken-in_band (is_weak x.class && not owns) x.state h);
  oob = λ u. oob-change c t u (woken owns) k.tasks w (w.wakes (is_weak w.task.class && not owns));
  ranked = ranked-task t (woken owns) k _ refl refl (λ x e. woken-lockless (is_weak x.class && not owns) x.state ∙ sym (waiter-lock c t k.tasks w x e)) (λ x e. refl);
}

-- whether a task runs out-of-band is told by where and how it is
option-runs : (c : ℕ) (f : Task → Task) (o : Option Task) → ((task : Task) → (f task).cpu ≡ task.cpu) → ((task : Task) → (f task).state ≡ task.state) → runs_oob_task c (option_map f o) ≡ runs_oob_task c o
option-runs c f None cpu state = refl
option-runs c f (Some task) cpu state = rw (cpu task, state task) refl

runs-change : (c t u : ℕ) (f : Task → Task) (tasks : List Task) → ((task : Task) → (f task).cpu ≡ task.cpu) → ((task : Task) → (f task).state ≡ task.state) → may_run_oob c (change f tasks t) u ≡ may_run_oob c tasks u
runs-change c t u f tasks cpu state = elim (cases_eq u t) [
  | inl same ↦ rw same (ap (runs_oob_task c) (change-here f tasks t) ∙ option-runs c f (slice_get tasks t) cpu state)
  | inr other ↦ ap (runs_oob_task c) (change-elsewhere f tasks t u other)
]

pub rouses-restamp : (c t : ℕ) (k : Parts) → Rouses c k (restamp t k)
unfolding restamp
rouses-restamp c t k = record {
  processors = refl;
  watches = refl;
  pipes = λ d n. refl;
  shape = shaped-restamp t k;
  others = λ d n. alike-change d t (λ task. record task { stamp = k.stamps }) k.tasks (λ task. refl) (λ task. refl);
  in_band = λ u o. one-cases is_in_ready c t u (λ task. record task { stamp = k.stamps }) k.tasks o (λ task. refl) (λ task h. h);
  oob = λ u. runs-change c t u (λ task. record task { stamp = k.stamps }) k.tasks (λ task. refl) (λ task. refl);
  ranked = ranked-task t (λ task. record task { stamp = k.stamps }) k _ refl refl (λ task e. refl) (λ task e. refl);
}

rouses-wake : (c t value : ℕ) (k : Parts) → Waiter c t k.tasks → Rouses c k (wake t value k)
unfolding wake
rouses-wake c t value k w =
    let told : Parts = on_hart t (set_register A0 value) k in
    let owns : Bool = owns_any t k.mutexes in
    let ready : Parts = on_task t (woken owns) told in
    rouses-then c k told _ (rouses-hart c t value k)
    (rouses-then c told ready _ (rouses-woken c t owns told w) (rouses-restamp c t ready))

pub rouses-wakes : (c l n : ℕ) (k : Parts) → Rouses c k (wake_below c l n k)
unfolding wake_below
rouses-wakes c l zero k = rouses-none c k
rouses-wakes c l (suc t) k =
    let before : Parts = wake_below c l t k in
    rouses-then c k before _ (rouses-wakes c l t k)
    (rouses-if c (awaits_line c l (slice_get before.tasks t)) before (wake t 0 before) before
    (λ e. rouses-wake c t 0 before (waiter c l t before.tasks (slice_get before.tasks t) refl e)) (λ e. rouses-none c before))

pub rouses-play : (c l : ℕ) (k : Parts) → Rouses c k (play_in_band c l k)
unfolding play_in_band
rouses-play c l k = rouses-then c k (on_pipe c (play InBand l) k) _ (rouses-pipe c (play InBand l) k) (rouses-wakes c l (length k.tasks) (on_pipe c (play InBand l) k))

pub rouses-lines : (c : ℕ) (lines : List ℕ) (k : Parts) → Rouses c k (play_in_band_lines c lines k)
unfolding play_in_band_lines
rouses-lines c [] k = rouses-none c k
rouses-lines c (l ∷ ls) k = rouses-then c k (play_in_band c l k) _ (rouses-play c l k) (rouses-lines c ls (play_in_band c l k))

-- ---- where no task is out-of-band ready, none is best
runs-there : (c u : ℕ) (tasks : List Task) (o : Option Task) → slice_get tasks u ≡ o → runs_oob_task c o ≡ true → u < length tasks
runs-there c u tasks None e h = cc
runs-there c u tasks (Some task) e h = slice_get-below tasks u task e

pub none-best : (c t : ℕ) (mutexes others : List Mutex) (tasks new : List Task) → ((u : ℕ) → may_run_oob c new u ≡ may_run_oob c tasks u) → best c mutexes tasks ≡ None → best c others new ≡ Some t → ⊥
unfolding best
none-best c t mutexes others tasks new same none e =
    let member : may_run_oob c new t ≡ true = (first-member (may_run_oob c new) (rank others new) (stamp new) (length new) t e).1 in
    let was : may_run_oob c tasks t ≡ true = sym (same t) ∙ member in
    let not : may_run_oob c tasks t ≡ false = first-none (may_run_oob c tasks) (rank mutexes tasks) (stamp tasks) (length tasks) t none (runs-there c t tasks (slice_get tasks t) refl was) in
    let no : true ≡ false = sym was ∙ not in cc
