-- What the acting processor may do before it settles: each leaves the state good but for that.
use Rattle.std.proofs.Common.{◌≡◌, ℕ, ◌<◌, ◌%◌, List, Bool, true, false, not, ◌&&◌, Some, None, length, refl, ap, sym, ◌∙◌, arith}
use Rattle.std.specs.Prelude.{slice_get}
use Rattle.evm_exec.specs.declared.hart.Hart.{Hart}
use Rattle.evm_model.specs.Boosts.{reaches}
use Rattle.evm_model.proofs.Lists.{change-elsewhere, length-change}
use Rattle.evm_model.specs.InBandCalls.{add_task}
use Rattle.evm_model.specs.Events.{bound}
use Rattle.evm_model.specs.Good.{IsOneOf, IsOwn, AreLocks, AreEvents, event_of, is_mutex, is_ready, is_waiting}
use Rattle.evm_model.specs.Lists.{change}
use Rattle.evm_model.specs.Mutexes.{owner, owns_any, lock_of, waits_on}
use Rattle.evm_model.specs.OobCalls.{moved, move_task}
use Rattle.evm_model.specs.Pipes.{Pipe, set_stall}
use Rattle.evm_model.specs.Ranks.{is_in_ready, is_oob_ready}
use Rattle.evm_model.specs.State.{Parts, new_task, on_hart, on_task, on_pipe}
use Rattle.evm_model.specs.Tasks.{is_weak, restamp, set_state, leave_in_band, demote, promote}
use Rattle.evm_model.specs.declared.limits.TheConstants.{TASK_LIMIT}
use Rattle.evm_model.specs.declared.processor.Processor.{Processor}
use Rattle.evm_model.specs.declared.stage.Stage.{Stage}
use Rattle.evm_model.specs.declared.stage.Stage.TheVariants.{OutOfBand, InBand}
use Rattle.evm_model.specs.declared.task.Task.{Task}
use Rattle.evm_model.specs.declared.task.TaskState.{TaskState}
use Rattle.evm_model.specs.declared.task.TaskState.TheVariants.{InReady, OobReady, Waits}
use Rattle.evm_model.specs.Waits.{begin_wait, ready_on}
use Rattle.evm_model.specs.declared.task.Wait.{Wait}
use Rattle.evm_model.specs.declared.task.Wait.TheVariants.{Line, Lock, Event}
use Rattle.law_rules.proofs.Bounded.{are-change}
use Rattle.law_rules.proofs.Firsts.{IsOobOwn, own-live}
use Rattle.law_rules.proofs.Locks.{locks-fewer, fewer-change, locks-wait}
use Rattle.law_rules.proofs.Places.{changed-from}
use Rattle.law_rules.proofs.Sets.{IsPipe-stall}
use Rattle.law_rules.proofs.Settling.{IsActing, IsHeld, GoodBut, away-alike, calm-alike}
use Rattle.law_rules.proofs.Shapes.{IsShaped, shaped-pipe, shaped-leave, shaped-hart, shaped-with, shaped-task, shaped-restamp, shaped-moved, shaped-add}
use Rattle.law_rules.proofs.Stirring.{Stirs}
use Rattle.law_rules.proofs.Waited.{AreDeadlines, events-fewer, fewer_events-change, events-wait, deadlines-change}
use Rattle.law_rules.proofs.Waking.{AreAlike, alike-none, alike-own, alike-oob_own, alike-in_band, alike-change, alike-other, alike-push, one-cases, one-other, own-state}

-- ---- registers
pub but-hart : (c t : ℕ) (f : Hart → Hart) (k : Parts) → ((hart : Hart) → hart.pc % 4 ≡ 0 → (f hart).pc % 4 ≡ 0) → GoodBut c k → GoodBut c (on_hart t f k)
but-hart c t f k h g = record { pipes = g.pipes; others = g.others; own = g.own; away = g.away; shape = shaped-hart t f k h g.shape }

-- ---- the stall bits
-- in-band is not stalled on c
pub record IsFree (c : ℕ) (k : Parts) : Type 0 where
  pub free : (pipe : Pipe) → slice_get k.pipes c ≡ Some pipe → pipe.in_band.stalled ≡ false

-- out-of-band is not stalled on c
pub record IsOpen (c : ℕ) (k : Parts) : Type 0 where
  pub open_there : (pipe : Pipe) → slice_get k.pipes c ≡ Some pipe → pipe.oob.stalled ≡ false

-- c has an in-band current task
pub record HasInBand (c : ℕ) (k : Parts) : Type 0 where
  pub there : (p : Processor) → slice_get k.processors c ≡ Some p → p.in_band_task ≡ None → ⊥

-- c runs an out-of-band task
pub record HasHeld (c : ℕ) (k : Parts) : Type 0 where
  pub held : (p : Processor) → slice_get k.processors c ≡ Some p → IsHeld c p k.tasks

stalls-oob : (b : Bool) (p : Pipe) → (set_stall InBand b p).oob ≡ p.oob
unfolding set_stall
stalls-oob b p = refl

stalls-in_band : (b : Bool) (p : Pipe) → (set_stall InBand b p).in_band.stalled ≡ b
unfolding set_stall
stalls-in_band b p = refl

stalls-own : (b : Bool) (p : Pipe) → ((set_stall OutOfBand b p).oob.stalled ≡ b) × ((set_stall OutOfBand b p).in_band ≡ p.in_band)
unfolding set_stall
stalls-own b p = (refl, refl)

but-stall : (c : ℕ) (stage : Stage) (b : Bool) (k : Parts)
    → ((pipe : Pipe) (p : Processor) → slice_get k.pipes c ≡ Some pipe → slice_get k.processors c ≡ Some p → IsActing c (set_stall stage b pipe) p k.tasks)
    → GoodBut c k → GoodBut c (on_pipe c (set_stall stage b) k)
but-stall c stage b k a g = record {
  pipes = are-change c (set_stall stage b) k (IsPipe-stall stage b) g.pipes;
  others = λ d pipe p n e h. g.others d pipe p n (sym (change-elsewhere (set_stall stage b) k.pipes c d n) ∙ e) h;
  own = λ pipe p e h. let from = changed-from (set_stall stage b) k.pipes c pipe e in rw from.2 (a from.0 p from.1 h);
  away = g.away;
  shape = shaped-pipe c (set_stall stage b) k g.shape;
}

pub but-unstall : (c : ℕ) (k : Parts) → GoodBut c k → GoodBut c (on_pipe c (set_stall InBand false) k)
but-unstall c k g = but-stall c InBand false k (λ pipe p e h. let a = g.own pipe p e h in record {
  in_band_own = a.in_band_own;
  held = λ u. a.held (ap (λ log. log.stalled) (sym (stalls-oob false pipe)) ∙ u);
  in_band_staller = λ u x. let no : false ≡ true = sym (stalls-in_band false pipe) ∙ u in cc;
}) g

pub but-stalled : (c : ℕ) (k : Parts) → HasInBand c k → GoodBut c k → GoodBut c (on_pipe c (set_stall InBand true) k)
but-stalled c k t g = but-stall c InBand true k (λ pipe p e h. let a = g.own pipe p e h in record {
  in_band_own = a.in_band_own;
  held = λ u. a.held (ap (λ log. log.stalled) (sym (stalls-oob true pipe)) ∙ u);
  in_band_staller = λ u x. t.there p h x;
}) g

pub but-unstall_oob : (c : ℕ) (k : Parts) → GoodBut c k → GoodBut c (on_pipe c (set_stall OutOfBand false) k)
but-unstall_oob c k g = but-stall c OutOfBand false k (λ pipe p e h. let a = g.own pipe p e h in let f = stalls-own false pipe in record {
  in_band_own = a.in_band_own;
  held = λ u. let no : false ≡ true = sym f.0 ∙ u in cc;
  in_band_staller = λ u x. a.in_band_staller (ap (λ log. log.stalled) (sym f.1) ∙ u) x;
}) g

pub but-stalled_oob : (c : ℕ) (k : Parts) → HasHeld c k → GoodBut c k → GoodBut c (on_pipe c (set_stall OutOfBand true) k)
but-stalled_oob c k t g = but-stall c OutOfBand true k (λ pipe p e h. let a = g.own pipe p e h in let f = stalls-own true pipe in record {
  in_band_own = a.in_band_own;
  held = λ u. t.held p h;
  in_band_staller = λ u x. a.in_band_staller (ap (λ log. log.stalled) (sym f.1) ∙ u) x;
}) g

pub free-unstalled : (c : ℕ) (k : Parts) → IsFree c (on_pipe c (set_stall InBand false) k)
free-unstalled c k = record {
  free = λ pipe e. let from = changed-from (set_stall InBand false) k.pipes c pipe e in rw from.2 (stalls-in_band false from.0);
}

open-unstalled : (c : ℕ) (k : Parts) → IsOpen c (on_pipe c (set_stall OutOfBand false) k)
open-unstalled c k = record {
  open_there = λ pipe e. let from = changed-from (set_stall OutOfBand false) k.pipes c pipe e in rw from.2 (stalls-own false from.0).0;
}

pub open-in_band : (c : ℕ) (b : Bool) (k : Parts) → IsOpen c k → IsOpen c (on_pipe c (set_stall InBand b) k)
open-in_band c b k f = record {
  open_there = λ pipe e.
      let from = changed-from (set_stall InBand b) k.pipes c pipe e in
      rw from.2 (ap (λ log. log.stalled) (stalls-oob b from.0) ∙ f.open_there from.0 from.1);
}

-- ---- the in-band current task leaves
pub but-leave : (c : ℕ) (k : Parts) → IsFree c k → GoodBut c k → GoodBut c (leave_in_band c k)
unfolding leave_in_band
but-leave c k f g =
    let gone : Processor → Processor = λ p. record p { in_band_task = None } in
    record {
      pipes = g.pipes;
      others = λ d pipe p n e h. g.others d pipe p n e (sym (change-elsewhere gone k.processors c d n) ∙ h);
      own = λ pipe p e h.
          let from = changed-from gone k.processors c p h in
          let a = g.own pipe from.0 e from.1 in
          rw from.2 (record {
            in_band_own = λ u x. let no : None ≡ Some u = x in cc;
            held = λ u. let w = a.held u in record { number = w.number; runs = w.runs; own = w.own };
            in_band_staller = λ u x. let no : true ≡ false = sym u ∙ f.free pipe e in cc;
          });
      away = away-alike c k (leave_in_band c k) g (λ d n. (alike-none d k.tasks, change-elsewhere gone k.processors c d n, refl));
      shape = shaped-leave c k g.shape;
    }

-- ---- tasks change
held-alike : (c : ℕ) (p : Processor) (tasks new : List Task) → AreAlike c tasks new → IsHeld c p tasks → IsHeld c p new
held-alike c p tasks new a w = record { number = w.number; runs = w.runs; own = alike-oob_own c w.number tasks new a w.own }

-- whatever of them changes but where and how they are
pub but-alike : (c : ℕ) (k x : Parts) → x.pipes ≡ k.pipes → x.processors ≡ k.processors → x.watches ≡ k.watches → ((d : ℕ) → AreAlike d k.tasks x.tasks) → (IsShaped k → IsShaped x) → GoodBut c k → GoodBut c x
but-alike c k x pipes processors watches alike shape g = record {
  pipes = rw pipes g.pipes;
  others = λ d pipe p n e h.
      calm-alike d pipe p k.tasks x.tasks (alike d)
      (g.others d pipe p n (ap (λ (xs : List Pipe). slice_get xs d) (sym pipes) ∙ e) (ap (λ (xs : List Processor). slice_get xs d) (sym processors) ∙ h));
  own = λ pipe p e h.
      let a = g.own pipe p (ap (λ (xs : List Pipe). slice_get xs c) (sym pipes) ∙ e) (ap (λ (xs : List Processor). slice_get xs c) (sym processors) ∙ h) in
      record {
        in_band_own = λ u m. alike-in_band c u k.tasks x.tasks (alike c) (a.in_band_own u m);
        held = λ u. held-alike c p k.tasks x.tasks (alike c) (a.held u);
        in_band_staller = a.in_band_staller;
      };
  away = away-alike c k x g (λ d n. (alike d, ap (λ (xs : List Processor). slice_get xs d) processors, ap (λ (xs : List ℕ). slice_get xs d) watches));
  shape = shape g.shape;
}

pub but-restamp : (c t : ℕ) (k : Parts) → GoodBut c k → GoodBut c (restamp t k)
unfolding restamp
but-restamp c t k g =
    but-alike c k (restamp t k) refl refl refl (λ d. alike-change d t (λ task. record task { stamp = k.stamps }) k.tasks (λ task. refl) (λ task. refl)) (shaped-restamp t k) g

-- tasks that waited woke, or wait for something else
pub but-stirs : (c : ℕ) (k x : Parts) → Stirs k x → GoodBut c k → GoodBut c x
but-stirs c k x p g = but-alike c k x p.pipes p.processors p.watches p.alike (λ s. p.shape) g

-- a task's class, priority, slice or mode
pub but-task : (c t : ℕ) (f : Task → Task) (k : Parts) → ((task : Task) → (f task).cpu ≡ task.cpu) → ((task : Task) → (f task).state ≡ task.state) → ((task : Task) → (f task).stamp ≡ task.stamp) → ((task : Task) → (f task).deadline ≡ task.deadline)
    → GoodBut c k → GoodBut c (on_task t f k)
but-task c t f k cpu state stamp deadline g = but-alike c k (on_task t f k) refl refl refl (λ d. alike-change d t f k.tasks cpu state) (shaped-task t f k cpu stamp state deadline) g

-- a task more
pub but-add : (c entry value cpu : ℕ) (k : Parts) → entry % 4 ≡ 0 → cpu < length k.processors → length k.tasks < TASK_LIMIT → GoodBut c k → GoodBut c (add_task entry value cpu k)
unfolding add_task
but-add c entry value cpu k a home room g =
    but-alike c k (add_task entry value cpu k) refl refl refl (λ d. alike-push d (new_task cpu k.stamps) k.tasks) (shaped-add entry value cpu k a home room) g

-- ---- a task of the acting processor has another state
own-home : (c t : ℕ) (tasks : List Task) → IsOwn c t tasks → (task : Task) → slice_get tasks t ≡ Some task → task.cpu ≡ c
own-home c t tasks o task e = let two : Some o.task ≡ Some task = sym o.there ∙ e in let same : o.task ≡ task = cc in rw (← same) o.at_home

both-ready : (s : TaskState) → is_oob_ready s ≡ true → is_in_ready s ≡ true → ⊥
both-ready OobReady e h = cc
both-ready InReady e h = cc
both-ready _ e h = cc

acts-open : (c : ℕ) (pipe : Pipe) (p : Processor) (tasks new : List Task) → pipe.oob.stalled ≡ false → ((u : ℕ) → p.in_band_task ≡ Some u → IsOneOf is_in_ready c u tasks → IsOneOf is_in_ready c u new)
    → IsActing c pipe p tasks → IsActing c pipe p new
acts-open c pipe p tasks new f h a = record {
  in_band_own = λ u x. h u x (a.in_band_own u x);
  held = λ u. let no : true ≡ false = sym u ∙ f in cc;
  in_band_staller = a.in_band_staller;
}

-- .. by a change that leaves the in-band current task ready in-band
but-own : (c t : ℕ) (f : Task → Task) (k : Parts) → ((task : Task) → (f task).cpu ≡ task.cpu) → ((task : Task) → (f task).stamp ≡ task.stamp) → AreLocks k.mutexes (change f k.tasks t)
    → AreEvents k.events k.mutexes (change f k.tasks t) → AreDeadlines (change f k.tasks t)
    → ((u : ℕ) (p : Processor) → slice_get k.processors c ≡ Some p → p.in_band_task ≡ Some u → IsOneOf is_in_ready c u k.tasks → IsOneOf is_in_ready c u (change f k.tasks t))
    → IsOpen c k → IsOwn c t k.tasks → GoodBut c k → GoodBut c (on_task t f k)
but-own c t f k cpu stamp locks events deadlines stays opened o g = record {
  pipes = g.pipes;
  others = λ d pipe p n e h. calm-alike d pipe p k.tasks _ (alike-other c d t f k.tasks n (own-home c t k.tasks o)) (g.others d pipe p n e h);
  own = λ pipe p e h. acts-open c pipe p k.tasks _ (opened.open_there pipe e) (λ u x w. stays u p h x w) (g.own pipe p e h);
  away = away-alike c k (on_task t f k) g (λ d n. (alike-other c d t f k.tasks n (own-home c t k.tasks o), refl, refl));
  shape = shaped-with t f k cpu stamp locks events deadlines g.shape;
}

-- no other lock than before is waited for, and no other event
state-locks : (t : ℕ) (f : Task → Task) (k : Parts) → ((x : Task) → lock_of (f x).state ≡ None) → AreLocks k.mutexes k.tasks → AreLocks k.mutexes (change f k.tasks t)
state-locks t f k none l =
    locks-fewer k.mutexes k.tasks (change f k.tasks t) (omega (arith, length-change f k.tasks t)) (fewer-change f k.tasks t (λ x m e. let no : None ≡ Some m = sym (none x) ∙ e in cc)) l

state-events : (t : ℕ) (f : Task → Task) (k : Parts) → ((x : Task) → event_of (f x).state ≡ None) → AreEvents k.events k.mutexes k.tasks → AreEvents k.events k.mutexes (change f k.tasks t)
state-events t f k none a =
    events-fewer k.events k.mutexes k.tasks (change f k.tasks t) (fewer_events-change f k.tasks t (λ x d e. let no : None ≡ Some d = sym (none x) ∙ e in cc)) a

-- a task of the processor has no deadline, as it is ready
ready-waits : (s : TaskState) → is_ready s ≡ true → is_waiting s ≡ false
ready-waits InReady e = refl
ready-waits OobReady e = refl
ready-waits _ e = cc

pub own-deadlines : (c t : ℕ) (f : Task → Task) (tasks : List Task) → IsOwn c t tasks → ((x : Task) → (f x).deadline ≡ x.deadline) → AreDeadlines tasks → AreDeadlines (change f tasks t)
own-deadlines c t f tasks o stay d =
    deadlines-change f tasks t (λ x e w.
    let same : o.task ≡ x = (let two : Some o.task ≡ Some x = sym o.there ∙ e in cc) in
    stay x ∙ d t x e (rw (← same) (ready-waits o.task.state o.ready))) d

-- it is ready in-band
pub but-ready : (c t : ℕ) (k : Parts) → IsOpen c k → IsOwn c t k.tasks → GoodBut c k → GoodBut c (set_state t InReady k)
unfolding set_state
but-ready c t k f o g =
    let ready : Task → Task = λ task. record task { state = InReady } in
    but-own c t ready k (λ x. refl) (λ x. refl) (state-locks t ready k (λ x. refl) g.shape.locks) (state-events t ready k (λ x. refl) g.shape.events)
    (own-deadlines c t ready k.tasks o (λ x. refl) g.shape.deadlines)
    (λ u p h x w. one-cases is_in_ready c t u ready k.tasks w (λ x. refl) (λ x e. refl)) f o g

-- where it is gone from in-band it may have any state
pub but-gone : (c t : ℕ) (f : Task → Task) (k : Parts) → ((x : Task) → (f x).cpu ≡ x.cpu) → ((x : Task) → (f x).stamp ≡ x.stamp) → ((x : Task) → lock_of (f x).state ≡ None) → ((x : Task) → event_of (f x).state ≡ None)
    → AreDeadlines (change f k.tasks t) → ((p : Processor) → slice_get k.processors c ≡ Some p → p.in_band_task ≡ None) → IsOpen c k → IsOwn c t k.tasks → GoodBut c k → GoodBut c (on_task t f k)
but-gone c t f k cpu stamp lock event deadlines gone opened o g =
    but-own c t f k cpu stamp (state-locks t f k lock g.shape.locks) (state-events t f k event g.shape.events) deadlines
    (λ u p h x w. let no : None ≡ Some u = sym (gone p h) ∙ x in cc) opened o g

-- an out-of-band task is not the in-band current one
oob-other : (c t u : ℕ) (tasks : List Task) → IsOobOwn c t tasks → IsOneOf is_in_ready c u tasks → u ≡ t → ⊥
oob-other c t u tasks o w same =
    let two : Some w.task ≡ Some o.task = sym w.there ∙ ap (slice_get tasks) same ∙ o.there in
    let it : w.task ≡ o.task = cc in
    both-ready o.task.state o.ready (ap (λ (x : Task). is_in_ready x.state) (sym it) ∙ w.ready)

-- it waits out-of-band
but-parks : (c t deadline : ℕ) (wait : Wait) (k : Parts) → (let waiting : Task → Task = λ task. record task { state = Waits wait; deadline = deadline } in AreLocks k.mutexes (change waiting k.tasks t))
    → (let waiting : Task → Task = λ task. record task { state = Waits wait; deadline = deadline } in AreEvents k.events k.mutexes (change waiting k.tasks t)) → IsOpen c k → IsOobOwn c t k.tasks → GoodBut c k
    → GoodBut c (begin_wait t wait deadline k)
unfolding begin_wait
but-parks c t deadline wait k locks events f o g =
    let waiting : Task → Task = λ task. record task { state = Waits wait; deadline = deadline } in
    but-restamp c t (on_task t waiting k)
    (but-own c t waiting k (λ x. refl) (λ x. refl) locks events (deadlines-change waiting k.tasks t (λ x e w. let no : true ≡ false = w in cc) g.shape.deadlines)
    (λ v p h x w. one-other is_in_ready c t v waiting k.tasks (oob-other c t v k.tasks o w) w) f (own-live c t k.tasks o) g)

-- .. for a lock
pub but-waits : (c t m u deadline : ℕ) (k : Parts) → owner k.mutexes m ≡ Some u → reaches (waits_on k.mutexes k.tasks) t TASK_LIMIT (Some u) ≡ false → IsOpen c k → IsOobOwn c t k.tasks → GoodBut c k
    → GoodBut c (begin_wait t (Lock m) deadline k)
but-waits c t m u deadline k own away f o g =
    let waiting : Task → Task = λ task. record task { state = Waits (Lock m); deadline = deadline } in
    but-parks c t deadline (Lock m) k (locks-wait k.mutexes k.tasks t m u waiting (λ x. refl) g.shape.few_tasks own away g.shape.locks) (state-events t waiting k (λ x. refl) g.shape.events) f o g

-- .. for an event, whose mutex is there; it owns none
pub but-awaits : (c t e deadline : ℕ) (k : Parts) → is_mutex (bound e k) k.mutexes ≡ true → ((m : ℕ) → owner k.mutexes m ≡ Some t → ⊥) → IsOpen c k → IsOobOwn c t k.tasks → GoodBut c k
    → GoodBut c (begin_wait t (Event e) deadline k)
but-awaits c t e deadline k named free f o g =
    let waiting : Task → Task = λ task. record task { state = Waits (Event e); deadline = deadline } in
    but-parks c t deadline (Event e) k (state-locks t waiting k (λ x. refl) g.shape.locks) (events-wait k.events k.mutexes k.tasks t e waiting (λ x. refl) named free g.shape.events) f o g

-- .. for what no mutex is, and no event
pub but-rests : (c t deadline : ℕ) (wait : Wait) (k : Parts) → lock_of (Waits wait) ≡ None → event_of (Waits wait) ≡ None → IsOpen c k → IsOobOwn c t k.tasks → GoodBut c k → GoodBut c (begin_wait t wait deadline k)
but-rests c t deadline wait k lock event f o g =
    let waiting : Task → Task = λ task. record task { state = Waits wait; deadline = deadline } in
    but-parks c t deadline wait k (state-locks t waiting k (λ x. lock) g.shape.locks) (state-events t waiting k (λ x. event) g.shape.events) f o g

pub left : (c : ℕ) (k : Parts) (p : Processor) → slice_get (leave_in_band c k).processors c ≡ Some p → p.in_band_task ≡ None
unfolding leave_in_band
left c k p h = let from = changed-from (λ (p : Processor). record p { in_band_task = None }) k.processors c p h in ap (λ p. p.in_band_task) from.2

pub leave-own : (c d t : ℕ) (k : Parts) → IsOwn d t k.tasks → IsOwn d t (leave_in_band c k).tasks
unfolding leave_in_band
leave-own c d t k o = o

pub leave-open : (c : ℕ) (k : Parts) → IsOpen c k → IsOpen c (leave_in_band c k)
unfolding leave_in_band
leave-open c k f = record { open_there = f.open_there }

-- ---- it goes on on another processor
pub but-move : (c t d : ℕ) (k : Parts) → d < length k.processors → IsOpen c k → IsOobOwn c t k.tasks → GoodBut c k → GoodBut c (move_task t d k)
unfolding move_task
but-move c t d k home f o g =
    let owns : Bool = owns_any t k.mutexes in
    let there : Task → Task = moved d owns in
    let own : IsOwn c t k.tasks = own-live c t k.tasks o in
    let at : IsOwn c t k.tasks → (e : ℕ) → (e ≡ c → ⊥) → AreAlike e k.tasks (change there k.tasks t) = λ w e n. alike-other c e t there k.tasks n (own-home c t k.tasks w) in
    but-restamp c t (on_task t there k) (record {
      pipes = g.pipes;
      others = λ e pipe p n h q. calm-alike e pipe p k.tasks _ (at own e n) (g.others e pipe p n h q);
      own = λ pipe p e h. acts-open c pipe p k.tasks _ (f.open_there pipe e) (λ u x w. one-other is_in_ready c t u there k.tasks (oob-other c t u k.tasks o w) w) (g.own pipe p e h);
      away = away-alike c k (on_task t there k) g (λ e n. (at own e n, refl, refl));
      shape = shaped-moved t there k (λ x. home) (λ x. refl) (state-locks t there k (λ x. moved-lock d owns x) g.shape.locks) (state-events t there k (λ x. moved-event d owns x) g.shape.events)
          (own-deadlines c t there k.tasks own (λ x. refl) g.shape.deadlines) g.shape;
    })
  where
    ready-lock : (b : Bool) → lock_of (ready_on OutOfBand b) ≡ None
    ready-lock true = refl
    ready-lock false = refl

    ready-event : (b : Bool) → event_of (ready_on OutOfBand b) ≡ None
    ready-event true = refl
    ready-event false = refl

    moved-lock : (d : ℕ) (owns : Bool) (x : Task) → lock_of (moved d owns x).state ≡ None
    moved-lock d owns x = ready-lock (is_weak x.class && not owns)

    moved-event : (d : ℕ) (owns : Bool) (x : Task) → event_of (moved d owns x).state ≡ None
    moved-event d owns x = ready-event (is_weak x.class && not owns)

-- ---- what stays so
pub add-own : (entry value cpu d u : ℕ) (k : Parts) → IsOwn d u k.tasks → IsOwn d u (add_task entry value cpu k).tasks
unfolding add_task
add-own entry value cpu d u k o = alike-own d u k.tasks _ (alike-push d (new_task cpu k.stamps) k.tasks) o

pub restamp-free : (c t : ℕ) (k : Parts) → IsFree c k → IsFree c (restamp t k)
unfolding restamp
restamp-free c t k f = record { free = f.free }

pub restamp-own : (d t u : ℕ) (k : Parts) → IsOwn d u k.tasks → IsOwn d u (restamp t k).tasks
unfolding restamp
restamp-own d t u k o = alike-own d u k.tasks _ (alike-change d t (λ task. record task { stamp = k.stamps }) k.tasks (λ task. refl) (λ task. refl)) o

pub task-own : (c t u : ℕ) (f : Task → Task) (k : Parts) → ((task : Task) → (f task).cpu ≡ task.cpu) → ((task : Task) → (f task).state ≡ task.state) → IsOwn c u k.tasks → IsOwn c u (on_task t f k).tasks
task-own c t u f k cpu state o = alike-own c u k.tasks _ (alike-change c t f k.tasks cpu state) o

-- ---- a change of stage
pub demote-but : (c t : ℕ) (k : Parts) → GoodBut c k → IsOwn c t k.tasks → GoodBut c (demote c t k)
unfolding demote
demote-but c t k g o =
    let open_pipe : Parts = on_pipe c (set_stall OutOfBand false) k in
    but-restamp c t (set_state t InReady open_pipe) (but-ready c t open_pipe (open-unstalled c k) o (but-unstall_oob c k g))

pub demote-own : (c t : ℕ) (k : Parts) → IsOwn c t k.tasks → IsOwn c t (demote c t k).tasks
unfolding demote
demote-own c t k o =
    let open_pipe : Parts = on_pipe c (set_stall OutOfBand false) k in
    restamp-own c t t (set_state t InReady open_pipe) (own-state c t t InReady open_pipe refl o)

-- leaving in-band, a task and its stamp change different parts
leave-turn : (c t : ℕ) (f : Task → Task) (k : Parts) → leave_in_band c (restamp t (on_task t f k)) ≡ restamp t (on_task t f (leave_in_band c k))
unfolding leave_in_band restamp
leave-turn c t f k = refl

-- it leaves in-band with another state
leave-but : (c t : ℕ) (f : Task → Task) (k : Parts) → ((x : Task) → (f x).cpu ≡ x.cpu) → ((x : Task) → (f x).stamp ≡ x.stamp) → ((x : Task) → lock_of (f x).state ≡ None) → ((x : Task) → event_of (f x).state ≡ None)
    → AreDeadlines (change f k.tasks t) → IsOpen c k → IsFree c k → GoodBut c k → IsOwn c t k.tasks → GoodBut c (leave_in_band c (restamp t (on_task t f k)))
unfolding leave_in_band
leave-but c t f k cpu stamp lock event deadlines opened free g o =
    let gone : Parts = leave_in_band c k in
    rw (leave-turn c t f k)
    (but-restamp c t (on_task t f gone) (but-gone c t f gone cpu stamp lock event deadlines (left c k) (leave-open c k opened) (leave-own c c t k o) (but-leave c k free g)))

pub promote-but : (c t : ℕ) (k : Parts) → IsOpen c k → IsFree c k → GoodBut c k → IsOwn c t k.tasks → GoodBut c (promote c t k)
unfolding promote set_state
promote-but c t k f free g o =
    let ready : Task → Task = λ task. record task { state = OobReady } in
    leave-but c t ready k (λ x. refl) (λ x. refl) (λ x. refl) (λ x. refl) (own-deadlines c t ready k.tasks o (λ x. refl) g.shape.deadlines) f free g o

-- it waits in-band
pub wait_line-but : (c t l deadline : ℕ) (k : Parts) → IsOpen c k → IsFree c k → GoodBut c k → IsOwn c t k.tasks → GoodBut c (leave_in_band c (begin_wait t (Line l) deadline k))
unfolding begin_wait
wait_line-but c t l deadline k f free g o =
    let waiting : Task → Task = λ task. record task { state = Waits (Line l); deadline = deadline } in
    leave-but c t waiting k (λ x. refl) (λ x. refl) (λ x. refl) (λ x. refl) (deadlines-change waiting k.tasks t (λ x e w. let no : true ≡ false = w in cc) g.shape.deadlines) f free g o
