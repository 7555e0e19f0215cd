-- Tasks that waited wake, or wait for something else.
use Rattle.std.proofs.Common.{◌≡◌, ℕ, ◌<◌, List, Bool, true, false, not, Option, Some, None, length, refl, ap, sym, ◌∙◌}
use Rattle.std.specs.Prelude.{slice_get, option_map, ◌&&◌, if◌then◌else◌}
use Rattle.evm_model.proofs.Lists.{change-here, length-change, slice_get-below}
use Rattle.evm_model.specs.Events.{bound, reacquire_from, reacquire_of, reacquire}
use Rattle.evm_model.specs.Good.{AreEvents, AreLocks, event_of, event_of_task, event_at, is_ready}
use Rattle.evm_model.specs.Harts.{A0, set_register}
use Rattle.evm_model.specs.Lists.{change}
use Rattle.evm_model.specs.Mutexes.{owner, held_by, freed, lock_of_task, lock_at, owns_any}
use Rattle.evm_model.specs.State.{Parts, on_hart, on_task, on_mutex}
use Rattle.evm_model.specs.Tasks.{restamp, is_weak}
use Rattle.evm_model.specs.Waits.{is_wait_for, awaits_task, first_waiter, begin_wait, woken, wake}
use Rattle.evm_model.specs.declared.action.Action.{Action}
use Rattle.evm_model.specs.declared.mutex.Mutex.{Mutex}
use Rattle.evm_model.specs.declared.task.Task.{Task}
use Rattle.evm_model.specs.declared.task.TaskState.{TaskState}
use Rattle.evm_model.specs.declared.task.TaskState.TheVariants.{Waits}
use Rattle.evm_model.specs.declared.task.Wait.{Wait}
use Rattle.evm_model.specs.declared.task.Wait.TheVariants.{Reacquire, Event}
use Rattle.evm_model.specs.declared.timer.Timer.{Timer}
use Rattle.law_rules.proofs.Waiters.{first-waits}
use Rattle.law_rules.proofs.Firsts.{eqb-is}
use Rattle.law_rules.proofs.Locks.{locks-owned, locks-freed, locks-retake}
use Rattle.law_rules.proofs.Shapes.{IsShaped, shaped-hart, shaped-with, shaped-task, shaped-restamp, shaped-mutexes, shaped-events, shaped-others}
use Rattle.law_rules.proofs.Waited.{events-fewer, fewer_events-change, events-owned, events-freed, deadlines-change}
use Rattle.law_rules.proofs.Waking.{AreAlike, alike-none, alike-then, alike-idle, alike-change, woken-lockless, woken-eventless, shaped-woken}

-- tasks that were ready are as they were, and so are pipes and processors; the rules of tasks and mutexes hold
pub record Stirs (k x : Parts) : Type 0 where
  pub pipes : x.pipes ≡ k.pipes
  pub processors : x.processors ≡ k.processors
  pub watches : x.watches ≡ k.watches
  pub size : length x.tasks ≡ length k.tasks
  pub alike : (d : ℕ) → AreAlike d k.tasks x.tasks
  pub shape : IsShaped x

pub stirs-none : (k : Parts) → IsShaped k → Stirs k k
stirs-none k s = record { pipes = refl; processors = refl; watches = refl; size = refl; alike = λ d. alike-none d k.tasks; shape = s }

pub stirs-then : (x y z : Parts) → Stirs x y → Stirs y z → Stirs x z
stirs-then x y z p q = record {
  pipes = q.pipes ∙ p.pipes;
  processors = q.processors ∙ p.processors;
  watches = q.watches ∙ p.watches;
  size = q.size ∙ p.size;
  alike = λ d. alike-then d x.tasks y.tasks z.tasks (p.alike d) (q.alike d);
  shape = q.shape;
}

pub stirs-if : (b : Bool) (k x y : Parts) → (b ≡ true → Stirs k x) → (b ≡ false → Stirs k y) → Stirs k (if b then x else y)
stirs-if true k x y p q = p refl
stirs-if false k x y p q = q refl

-- ---- what leaves tasks as they are
-- whatever of one task changes but where and how it is
pub stirs-task : (t : ℕ) (f : Task → Task) (k : Parts) → ((x : Task) → (f x).cpu ≡ x.cpu) → ((x : Task) → (f x).stamp ≡ x.stamp) → ((x : Task) → (f x).state ≡ x.state) → ((x : Task) → (f x).deadline ≡ x.deadline)
    → IsShaped k → Stirs k (on_task t f k)
stirs-task t f k cpu stamp state deadline s = record {
  pipes = refl;
  processors = refl;
  watches = refl;
  size = length-change f k.tasks t;
  alike = λ d. alike-change d t f k.tasks cpu state;
  shape = shaped-task t f k cpu stamp state deadline s;
}

pub stirs-restamp : (t : ℕ) (k : Parts) → IsShaped k → Stirs k (restamp t k)
unfolding restamp
stirs-restamp t k s = record {
  pipes = refl;
  processors = refl;
  watches = refl;
  size = length-change (λ (task : Task). record task { stamp = k.stamps }) k.tasks t;
  alike = λ d. alike-change d t (λ task. record task { stamp = k.stamps }) k.tasks (λ task. refl) (λ task. refl);
  shape = shaped-restamp t k s;
}

pub stirs-mutexes : (k : Parts) (mutexes : List Mutex) → AreLocks mutexes k.tasks → AreEvents k.events mutexes k.tasks → IsShaped k → Stirs k (record k { mutexes = mutexes })
stirs-mutexes k mutexes locks events s = record { pipes = refl; processors = refl; watches = refl; size = refl; alike = λ d. alike-none d k.tasks; shape = shaped-mutexes k mutexes locks events s }

pub stirs-events : (k : Parts) (events : List (Option ℕ)) → AreEvents events k.mutexes k.tasks → IsShaped k → Stirs k (record k { events = events })
stirs-events k events named s = record { pipes = refl; processors = refl; watches = refl; size = refl; alike = λ d. alike-none d k.tasks; shape = shaped-events k events named s }

-- what no rule looks at
pub stirs-others : (k : Parts) (semaphores flags : List ℕ) (timers : List Timer) (actions : List Action) (console : List ℕ)
    → IsShaped k → Stirs k (record k { semaphores = semaphores; flags = flags; timers = timers; actions = actions; console = console })
stirs-others k semaphores flags timers actions console s = record {
  pipes = refl;
  processors = refl;
  watches = refl;
  size = refl;
  alike = λ d. alike-none d k.tasks;
  shape = shaped-others k semaphores flags timers actions console s;
}

-- task w, which waits for nothing, owns mutex m
pub stirs-owned : (m w : ℕ) (f : Mutex → Mutex) (k : Parts) → ((x : Mutex) → (f x).owner ≡ Some w) → w < length k.tasks → lock_at k.tasks w ≡ None → event_at k.tasks w ≡ None → IsShaped k → Stirs k (on_mutex m f k)
stirs-owned m w f k h there lock event s =
    stirs-mutexes k (change f k.mutexes m) (locks-owned f k.mutexes k.tasks m w h s.few_tasks there lock s.locks) (events-owned f k.events k.mutexes k.tasks m w h event s.events) s

pub stirs-freed : (m : ℕ) (k : Parts) → ((u : ℕ) → lock_at k.tasks u ≡ Some m → ⊥) → IsShaped k → Stirs k (on_mutex m (λ mutex. freed mutex) k)
stirs-freed m k none s =
    stirs-mutexes k (change (λ mutex. freed mutex) k.mutexes m) (locks-freed k.mutexes k.tasks m none s.locks) (events-freed k.events k.mutexes k.tasks m s.events) s

-- ---- a task wakes
-- it is not ready
abbrev pub IsIdle : ℕ → List Task → Type 0
IsIdle t tasks = (task : Task) → slice_get tasks t ≡ Some task → is_ready task.state ≡ false

waits-idle : (wait : Wait) (state : TaskState) → is_wait_for wait state ≡ true → is_ready state ≡ false
waits-idle wait (Waits other) e = refl
waits-idle wait _ e = let no : false ≡ true = e in cc

waiter-idle : (wait : Wait) (o : Option Task) → awaits_task wait o ≡ true → (task : Task) → o ≡ Some task → is_ready task.state ≡ false
waiter-idle wait None e task h = cc
waiter-idle wait (Some x) e task h = let same : x ≡ task = cc in rw (← same) (waits-idle wait x.state e)

pub first-idle : (wait : Wait) (t : ℕ) (k : Parts) → first_waiter wait k ≡ Some t → IsIdle t k.tasks
first-idle wait t k e = waiter-idle wait (slice_get k.tasks t) (first-waits wait t k e)

woken-none : (o : Option Task) (owns : Bool) → lock_of_task (option_map (woken owns) o) ≡ None
woken-none None owns = refl
woken-none (Some x) owns = woken-lockless (is_weak x.class && not owns) x.state

woken-nothing : (o : Option Task) (owns : Bool) → event_of_task (option_map (woken owns) o) ≡ None
woken-nothing None owns = refl
woken-nothing (Some x) owns = woken-eventless (is_weak x.class && not owns) x.state

-- what a fresh stamp leaves
stamped-told : {X : Type 0} (told : Option Task → X) (o : Option Task) (stamp : ℕ) → ((task : Task) → told (Some (record task { stamp = stamp })) ≡ told (Some task)) → told (option_map (λ (task : Task). record task { stamp = stamp }) o) ≡ told o
stamped-told told None stamp h = refl
stamped-told told (Some x) stamp h = h x

stamped-at : {X : Type 0} (told : Option Task → X) (tasks : List Task) (t stamp : ℕ) → ((task : Task) → told (Some (record task { stamp = stamp })) ≡ told (Some task))
    → told (slice_get (change (λ (task : Task). record task { stamp = stamp }) tasks t) t) ≡ told (slice_get tasks t)
stamped-at told tasks t stamp h = ap told (change-here (λ (task : Task). record task { stamp = stamp }) tasks t) ∙ stamped-told told (slice_get tasks t) stamp h

-- it waits for nothing then
pub record Wakes (t : ℕ) (k x : Parts) : Type 0 where
  pub stirs : Stirs k x
  pub lock : lock_at x.tasks t ≡ None
  pub event : event_at x.tasks t ≡ None

-- a wake, whether the task owns a mutex or not
abbrev pub woke : Bool → ℕ → ℕ → Parts → Parts
woke owns t value k = restamp t (on_task t (woken owns) (on_hart t (set_register A0 value) k))

pub woke-wakes : (t value : ℕ) (owns : Bool) (k : Parts) → IsIdle t k.tasks → IsShaped k → Wakes t k (woke owns t value k)
unfolding restamp
woke-wakes t value owns k idle s =
    let told : Parts = on_hart t (set_register A0 value) k in
    let ready : Parts = on_task t (woken owns) told in
    let up : List Task = change (woken owns) k.tasks t in
    let first : Stirs k ready = record {
      pipes = refl;
      processors = refl;
      watches = refl;
      size = length-change (woken owns) k.tasks t;
      alike = λ d. alike-idle d t (woken owns) k.tasks (λ x. refl) idle;
      shape = shaped-woken t owns told (shaped-hart t (set_register A0 value) k (λ hart h. h) s);
    } in
    record {
      stirs = stirs-then k ready _ first (stirs-restamp t ready first.shape);
      lock = stamped-at lock_of_task up t k.stamps (λ task. refl) ∙ ap lock_of_task (change-here (woken owns) k.tasks t) ∙ woken-none (slice_get k.tasks t) owns;
      event = stamped-at event_of_task up t k.stamps (λ task. refl) ∙ ap event_of_task (change-here (woken owns) k.tasks t) ∙ woken-nothing (slice_get k.tasks t) owns;
    }

pub wake-stirs : (t value : ℕ) (k : Parts) → IsIdle t k.tasks → IsShaped k → Stirs k (wake t value k)
unfolding wake
wake-stirs t value k idle s = (woke-wakes t value (owns_any t k.mutexes) k idle s).stirs

-- the first that waits for it wakes
pub first-wakes : (t value : ℕ) (wait : Wait) (k : Parts) → first_waiter wait k ≡ Some t → IsShaped k → Stirs k (wake t value k)
first-wakes t value wait k e s = wake-stirs t value k (first-idle wait t k e) s

-- its mutex may be given after it woke as well as before
give-late : (t m value : ℕ) (k : Parts) → wake t value (on_mutex m (held_by t 1) k) ≡ on_mutex m (held_by t 1) (woke (owns_any t (change (held_by t 1) k.mutexes m)) t value k)
unfolding wake restamp
give-late t m value k = refl

pub given-stirs : (t m value : ℕ) (k : Parts) → t < length k.tasks → IsIdle t k.tasks → IsShaped k → Stirs k (wake t value (on_mutex m (held_by t 1) k))
given-stirs t m value k there idle s =
    let owns : Bool = owns_any t (change (held_by t 1) k.mutexes m) in
    let awake : Parts = woke owns t value k in
    let w : Wakes t k awake = woke-wakes t value owns k idle s in
    rw (give-late t m value k)
    (stirs-then k awake _ w.stirs (stirs-owned m t (held_by t 1) awake (λ x. refl) (rw w.stirs.size there) w.lock w.event w.stirs.shape))

-- ---- a task that waited for an event reacquires its mutex
event-idle : (state : TaskState) (e : ℕ) → event_of state ≡ Some e → is_ready state ≡ false
event-idle (Waits wait) e h = refl
event-idle _ e h = cc

pub awaiting-idle : (tasks : List Task) (t e : ℕ) → event_at tasks t ≡ Some e → IsIdle t tasks
awaiting-idle tasks t e h task at = event-idle task.state e (ap event_of_task (sym at) ∙ h)

awaiting-there : (tasks : List Task) (t e : ℕ) (o : Option Task) → slice_get tasks t ≡ o → event_of_task o ≡ Some e → t < length tasks
awaiting-there tasks t e None at h = cc
awaiting-there tasks t e (Some task) at h = slice_get-below tasks t task at

-- task u owns it: the task, which owns none, waits
retakes-stirs : (t m u answer : ℕ) (k : Parts) → owner k.mutexes m ≡ Some u → ((n : ℕ) → owner k.mutexes n ≡ Some t → ⊥) → IsIdle t k.tasks → IsShaped k → Stirs k (begin_wait t (Reacquire m answer) 0 k)
unfolding begin_wait
retakes-stirs t m u answer k own free idle s =
    let waiting : Task → Task = λ task. record task { state = Waits (Reacquire m answer); deadline = 0 } in
    let again : Stirs k (on_task t waiting k) = record {
      pipes = refl;
      processors = refl;
      watches = refl;
      size = length-change waiting k.tasks t;
      alike = λ d. alike-idle d t waiting k.tasks (λ x. refl) idle;
      shape = shaped-with t waiting k (λ x. refl) (λ x. refl) (locks-retake k.mutexes k.tasks t m u waiting (λ x. refl) s.few_tasks own free s.locks)
          (events-fewer k.events k.mutexes k.tasks (change waiting k.tasks t) (fewer_events-change waiting k.tasks t (λ x e w. let no : None ≡ Some e = w in cc)) s.events)
          (deadlines-change waiting k.tasks t (λ x e w. refl) s.deadlines) s;
    } in
    stirs-then k (on_task t waiting k) _ again (stirs-restamp t (on_task t waiting k) again.shape)

reacquire_from-stirs : (o : Option ℕ) (t m e answer : ℕ) (k : Parts) → owner k.mutexes m ≡ o → event_at k.tasks t ≡ Some e → IsShaped k → Stirs k (reacquire_from o t m answer k)
reacquire_from-stirs None t m e answer k own w s = given-stirs t m answer k (awaiting-there k.tasks t e (slice_get k.tasks t) refl w) (awaiting-idle k.tasks t e w) s
reacquire_from-stirs (Some u) t m e answer k own w s = retakes-stirs t m u answer k own (λ n. s.events.idle t e n w) (awaiting-idle k.tasks t e w) s

reacquire_of-stirs : (o : Option ℕ) (t e answer : ℕ) (k : Parts) → event_at k.tasks t ≡ Some e → IsShaped k → Stirs k (reacquire_of o t answer k)
reacquire_of-stirs None t e answer k w s = stirs-none k s
reacquire_of-stirs (Some m) t e answer k w s = reacquire_from-stirs (owner k.mutexes m) t m e answer k refl w s

pub reacquire-stirs : (e t answer : ℕ) (k : Parts) → event_at k.tasks t ≡ Some e → IsShaped k → Stirs k (reacquire e t answer k)
unfolding reacquire
reacquire-stirs e t answer k w s = reacquire_of-stirs (bound e k) t e answer k w s

-- ---- the first that waits for an event
waits-event : (e : ℕ) (state : TaskState) → is_wait_for (Event e) state ≡ true → event_of state ≡ Some e
waits-event e (Waits (Event d)) h = ap (λ (x : ℕ). Some x) (eqb-is d e h)
waits-event e _ h = cc

for-event : (e : ℕ) (o : Option Task) → awaits_task (Event e) o ≡ true → event_of_task o ≡ Some e
for-event e None h = cc
for-event e (Some x) h = waits-event e x.state h

pub first-awaits : (e t : ℕ) (k : Parts) → first_waiter (Event e) k ≡ Some t → event_at k.tasks t ≡ Some e
first-awaits e t k h = for-event e (slice_get k.tasks t) (first-waits (Event e) t k h)
