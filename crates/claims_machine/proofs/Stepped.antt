-- What the law of steps says, in the words of the claims.
use Rattle.std.proofs.Common.{◌≡◌, ◌≢◌, ℕ, List, Bool, true, false, ◌&&◌, Option, Some, None, slice_get, ◌⊎◌, inl, inr, refl, ap, sym, ◌∙◌, arith}
use Rattle.std.specs.Prelude.{option_map, not, nat_le, ◌==◌, ◌≤◌}
use Rattle.std.proofs.lemmas.Bool.{cases_eq}
use Rattle.std.proofs.lemmas.Bool.Decides.{nat_tests}
use Rattle.evm_exec.specs.declared.hart.Hart.{Hart}
use Rattle.evm_exec.specs.Registers.{register_of}
use Rattle.evm_exec.specs.declared.outcome.Effect.TheVariants.{Call}
use Rattle.evm_lines.specs.Lines.{has_line}
use Rattle.evm_model.specs.Actions.{action_or_nothing}
use Rattle.evm_model.specs.Events.{bound_of}
use Rattle.evm_model.specs.Harts.{argument}
use Rattle.evm_model.specs.OobCalls.{is_scheduled_task}
use Rattle.evm_model.specs.Pipes.{Pipe}
use Rattle.evm_model.specs.Settle.{current}
use Rattle.evm_model.specs.Stages.{is_class}
use Rattle.evm_model.specs.State.{Board, Parts}
use Rattle.evm_model.specs.Tasks.{is_live, is_weak}
use Rattle.evm_model.specs.Timers.{is_due_timer}
use Rattle.evm_model.specs.declared.action.Action.{Action}
use Rattle.evm_model.specs.declared.action.Action.TheVariants.{Puts, Posts}
use Rattle.evm_model.specs.declared.mutex.Mutex.{Mutex}
use Rattle.evm_model.specs.declared.task.Class.{Class}
use Rattle.evm_model.specs.declared.task.Class.TheVariants.{Unattached, Weak}
use Rattle.evm_model.specs.declared.task.Task.{Task}
use Rattle.evm_model.specs.declared.task.TaskState.{TaskState}
use Rattle.evm_model.specs.declared.task.TaskState.TheVariants.{InReady, OobReady}
use Rattle.evm_model.specs.declared.task.Wait.{Wait}
use Rattle.evm_model.specs.declared.task.Wait.TheVariants.{Line, Event as OfEvent, Sleep}
use Rattle.evm_model.specs.declared.timer.Timer.{Timer}
use Rattle.law_runs.specs.Changes.{EventEnds as EndsBefore, by_signal as signalled, by_time as timed, HasMutex, IsReadyAfter, MakesCall, MakesNone, MutexesTaken, Requeues, Schedules, Overruns, Spends, Stays, StepChanges, Wakes as WakesBefore, WasLate, is_event_wait, late_answer, WokenBy as WokenBefore, by_line as line, by_owner as passed, by_owner_back as passed_back, by_event as regained, by_deadline as overdue, by_put as put, by_line_put as line_put, by_post as posted, by_line_post as line_posted, by_timer as timer_due}
use Rattle.claims_machine.specs.About.{IsAbout}
use Rattle.claims_machine.specs.Steps.{IsReacquired, EventWaitEnds, by_signal, by_time, HadCome, IsGivenPolicy, OwnsNow, WaitsAgain, WaitEnds, WaitEndsBy, by_line, by_owner, by_owner_back, by_event, by_sleep, by_deadline, by_put, by_line_put, by_post, by_line_post, by_timer, SpendsSlice, IsSentInBand, Stands, IsAnothers}

-- ---- one task
same_task : (tasks : List Task) (t : ℕ) (x y : Task) → slice_get tasks t ≡ Some x → slice_get tasks t ≡ Some y → x ≡ y
same_task tasks t x y e f = let two : Some x ≡ Some y = sym e ∙ f in cc

both : (a b : Bool) → (a && b) ≡ true → (a ≡ true) × (b ≡ true)
both true true h = (refl, refl)
both true false h = cc
both false b h = cc

weak_is : (class : Class) → is_weak class ≡ true → class ≡ Weak
weak_is Weak e = refl
weak_is _ e = cc

weakly : (state : TaskState) (class : Class) → (state ≡ OobReady) ⊎ ((state ≡ InReady) × (is_weak class ≡ true)) → (state ≡ OobReady) ⊎ ((state ≡ InReady) × (class ≡ Weak))
weakly state class (inl oob) = inl oob
weakly state class (inr in_band) = inr (in_band.0, weak_is class in_band.1)

in_band_only : (state : TaskState) (class : Class) → (state ≡ InReady) ⊎ ((state ≡ InReady) × (is_weak class ≡ true)) → state ≡ InReady
in_band_only state class (inl there) = there
in_band_only state class (inr weak) = weak.0

owns_now : (t m : ℕ) (state : TaskState) (mutexes : List Mutex) → HasMutex t m state mutexes → OwnsNow t m state mutexes
owns_now t m state mutexes h = record { mutex = h.mutex; there = h.there; owns = h.owns; once = h.once; oob = h.oob }

had_come : (c now : ℕ) (task : Task) → WasLate c now task → HadCome c now task
had_come c now task w = record { set = w.set; come = w.come; home = w.home }

named_as : (o : Option (Option ℕ)) (m : ℕ) → bound_of o ≡ Some m → o ≡ Some (Some m)
named_as None m e = cc
named_as (Some b) m e = ap (λ (x : Option ℕ). Some x) e

pub puts_as : (o : Option Action) (s : ℕ) → action_or_nothing o ≡ Puts s → o ≡ Some (Puts s)
puts_as None s e = cc
puts_as (Some action) s e = ap (λ (x : Action). Some x) e

pub posts_as : (o : Option Action) (f : ℕ) → action_or_nothing o ≡ Posts f → o ≡ Some (Posts f)
posts_as None f e = cc
posts_as (Some action) f e = ap (λ (x : Action). Some x) e

pub is_due : (c now : ℕ) (timer : Timer) → is_due_timer c now timer ≡ true → (timer.due ≢ 0) × ((timer.due ≤ now) × (timer.cpu ≡ c))
is_due c now timer h =
    let one = both (not (timer.due == 0)) (nat_le timer.due now && timer.cpu == c) h in
    let two = both (nat_le timer.due now) (timer.cpu == c) one.1 in
    ((λ e. let no : not (timer.due == 0) ≡ true = one.0 in set_not timer.due no e), (grind (arith, nat_tests), grind (arith, nat_tests)))
  where
    set_not : (n : ℕ) → not (n == 0) ≡ true → n ≡ 0 → ⊥
    set_not n h e = grind (arith, nat_tests)

about : (c number : ℕ) (hart : Hart) (old : Board) (call : MakesCall c number hart old) → IsAbout (current c old.parts) call.task hart Call old.parts.harts old.memory
about c number hart old call = record { word = call.word; inst = call.inst; current = call.runs; has = call.has; fetched = call.fetched; decodes = call.decodes; effect_is = call.calls }

-- what the calls are that a task is about to make
abbrev pub IsAboutCall : Option ℕ → Board → ℕ → Hart → Type 0
IsAboutCall runs old number hart = (caller : ℕ) × (IsAbout runs caller hart Call old.parts.harts old.memory × (register_of hart.regs 17 ≡ number))

module _ (runs : Option ℕ) (c t : ℕ) (old : Board) (makes : ℕ → Hart → Type 0) (tells : (n : ℕ) (h : Hart) → makes n h → IsAboutCall runs old n h) where
  event_ends : (e answer : ℕ) (task : Task) → EndsBefore makes c old.parts.ticks e task answer → EventWaitEnds runs c e old.memory old.parts task answer
  event_ends e _ task (signalled hart (inl call) is) = let a = tells 43 hart call in by_signal a.0 hart a.1.0 (inl a.1.1) is
  event_ends e _ task (signalled hart (inr call) is) = let a = tells 44 hart call in by_signal a.0 hart a.1.0 (inr a.1.1) is
  event_ends e _ task (timed late) = by_time (had_come c old.parts.ticks task late)

  by_lateness : (wait : Wait) (new : Parts) (task : Task) (state : TaskState) → is_event_wait wait ≡ false → HadCome c old.parts.ticks task → IsReadyAfter wait task.class state → WaitEndsBy runs c t old.memory old.parts new task state wait (late_answer wait)
  by_lateness Sleep new task state other late ready = by_sleep late (weakly state task.class ready)
  by_lateness (OfEvent e) new task state other late ready = cc
  by_lateness (Line l) new task state other late ready = by_deadline (Line l) (λ e. cc) (λ d e. cc) late (inr (l, (refl, in_band_only state task.class ready)))
  by_lateness wait new task state other late ready = by_deadline wait (λ e. cc) (λ d e. cc) late (inl (weakly state task.class ready))

  why : (new : Parts) (task : Task) (state : TaskState) (wait : Wait) (answer : ℕ) → WokenBefore runs makes c t task state old.parts new wait answer → IsReadyAfter wait task.class state
      → WaitEndsBy runs c t old.memory old.parts new task state wait answer
  why new task state _ _ (line l home) ready = by_line l home (in_band_only state task.class ready)
  why new task state _ _ (passed m giver own had has) ready = by_owner m giver own had (owns_now t m state new.mutexes has)
  why new task state _ _ (passed_back m answer giver own had has) ready = by_owner_back m answer giver own had (owns_now t m state new.mutexes has)
  why new task state _ _ (regained e m answer named has ends) ready = by_event e m answer (named_as (slice_get new.events e) m named) (owns_now t m state new.mutexes has) (event_ends e answer task ends)
  why new task state _ _ (overdue wait other come) ready = by_lateness wait new task state other (had_come c old.parts.ticks task come) ready
  why new task state _ _ (put hart call) ready = let a = tells 41 hart call in by_put a.0 hart a.1.0 a.1.1 (weakly state task.class ready)
  why new task state _ _ (line_put l s acts) ready = by_line_put l s (puts_as (slice_get new.actions l) s acts) (weakly state task.class ready)
  why new task state _ _ (posted hart word call had) ready = let a = tells 46 hart call in by_post a.0 hart word a.1.0 a.1.1 had (weakly state task.class ready)
  why new task state _ _ (line_posted l f word acts) ready = by_line_post l f word (posts_as (slice_get new.actions l) f acts) (weakly state task.class ready)
  why new task state _ _ (timer_due n timer due there) ready =
      let d = is_due c old.parts.ticks timer due in by_timer n timer d.0 d.1.0 d.1.1 there (weakly state task.class ready)

  -- .. whatever class a task was given
  from_asked : (tasks : List Task) (new : Parts) (task : Task) (state : TaskState) (wait : Wait) (answer : ℕ) → WokenBefore runs makes c t task state (record old.parts { tasks = tasks }) new wait answer → WokenBefore runs makes c t task state old.parts new wait answer
  from_asked tasks new task state _ _ (line l home) = line l home
  from_asked tasks new task state _ _ (passed m giver own had has) = passed m giver own had has
  from_asked tasks new task state _ _ (passed_back m answer giver own had has) = passed_back m answer giver own had has
  from_asked tasks new task state _ _ (regained e m answer named has ends) = regained e m answer named has ends
  from_asked tasks new task state _ _ (overdue wait other come) = overdue wait other come
  from_asked tasks new task state _ _ (put hart call) = put hart call
  from_asked tasks new task state _ _ (line_put l s acts) = line_put l s acts
  from_asked tasks new task state _ _ (posted hart word call had) = posted hart word call had
  from_asked tasks new task state _ _ (line_posted l f word acts) = line_posted l f word acts
  from_asked tasks new task state _ _ (timer_due n timer due there) = timer_due n timer due there

  wakes : (tasks : List Task) (new : Parts) (task : Task) (hart : Hart) → slice_get tasks t ≡ Some task → slice_get old.parts.harts t ≡ Some hart → WakesBefore runs makes c t (record old.parts { tasks = tasks }) new
      → WaitEnds runs c t old.memory old.parts new task hart
  wakes tasks new task hart there at w =
      let same : w.task ≡ task = same_task tasks t w.task task w.waited there in
      record {
        wait = w.wait;
        state = w.state;
        stamp = w.stamp;
        answer = w.answer;
        on = rw (← same) w.on;
        by = rw (← same) (why new w.task w.state w.wait w.answer (from_asked tasks new w.task w.state w.wait w.answer w.by) w.ready);
        later = w.fresh;
        task_is = rw (← same) w.wakes;
        hart_is = w.hart hart at;
      }

  waits_again : (tasks : List Task) (new : Parts) (task : Task) (hart : Hart) → slice_get tasks t ≡ Some task → slice_get old.parts.harts t ≡ Some hart → Requeues makes c t (record old.parts { tasks = tasks }) new
      → WaitsAgain runs c t old.memory old.parts new task hart
  waits_again tasks new task hart there at w =
      let same : w.task ≡ task = same_task tasks t w.task task w.waited there in
      record {
        event = w.event;
        mutex = w.mutex;
        stamp = w.stamp;
        answer = w.answer;
        on = rw (← same) w.on;
        named = named_as (slice_get new.events w.event) w.mutex w.named;
        ends = rw (← same) (event_ends w.event w.answer w.task w.ends);
        later = w.fresh;
        task_is = rw (← same) w.waits;
        hart_is = w.hart hart at;
      }

spends : (c t : ℕ) (old new : Parts) (task : Task) (hart : Hart) → slice_get old.tasks t ≡ Some task → slice_get old.harts t ≡ Some hart → Spends c t old new
    → SpendsSlice (current c old) t old.stamps new.tasks new.harts task hart
spends c t old new task hart there at q =
    let same : q.task ≡ task = same_task old.tasks t q.task task q.there there in
    record {
      slice = q.slice;
      stamp = q.stamp;
      is_current = q.runs;
      on = rw (← same) q.on;
      robin = rw (← same) q.robin;
      left = rw (← same) q.left;
      task_is = rw (← same) q.spends;
      hart_is = q.hart hart at;
    }

demotes : (c t : ℕ) (old new : Parts) (task : Task) (hart : Hart) → slice_get old.tasks t ≡ Some task → slice_get old.harts t ≡ Some hart → Overruns c t old new
    → IsSentInBand (current c old) c t old new task hart
demotes c t old new task hart there at q =
    let same : q.task ≡ task = same_task old.tasks t q.task task q.there there in
    record {
      slice = q.slice;
      stamp = q.stamp;
      watchdog = q.guarded;
      is_current = q.runs;
      home = rw (← same) q.home;
      on = rw (← same) q.on;
      spent = rw (← same) q.spent;
      later = q.fresh;
      task_is = rw (← same) q.goes;
      hart_is = q.hart hart at;
    }

-- ---- call 34
has_class : (class : Class) → is_class class ≡ true → class ≢ Unattached
has_class class h same = let no : is_class Unattached ≡ true = ap is_class (sym same) ∙ h in cc

record IsAsked (c t : ℕ) (old : Board) (asked : List Task) (task : Task) : Type 0 where
  given : Task
  is_given : (given ≡ task) ⊎ IsGivenPolicy (current c old.parts) t old.parts.tasks old.parts.harts old.memory task given
  there : slice_get asked t ≡ Some given

as_asked : (c t : ℕ) (old : Board) (asked : List Task) (task : Task) → slice_get old.parts.tasks t ≡ Some task → (asked ≡ old.parts.tasks) ⊎ Schedules c old asked → IsAsked c t old asked task
as_asked c t old asked task there (inl none) = record { given = task; is_given = inl refl; there = ap (λ (all : List Task). slice_get all t) none ∙ there }
as_asked c t old asked task there (inr s) =
    let change_to : Task → Task = λ task. record task { class = s.class; priority = argument 2 s.hart; slice = 4 } in
    elim (cases_eq t (argument 0 s.hart)) [
      | inl same ↦
          let live : is_scheduled_task (Some task) ≡ true = ap is_scheduled_task (sym there ∙ ap (slice_get old.parts.tasks) same) ∙ s.live in
          let b = both (is_live task.state) (is_class task.class) live in
          record {
            given = change_to task;
            is_given = inr (record {
              caller = s.makes.task;
              hart = s.hart;
              class = s.class;
              calls = about c 34 s.hart old s.makes;
              oob = s.on;
              number = s.makes.asks;
              names = sym same;
              live = b.0;
              attached = has_class task.class b.1;
              policy = s.policy;
              given_is = refl;
            });
            there = ap (slice_get asked) same ∙ s.tasks.here ∙ ap (option_map change_to) (ap (slice_get old.parts.tasks) (sym same) ∙ there);
          }
      | inr other ↦ record { given = task; is_given = inl refl; there = s.tasks.others t other ∙ there }
    ]

-- ---- each task but the current one
pub calls_of : (c : ℕ) (old : Board) (number : ℕ) (hart : Hart) → MakesCall c number hart old → IsAboutCall (current c old.parts) old number hart
calls_of c old number hart call = (call.task, (about c number hart old call, call.asks))

left : (c t : ℕ) (old : Board) (tasks : List Task) (new : Parts) (task : Task) (hart : Hart) → slice_get tasks t ≡ Some task → slice_get old.parts.harts t ≡ Some hart
    → Stays (current c old.parts) (λ number hart. MakesCall c number hart old) c t (record old.parts { tasks = tasks }) new
    → Stands t new.tasks new.harts task hart ⊎ WaitEnds (current c old.parts) c t old.memory old.parts new task hart ⊎ WaitsAgain (current c old.parts) c t old.memory old.parts new task hart
left c t old tasks new task hart there at (inl r) = inl (record { task_is = r.task task there; hart_is = r.hart hart at })
left c t old tasks new task hart there at (inr (inl w)) = inr (inl (wakes (current c old.parts) c t old (λ number hart. MakesCall c number hart old) (calls_of c old) tasks new task hart there at w))
left c t old tasks new task hart there at (inr (inr w)) = inr (inr (waits_again (current c old.parts) c t old (λ number hart. MakesCall c number hart old) (calls_of c old) tasks new task hart there at w))

pub tasks_of : (c : ℕ) (old new : Board) → StepChanges c old new → (t : ℕ) (task : Task) (hart : Hart) → current c old.parts ≢ Some t → slice_get old.parts.tasks t ≡ Some task → slice_get old.parts.harts t ≡ Some hart
    → (given : Task) × (((given ≡ task) ⊎ IsGivenPolicy (current c old.parts) t old.parts.tasks old.parts.harts old.memory task given)
    × (Stands t new.parts.tasks new.parts.harts given hart
    ⊎ WaitEnds (current c old.parts) c t old.memory old.parts new.parts given hart
    ⊎ WaitsAgain (current c old.parts) c t old.memory old.parts new.parts given hart))
tasks_of c old new b t task hart other there at =
    let a : IsAsked c t old b.asked task = as_asked c t old b.asked task there b.scheduled in
    (a.given, (a.is_given, left c t old b.asked new.parts a.given hart a.there at (b.others t other)))

-- ---- each task where a line is on the wire
own : (c t : ℕ) (old : Board) (new : Parts) (task : Task) (hart : Hart) → slice_get old.parts.tasks t ≡ Some task → slice_get old.parts.harts t ≡ Some hart → Stays None MakesNone c t old.parts new ⊎ (Spends c t old.parts new ⊎ Overruns c t old.parts new)
    → Stands t new.tasks new.harts task hart
    ⊎ WaitEnds None c t old.memory old.parts new task hart
    ⊎ WaitsAgain None c t old.memory old.parts new task hart
    ⊎ SpendsSlice (current c old.parts) t old.parts.stamps new.tasks new.harts task hart
    ⊎ IsSentInBand (current c old.parts) c t old.parts new task hart
own c t old new task hart there at (inl (inl r)) = inl (record { task_is = r.task task there; hart_is = r.hart hart at })
own c t old new task hart there at (inl (inr (inl w))) = inr (inl (wakes None c t old MakesNone (λ n h none. absurd none) old.parts.tasks new task hart there at w))
own c t old new task hart there at (inl (inr (inr w))) = inr (inr (inl (waits_again None c t old MakesNone (λ n h none. absurd none) old.parts.tasks new task hart there at w)))
own c t old new task hart there at (inr (inl q)) = inr (inr (inr (inl (spends c t old.parts new task hart there at q))))
own c t old new task hart there at (inr (inr q)) = inr (inr (inr (inr (demotes c t old.parts new task hart there at q))))

pub line_tasks_of : (c : ℕ) (old new : Board) → StepChanges c old new → (l t : ℕ) (pipe : Pipe) (task : Task) (hart : Hart) → slice_get old.parts.pipes c ≡ Some pipe → has_line pipe.wire l ≡ true
    → slice_get old.parts.tasks t ≡ Some task → slice_get old.parts.harts t ≡ Some hart
    → Stands t new.parts.tasks new.parts.harts task hart
    ⊎ WaitEnds None c t old.memory old.parts new.parts task hart
    ⊎ WaitsAgain None c t old.memory old.parts new.parts task hart
    ⊎ SpendsSlice (current c old.parts) t old.parts.stamps new.parts.tasks new.parts.harts task hart
    ⊎ IsSentInBand (current c old.parts) c t old.parts new.parts task hart
line_tasks_of c old new b l t pipe task hart there on is has = own c t old new.parts task hart is has ((b.hears (record { pipe = pipe; line = l; there = there; on = on })).1 t)

-- ---- mutexes
pub mutexes_of : (c : ℕ) (old new : Board) → StepChanges c old new → (m : ℕ) (before : Mutex) → slice_get old.parts.mutexes m ≡ Some before
    → (slice_get new.parts.mutexes m ≡ Some before) ⊎ IsAnothers (current c old.parts) m new.parts.mutexes before
mutexes_of c old new b m before there = elim (b.mutexes m before there) [
  | inl same ↦ inl same
  | inr g ↦ inr (record { after = g.after; there = g.there; kind = g.kind; whose = g.whose })
]

-- .. where a line is on the wire
pub line_mutexes_of : (old : Parts) (new : List Mutex) → MutexesTaken old new → (m : ℕ) (before : Mutex) → slice_get old.mutexes m ≡ Some before
    → (slice_get new m ≡ Some before) ⊎ IsReacquired m old.tasks new before
line_mutexes_of old new taken m before there = elim (taken m before there) [
  | inl same ↦ inl same
  | inr g ↦ inr (record { task = g.task; waiter = g.waiter; event = g.event; free = g.free; there = g.waited; waited = g.on; owned = g.there })
]
