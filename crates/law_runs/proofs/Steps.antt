-- What a step changes.
use Rattle.std.proofs.Common.{◌≡◌, ℕ, ◌+◌, ◌<◌, ◌≤◌, List, [], ◌∷◌, Bool, true, false, not, Option, Some, None, length, ◌⊎◌, inl, inr, refl, ap, sym, ◌∙◌, subst, arith}
use Rattle.std.specs.Prelude.{slice_get, option_map, is_none, ◌==◌, if◌then◌else◌}
use Rattle.std.proofs.lemmas.Bool.Decides.{nat_tests}
use Rattle.evm_lines.specs.Lines.{has_line, least_line}
use Rattle.evm_exec.specs.declared.hart.Hart.{Hart}
use Rattle.evm_model.specs.Devices.{raise_line}
use Rattle.evm_model.specs.Good.{Good, is_ready, is_waiting}
use Rattle.evm_model.specs.Memory.{fetch}
use Rattle.evm_model.specs.Pipes.{Pipe, raise}
use Rattle.evm_model.specs.Rows.{step}
use Rattle.evm_model.specs.Settle.{current, current_of, nudge, nudge_pipe, wants_nudge}
use Rattle.evm_model.specs.State.{Board, Memory, Parts}
use Rattle.evm_model.specs.declared.limits.TheConstants.{DEVICE_LIMIT, DEVICE_LINE, SLICE}
use Rattle.evm_model.specs.declared.mutex.Mutex.{Mutex}
use Rattle.evm_model.specs.declared.processor.Processor.{Processor}
use Rattle.evm_model.specs.declared.task.Task.{Task}
use Rattle.evm_model.specs.declared.task.TaskState.{TaskState}
use Rattle.evm_model.specs.declared.task.TaskState.TheVariants.{InReady, OobReady}
use Rattle.evm_model.proofs.Lists.{slice_get-below, slice_get-each, slice_get-within}
use Rattle.law_rules.proofs.NoticeWalks.{one_more, walk_notes}
use Rattle.law_rules.proofs.RowWalks.{STEP_MOVES, STEP_STAMPS, word_calls, MaySteps, steps, stepped_walk}
use Rattle.law_rules.proofs.Sizes.{walk_least}
use Rattle.law_rules.proofs.Walk.{Actor, IsCalm, Makes, unchanged, Walk, start}
use Rattle.law_rules.proofs.States.{calm-of}
use Rattle.law_runs.specs.Balance.{line_of_step}
use Rattle.law_runs.specs.Changes.{MakesCall, MakesNone, Stays, Spends, Overruns, MutexesStay, MutexesTaken, ObjectsChange, Schedules, Hears, StepChanges}
use Rattle.law_runs.proofs.Added.{walk_added, walk_made, walk_typed, walk_processors, walk_watches}
use Rattle.law_runs.proofs.Counts.{settled_others, step_ticks}
use Rattle.law_runs.proofs.Alarms.{step_notices}
use Rattle.law_runs.proofs.Executing.{StepParts, step_parts}
use Rattle.law_runs.proofs.Received.{hears, received_rests}
use Rattle.law_runs.proofs.Fares.{one_change, ends_wider, Fares, still, still_by}
use Rattle.law_runs.proofs.Frames.{Asked, Frame, walk_frame}
use Rattle.law_runs.proofs.Named.{AreNamed, named_good}
use Rattle.law_runs.proofs.Taken.{walk_taken}
use Rattle.law_runs.proofs.Objects.{objects_wider, walk_objects}
use Rattle.law_runs.proofs.Instructions.{Calls, called, step_writes}

-- ---- the others are told
told_if : (own wants : Bool) (p : Pipe) → (Some (if own then p else (if wants then raise 1 p else p)) ≡ Some p) ⊎ (Some (if own then p else (if wants then raise 1 p else p)) ≡ Some (raise 1 p))
told_if true wants p = inl refl
told_if false true p = inr refl
told_if false false p = inl refl

told : (c d : ℕ) (k : Parts) (o : Option Pipe) → (option_map (nudge_pipe c k d) o ≡ o) ⊎ (option_map (nudge_pipe c k d) o ≡ option_map (raise 1) o)
told c d k None = inl refl
told c d k (Some p) = told_if (d == c) (wants_nudge d p k) p

nudged : (c d : ℕ) (k : Parts) → (slice_get (nudge c k).pipes d ≡ slice_get k.pipes d) ⊎ (slice_get (nudge c k).pipes d ≡ option_map (raise 1) (slice_get k.pipes d))
unfolding nudge
nudged c d k = elim (told c d k (slice_get k.pipes d)) [
  | inl same ↦ inl (slice_get-each (nudge_pipe c k) k.pipes d ∙ same)
  | inr raised ↦ inr (slice_get-each (nudge_pipe c k) k.pipes d ∙ raised)
]

-- ---- who acts in a step
abbrev pub hart_calls : Option Hart → Memory → Bool
hart_calls None m = false
hart_calls (Some x) m = word_calls (fetch x.pc m) x

abbrev pub task_calls : Option ℕ → Board → Bool
task_calls None b = false
task_calls (Some t) b = hart_calls (slice_get b.parts.harts t) b.memory

no_line : (wire : List ℕ) (l : ℕ) → not (is_none (least_line wire)) ≡ false → has_line wire l ≡ true → ⊥
no_line [] l e h = cc
no_line (x ∷ xs) l e h = cc

deaf : (c : ℕ) (k : Parts) → hears (slice_get k.pipes c) ≡ false → Hears c k → ⊥
deaf c k e h = no_line h.pipe.wire h.line (sym (ap hears h.there) ∙ e) h.on

-- .. if one is
heard_if : (wire : List ℕ) (l : ℕ) → has_line wire l ≡ true → not (is_none (least_line wire)) ≡ true
heard_if [] l h = cc
heard_if (x ∷ xs) l h = refl

loud : (c : ℕ) (k : Parts) → Hears c k → hears (slice_get k.pipes c) ≡ true
loud c k h = ap hears h.there ∙ heard_if h.pipe.wire h.line h.on

not_heard : (pipe : Pipe) (o : Option Pipe) → o ≡ Some pipe → hears o ≡ true → least_line pipe.wire ≡ None → ⊥
not_heard pipe o e h w = let no : false ≡ true = sym (ap (λ (x : Option ℕ). not (is_none x)) w) ∙ sym (ap hears e) ∙ h in cc

abbrev actor : ℕ → Option ℕ → Bool → Actor
actor c o calls = record { cpu = c; task = o; may = λ d l. not (l == 0); chooses = true; calls = calls; faults = true }

-- a device's line is another than the timer's
touches : (l : ℕ) → DEVICE_LINE ≤ l → not (l == 0) ≡ true
touches l least = let other : (l == 0) ≡ false = grind (arith, nat_tests) in rw other refl

-- where the current task doesn't wait, the mutexes of events for which tasks wait are there, and the out-of-band log is played
pub record MayStep (c : ℕ) (k : Parts) : Type 0 where
  pub runs : (t : ℕ) (x : Task) → current c k ≡ Some t → slice_get k.tasks t ≡ Some x → is_waiting x.state ≡ false
  pub named : AreNamed (length k.mutexes) k.events k.tasks
  pub calm : IsCalm c k

ready_waits : (state : TaskState) → is_ready state ≡ true → is_waiting state ≡ false
ready_waits InReady e = refl
ready_waits OobReady e = refl
ready_waits _ e = cc

-- .. as the rules say
runs_of : (c : ℕ) (k : Parts) → Good k → (o : Option Processor) (q : Option Pipe) → slice_get k.processors c ≡ o → slice_get k.pipes c ≡ q → (t : ℕ) (x : Task) → current_of o ≡ Some t → slice_get k.tasks t ≡ Some x → is_waiting x.state ≡ false
runs_of c k g None q e f t x now there = cc
runs_of c k g (Some p) None e f t x now there =
    let below : c < length k.pipes = omega (arith, slice_get-below k.processors c p e, g.pipes_count) in
    let w = slice_get-within k.pipes c below in
    let no : None ≡ Some w.0 = sym f ∙ w.1 in cc
runs_of c k g (Some p) (Some pipe) e f t x now there =
    let own = (g.settled c pipe p f e).current_own t now in
    let two : Some own.task ≡ Some x = sym own.there ∙ there in
    let same : own.task ≡ x = cc in
    rw (← same) (ready_waits own.task.state own.ready)

pub may_step : (c : ℕ) (k : Parts) → Good k → MayStep c k
may_step c k g = record {
  runs = λ t x now there. runs_of c k g (slice_get k.processors c) (slice_get k.pipes c) refl refl t x now there;
  named = named_good k.events k g.events;
  calm = calm-of c k g;
}

-- where more may act and call
stays_wider : (acts other : Option ℕ) (makes others : ℕ → Hart → Type 0) (c t : ℕ) (x y : Parts) → ((g : ℕ) → acts ≡ Some g → other ≡ Some g) → ((n : ℕ) (h : Hart) → makes n h → others n h)
    → Stays acts makes c t x y → Stays other others c t x y
stays_wider acts other makes others c t x y act make (inl r) = inl r
stays_wider acts other makes others c t x y act make (inr (inl w)) = inr (inl (record {
  task = w.task;
  wait = w.wait;
  state = w.state;
  stamp = w.stamp;
  answer = w.answer;
  waited = w.waited;
  on = w.on;
  by = still_by acts other makes others c t w.task w.state x y y act make (λ m z o e. e) (still c x.ticks y y refl refl refl) w.wait w.answer w.by;
  ready = w.ready;
  fresh = w.fresh;
  wakes = w.wakes;
  hart = w.hart;
}))
stays_wider acts other makes others c t x y act make (inr (inr q)) = inr (inr (record {
  task = q.task;
  event = q.event;
  mutex = q.mutex;
  stamp = q.stamp;
  answer = q.answer;
  waited = q.waited;
  on = q.on;
  named = q.named;
  ends = ends_wider makes others c x.ticks q.event q.answer q.task make q.ends;
  fresh = q.fresh;
  waits = q.waits;
  hart = q.hart;
}))

module _ (c : ℕ) (b : Board) where
  abbrev new : Board
  new = (step c b).0

  abbrev p : StepParts c b (step c b)
  p = step_parts c b

  abbrev line : Option ℕ
  line = line_of_step (step c b).1 b

  other_pipes : (d : ℕ) → (d ≡ c → ⊥)
      → (slice_get new.parts.pipes d ≡ slice_get (raise_line line b.parts).pipes d) ⊎ (slice_get new.parts.pipes d ≡ option_map (raise 1) (slice_get (raise_line line b.parts).pipes d))
  other_pipes d other =
      let settled : slice_get p.settled.pipes d ≡ slice_get (raise_line line b.parts).pipes d = settled_others c b d other in
      elim p.told [
        | inl same ↦ inl (ap (λ (k : Parts). slice_get k.pipes d) same ∙ settled)
        | inr nudges ↦ elim (nudged c d p.settled) [
          | inl same ↦ inl (ap (λ (k : Parts). slice_get k.pipes d) nudges ∙ same ∙ settled)
          | inr raised ↦ inr (ap (λ (k : Parts). slice_get k.pipes d) nudges ∙ raised ∙ ap (option_map (raise 1)) settled)
        ]
      ]

  -- ---- who acts
  module _ (o : Option ℕ) (calls : Bool) (m : MaySteps (actor c o calls) b) where
    walk : Walk (actor c o calls) b.parts (STEP_MOVES + 1) STEP_STAMPS new.parts
    walk = stepped_walk (actor c o calls) b.parts new.parts (λ d. refl) (steps (actor c o calls) b.parts b m (unchanged b.parts) refl refl start)

    objects_of : ObjectsChange (Makes (actor c o calls) b.parts) c b.parts new.parts
    objects_of = walk_objects (actor c o calls) b.parts (STEP_MOVES + 1) STEP_STAMPS new.parts refl walk

    framed : MayStep c b.parts → Frame (actor c o calls) b.parts new.parts
    framed fit = walk_frame (actor c o calls) b.parts (record { runs = fit.runs; named = fit.named; clock = refl }) (STEP_MOVES + 1) STEP_STAMPS new.parts walk

    noted : MayStep c b.parts → new.parts.notices.total ≤ b.parts.notices.total + 1
    noted fit = one_more (actor c o calls) b.parts new.parts.notices (walk_notes (actor c o calls) b.parts (λ chooses. fit.calm) (STEP_MOVES + 1) STEP_STAMPS new.parts walk)

    changes : MayStep c b.parts → (f : Frame (actor c o calls) b.parts new.parts) → (f.asked ≡ b.parts.tasks) ⊎ Schedules c b f.asked
        → ((t : ℕ) → (current c b.parts ≡ Some t → ⊥) → Stays (current c b.parts) (λ number hart. MakesCall c number hart b) c t (record b.parts { tasks = f.asked }) new.parts) → MutexesStay (current c b.parts) b.parts.mutexes new.parts.mutexes
        → (Hears c b.parts → (f.asked ≡ b.parts.tasks) × ((t : ℕ) → Stays None MakesNone c t b.parts new.parts ⊎ (Spends c t b.parts new.parts ⊎ Overruns c t b.parts new.parts)) × (MutexesTaken b.parts new.parts.mutexes × (length new.parts.mutexes ≡ length b.parts.mutexes)))
        → ObjectsChange (λ number hart. MakesCall c number hart b) c b.parts new.parts → (Hears c b.parts → ObjectsChange MakesNone c b.parts new.parts) → StepChanges c b new
    changes fit f scheduled others mutexes hears objects hears_objects = record {
      line = line;
      notices = step_notices c b (noted fit);
      asked = f.asked;
      scheduled = scheduled;
      breakpoints = (step_writes c b).breakpoints;
      memory = (step_writes c b).memory;
      ticks = step_ticks c b;
      stamps = walk_least (actor c o calls) b.parts (STEP_MOVES + 1) STEP_STAMPS new.parts walk;
      processors = λ d other. walk_processors (actor c o calls) b.parts d other (STEP_MOVES + 1) STEP_STAMPS new.parts walk;
      watches = λ d other. walk_watches (actor c o calls) b.parts d other (STEP_MOVES + 1) STEP_STAMPS new.parts walk;
      pipes = other_pipes;
      others = others;
      mutexes = mutexes;
      hears_nothing = λ line. received_rests c b (loud c b.parts line) (noted fit);
      hears = hears;
      objects = objects;
      hears_objects = hears_objects;
      added = walk_added (actor c o calls) b.parts (STEP_MOVES + 1) STEP_STAMPS new.parts walk;
      made = walk_made (actor c o calls) b.parts (STEP_MOVES + 1) STEP_STAMPS new.parts fit.named walk;
      typed = walk_typed (actor c o calls) b.parts (STEP_MOVES + 1) STEP_STAMPS new.parts walk;
    }

  -- ---- a line is on the wire: no task acts
  whose_wider : (o found : Option ℕ) → (found ≡ None) ⊎ (found ≡ None) → (found ≡ None) ⊎ (found ≡ o)
  whose_wider o found (inl none) = inl none
  whose_wider o found (inr none) = inl none

  mutexes_wider : (o : Option ℕ) (x y : List Mutex) → MutexesStay None x y → MutexesStay o x y
  mutexes_wider o x y s m before e = elim (s m before e) [
    | inl same ↦ inl same
    | inr g ↦ inr (record { after = g.after; there = g.there; kind = g.kind; whose = whose_wider o before.owner g.whose })
  ]

  unasked : (f : Frame (actor c None true) b.parts new.parts) → f.asked ≡ b.parts.tasks
  unasked f = elim f.scheduled [
    | inl same ↦ same
    | inr q ↦ let no = q.asks.makes.acts in cc
  ]

  -- no task acts, so none makes a call
  none_calls : (n : ℕ) (h : Hart) → Makes (actor c None true) b.parts n h → MakesNone n h
  none_calls n h call = let no = call.acts in cc

  stays : (t : ℕ) (x y : Parts) → (current c b.parts ≡ Some t → ⊥) → current c x ≡ current c b.parts → Stays None (Makes (actor c None true) b.parts) c t x y ⊎ (Spends c t x y ⊎ Overruns c t x y)
      → Stays (current c b.parts) (λ number hart. MakesCall c number hart b) c t x y
  stays t x y away same (inl p) = stays_wider None (current c b.parts) (Makes (actor c None true) b.parts) (λ number hart. MakesCall c number hart b) c t x y (λ g e. cc) (λ n h call. absurd (none_calls n h call)) p
  stays t x y away same (inr (inl q)) = absurd (away (sym same ∙ q.runs))
  stays t x y away same (inr (inr q)) = absurd (away (sym same ∙ q.runs))

  silent : (t : ℕ) → Fares (actor c None true) (Makes (actor c None true) b.parts) t b.parts new.parts → Stays None MakesNone c t b.parts new.parts ⊎ (Spends c t b.parts new.parts ⊎ Overruns c t b.parts new.parts)
  silent t (inl p) = inl (stays_wider None None (Makes (actor c None true) b.parts) MakesNone c t b.parts new.parts (λ g e. e) none_calls p)
  silent t (inr q) = inr q

  acts_none : length b.memory.devices ≤ DEVICE_LIMIT → hears (slice_get b.parts.pipes c) ≡ true → MaySteps (actor c None true) b
  acts_none few e = record {
    chooses = refl;
    faults = refl;
    acts = λ pipe there wire. absurd (not_heard pipe (slice_get b.parts.pipes c) there e wire);
    calls = λ t x now has word. refl;
    devices = few;
    touches = λ t x now has l least e. touches l least;
  }

  heard : length b.memory.devices ≤ DEVICE_LIMIT → MayStep c b.parts → hears (slice_get b.parts.pipes c) ≡ true → StepChanges c b new
  heard few fit e =
      let m : MaySteps (actor c None true) b = acts_none few e in
      let f : Frame (actor c None true) b.parts new.parts = framed None true m fit in
      changes None true m fit f (inl (unasked f))
      (λ t away. stays t (record b.parts { tasks = f.asked }) new.parts away refl (f.others t (λ h. cc)))
      (mutexes_wider (current c b.parts) b.parts.mutexes new.parts.mutexes f.mutexes)
      (λ line. (
        unasked f,
        (λ t. silent t (subst (λ (all : List Task). Fares (actor c None true) (Makes (actor c None true) b.parts) t (record b.parts { tasks = all }) new.parts) (unasked f) (f.others t (λ h. cc)))),
        walk_taken (actor c None true) b.parts (record { runs = fit.runs; named = fit.named; clock = refl }) (STEP_MOVES + 1) STEP_STAMPS new.parts refl (walk None true m),
      ))
      (objects_wider (Makes (actor c None true) b.parts) (λ number hart. MakesCall c number hart b) c b.parts new.parts (λ n h call. absurd (none_calls n h call)) (objects_of None true m))
      (λ line. objects_wider (Makes (actor c None true) b.parts) MakesNone c b.parts new.parts none_calls (objects_of None true m))

  -- ---- none is: the current task acts
  asked_call : (x : Hart) (t : ℕ) → current c b.parts ≡ Some t → slice_get b.parts.harts t ≡ Some x → task_calls (current c b.parts) b ≡ true → Calls x b.memory
  asked_call x t now has e = called x b.memory (sym (ap (λ (o : Option Hart). hart_calls o b.memory) has) ∙ sym (ap (λ (o : Option ℕ). task_calls o b) now) ∙ e)

  makes_call : (n : ℕ) (x : Hart) → Makes (actor c (current c b.parts) (task_calls (current c b.parts) b)) b.parts n x → MakesCall c n x b
  makes_call n x k =
      let q = asked_call x k.task k.acts k.has k.calls in
      record { task = k.task; word = q.word; inst = q.inst; runs = k.acts; has = k.has; fetched = q.fetched; decodes = q.decodes; calls = q.calls; asks = k.asks }

  scheduled : (asked : List Task) → Asked (actor c (current c b.parts) (task_calls (current c b.parts) b)) b.parts asked → Schedules c b asked
  unfolding makes_call
  scheduled asked q =
      let k = q.asks in
      record {
        hart = k.hart;
        class = q.class;
        makes = makes_call 34 k.hart k.makes;
        on = k.on;
        live = rw (← k.names) k.live;
        policy = rw (← k.asks) k.policy;
        tasks = rw (q.tasks, ← k.names, ← k.asks) (one_change q.names (λ task. record task { class = q.class; priority = q.priority; slice = SLICE }) b.parts.tasks);
      }

  acts_current : length b.memory.devices ≤ DEVICE_LIMIT → MaySteps (actor c (current c b.parts) (task_calls (current c b.parts) b)) b
  acts_current few = record {
    chooses = refl;
    faults = refl;
    acts = λ pipe there wire. refl;
    calls = λ t x now has word. ap (λ (o : Option ℕ). task_calls o b) now ∙ ap (λ (o : Option Hart). hart_calls o b.memory) has ∙ word;
    devices = few;
    touches = λ t x now has l least e. touches l least;
  }

  unheard : length b.memory.devices ≤ DEVICE_LIMIT → MayStep c b.parts → hears (slice_get b.parts.pipes c) ≡ false → StepChanges c b new
  unheard few fit e =
      let o : Option ℕ = current c b.parts in
      let calls : Bool = task_calls o b in
      let m : MaySteps (actor c o calls) b = acts_current few in
      let f : Frame (actor c o calls) b.parts new.parts = framed o calls m fit in
      changes o calls m fit f
      (elim f.scheduled [
        | inl same ↦ inl same
        | inr q ↦ inr (scheduled f.asked q)
      ])
      (λ t away. elim (f.others t away) [
        | inl p ↦ stays_wider o o (Makes (actor c o calls) b.parts) (λ number hart. MakesCall c number hart b) c t (record b.parts { tasks = f.asked }) new.parts (λ g e. e) makes_call p
        | inr (inl q) ↦ absurd (away q.runs)
        | inr (inr q) ↦ absurd (away q.runs)
      ])
      f.mutexes (λ line. absurd (deaf c b.parts e line))
      (objects_wider (Makes (actor c o calls) b.parts) (λ number hart. MakesCall c number hart b) c b.parts new.parts makes_call (objects_of o calls m)) (λ line. absurd (deaf c b.parts e line))

  step_if : (line : Bool) → length b.memory.devices ≤ DEVICE_LIMIT → hears (slice_get b.parts.pipes c) ≡ line → MayStep c b.parts → StepChanges c b new
  step_if true few e fit = heard few fit e
  step_if false few e fit = unheard few fit e

  pub step_done : length b.memory.devices ≤ DEVICE_LIMIT → MayStep c b.parts → StepChanges c b new
  step_done few fit = step_if (hears (slice_get b.parts.pipes c)) few refl fit
