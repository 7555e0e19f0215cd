-- What a Step changes, while bits of processors change beside.
use Rattle.std.proofs.Common.{◌≡◌, ◌≢◌, ℕ, List, Option, Some, None, slice_get, inl, inr, refl, ap, ◌∙◌}
use Rattle.std.specs.Prelude.{option_map}
use Rattle.evm_exec.specs.declared.hart.Hart.{Hart}
use Rattle.evm_model.specs.Devices.{raise_line}
use Rattle.evm_model.specs.Pipes.{raise}
use Rattle.evm_model.specs.State.{Board, Memory, Parts}
use Rattle.evm_model.specs.declared.processor.Processor.{Processor}
use Rattle.evm_model.specs.declared.task.Task.{Task}
use Rattle.evm_model.specs.declared.task.TaskState.{TaskState}
use Rattle.evm_model.specs.declared.task.Wait.{Wait}
use Rattle.claims_machine.specs.Steps.{EventWaitEnds, by_signal, by_time, WaitsAgain, WaitEnds, WaitEndsBy, by_line, by_owner, by_owner_back, by_event, by_sleep, by_deadline, by_put, by_line_put, by_post, by_line_post, by_timer, IsSentInBand, StepChangesOnly, ObjectsChangeOnly}
use Rattle.claims_machine.proofs.Noticed.{alarmed_moved, noticed_moved}

-- ---- bits of processors are nothing that it speaks of
module _ (runs : Option ℕ) (c t : ℕ) (memory : Memory) (old new : Parts) (before after : List Processor) where
  abbrev old' : Parts
  old' = record old { processors = before }

  abbrev new' : Parts
  new' = record new { processors = after }

  moved_ends : (e answer : ℕ) (task : Task) → EventWaitEnds runs c e memory old task answer → EventWaitEnds runs c e memory old' task answer
  moved_ends e _ task (by_signal caller hart call number is) = by_signal caller hart call number is
  moved_ends e _ task (by_time come) = by_time come

  moved_why : (task : Task) (state : TaskState) (wait : Wait) (answer : ℕ) → WaitEndsBy runs c t memory old new task state wait answer → WaitEndsBy runs c t memory old' new' task state wait answer
  moved_why task state _ _ (by_line l home there) = by_line l home there
  moved_why task state _ _ (by_owner m giver own had has) = by_owner m giver own had has
  moved_why task state _ _ (by_owner_back m answer giver own had has) = by_owner_back m answer giver own had has
  moved_why task state _ _ (by_event e m answer named has ends) = by_event e m answer named has (moved_ends e answer task ends)
  moved_why task state _ _ (by_sleep come awake) = by_sleep come awake
  moved_why task state _ _ (by_deadline wait sleep event come awake) = by_deadline wait sleep event come awake
  moved_why task state _ _ (by_put caller hart call number awake) = by_put caller hart call number awake
  moved_why task state _ _ (by_line_put l s acts awake) = by_line_put l s acts awake
  moved_why task state _ _ (by_post caller hart word call number had awake) = by_post caller hart word call number had awake
  moved_why task state _ _ (by_line_post l f word acts awake) = by_line_post l f word acts awake
  moved_why task state _ _ (by_timer n timer set come home there awake) = by_timer n timer set come home there awake

  moved_wakes : (task : Task) (hart : Hart) → WaitEnds runs c t memory old new task hart → WaitEnds runs c t memory old' new' task hart
  moved_wakes task hart w = record {
    wait = w.wait;
    state = w.state;
    stamp = w.stamp;
    answer = w.answer;
    on = w.on;
    by = moved_why task w.state w.wait w.answer w.by;
    later = w.later;
    task_is = w.task_is;
    hart_is = w.hart_is;
  }

  moved_waits : (task : Task) (hart : Hart) → WaitsAgain runs c t memory old new task hart → WaitsAgain runs c t memory old' new' task hart
  moved_waits task hart w = record {
    event = w.event;
    mutex = w.mutex;
    stamp = w.stamp;
    answer = w.answer;
    on = w.on;
    named = w.named;
    ends = moved_ends w.event w.answer task w.ends;
    later = w.later;
    task_is = w.task_is;
    hart_is = w.hart_is;
  }

moved_demotes : (runs : Option ℕ) (c t : ℕ) (old new : Parts) (before after : List Processor) (task : Task) (hart : Hart) → IsSentInBand runs c t old new task hart
    → IsSentInBand runs c t (record old { processors = before }) (record new { processors = after }) task hart
moved_demotes runs c t old new before after task hart d = record {
  slice = d.slice;
  stamp = d.stamp;
  watchdog = d.watchdog;
  is_current = d.is_current;
  home = d.home;
  on = d.on;
  spent = d.spent;
  later = d.later;
  task_is = d.task_is;
  hart_is = d.hart_is;
}

moved_objects : (runs : Option ℕ) (c : ℕ) (memory : Memory) (old new : Parts) (before after : List Processor) → ObjectsChangeOnly runs c memory old new
    → ObjectsChangeOnly runs c memory (record old { processors = before }) (record new { processors = after })
moved_objects runs c memory old new before after o = record {
  semaphores = o.semaphores;
  flags = o.flags;
  events = o.events;
  timers = o.timers;
  actions = o.actions;
  new_semaphore = o.new_semaphore;
  new_flags = o.new_flags;
  new_event = o.new_event;
  new_timer = o.new_timer;
  new_action = o.new_action;
}

pub moved : (runs : Option ℕ) (c : ℕ) (x y : Board) (before after : List Processor) → ((d : ℕ) → d ≢ c → slice_get after d ≡ slice_get before d) → StepChangesOnly runs c x y
    → StepChangesOnly runs c (record x { parts = record x.parts { processors = before } }) (record y { parts = record y.parts { processors = after } })
moved runs c x y before after others s = record {
  ticks = s.ticks;
  stamps = s.stamps;
  breakpoints = s.breakpoints;
  processors = others;
  line = s.line;
  devices = s.devices;
  notices = elim s.notices [
    | inl same ↦ inl same
    | inr (inl n) ↦ inr (inl (noticed_moved x.parts before runs c x.memory y.parts.notices n))
    | inr (inr n) ↦ inr (inr (alarmed_moved x.parts before runs y.parts.notices n))
  ];
  watches = s.watches;
  pipes = λ d other. elim (s.pipes d other) [
    | inl same ↦ inl (same ∙ line_pipes s.line d)
    | inr raised ↦ inr (raised ∙ ap (option_map (raise 1)) (line_pipes s.line d))
  ];
  ram = s.ram;
  written = s.written;
  console = s.console;
  tasks = λ t task hart other there at.
      let g = s.tasks t task hart other there at in (
        g.0,
        (
          g.1.0,
          elim g.1.1 [
            | inl stands ↦ inl stands
            | inr (inl w) ↦ inr (inl (moved_wakes runs c t x.memory x.parts y.parts before after g.0 hart w))
            | inr (inr w) ↦ inr (inr (moved_waits runs c t x.memory x.parts y.parts before after g.0 hart w))
          ],
        ),
      );
  line_memory = λ l pipe there on.
      let m = s.line_memory l pipe there on in (
        m.0,
        elim m.1 [
          | inl same ↦ inl same
          | inr n ↦ inr (alarmed_moved x.parts before runs y.parts.notices n)
        ],
      );
  line_tasks = λ l t pipe task hart there on is at. elim (s.line_tasks l t pipe task hart there on is at) [
    | inl stands ↦ inl stands
    | inr (inl w) ↦ inr (inl (moved_wakes None c t x.memory x.parts y.parts before after task hart w))
    | inr (inr (inl w)) ↦ inr (inr (inl (moved_waits None c t x.memory x.parts y.parts before after task hart w)))
    | inr (inr (inr (inl q))) ↦ inr (inr (inr (inl q)))
    | inr (inr (inr (inr q))) ↦ inr (inr (inr (inr (moved_demotes runs c t x.parts y.parts before after task hart q))))
  ];
  counts = s.counts;
  new_task = s.new_task;
  mutexes = s.mutexes;
  new_mutex = s.new_mutex;
  line_mutexes = s.line_mutexes;
  line_count = s.line_count;
  objects = moved_objects runs c x.memory x.parts y.parts before after s.objects;
  line_objects = λ l pipe there on. moved_objects None c x.memory x.parts y.parts before after (s.line_objects l pipe there on);
}
  where
    line_pipes : (o : Option ℕ) (d : ℕ) → slice_get (raise_line o x.parts).pipes d ≡ slice_get (raise_line o (record x.parts { processors = before })).pipes d
    line_pipes None d = refl
    line_pipes (Some l) d = refl
