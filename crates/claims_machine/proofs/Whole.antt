-- All that a Step changes, in the words of the claims.
use Rattle.std.proofs.Common.{ℕ, None, inl, inr, arith}
use Rattle.evm_model.specs.Rows.{step}
use Rattle.evm_model.specs.Settle.{current}
use Rattle.evm_model.specs.State.{Board}
use Rattle.law_runs.specs.Changes.{MakesCall, MakesNone, StepChanges}
use Rattle.law_runs.specs.Noticing.{same_notices, by_task, by_watchdog}
use Rattle.claims_machine.specs.Steps.{StepChangesOnly}
use Rattle.claims_machine.proofs.Named.{objects_of}
use Rattle.claims_machine.proofs.Noticed.{alarmed_of, noticed_of}
use Rattle.claims_machine.proofs.Stepped.{calls_of, tasks_of, line_tasks_of, mutexes_of, line_mutexes_of}
use Rattle.claims_machine.proofs.Touched.{devices_of, ram_of, written_of}

pub changes_only : (c : ℕ) (old new : Board) → StepChanges c old new → StepChangesOnly (current c old.parts) c old new
changes_only c old new b = record {
  ticks = b.ticks;
  stamps = b.stamps;
  breakpoints = b.breakpoints;
  processors = b.processors;
  line = b.line;
  devices = devices_of c (step c old).1 old new b.line b.memory;
  notices = elim b.notices [
    | same_notices same ↦ inl same
    | by_task g ↦ inr (inl (noticed_of c old (step c old).1 new.parts.notices g))
    | by_watchdog g ↦ inr (inr (alarmed_of c old new.parts.notices g))
  ];
  watches = b.watches;
  pipes = b.pipes;
  ram = ram_of c (step c old).1 old new b.line b.memory;
  written = written_of c (step c old).1 old new b.line b.memory;
  console = b.typed;
  tasks = tasks_of c old new b;
  line_memory = λ l pipe there on.
      let h = b.hears_nothing (record { pipe = pipe; line = l; there = there; on = on }) in (
        h.0,
        elim h.1 [
          | inl same ↦ inl same
          | inr g ↦ inr (alarmed_of c old new.parts.notices g)
        ],
      );
  line_tasks = line_tasks_of c old new b;
  counts = elim b.added [
    | inl same ↦ inl same
    | inr a ↦ inr (a.tasks, a.harts, a.room)
  ];
  new_task = λ more. elim b.added [
    | inl same ↦ absurd (omega (arith, more, same.0))
    | inr a ↦ record { cpu = a.cpu; stamp = a.stamp; entry = a.entry; value = a.value; task_is = a.task; hart_is = a.hart }
  ];
  mutexes = mutexes_of c old new b;
  new_mutex = elim b.made [
    | inl same ↦ inl same
    | inr g ↦ inr (record { recursive = g.recursive; protocol = g.protocol; one_more = g.count; few = g.room; free = g.mutex })
  ];
  line_mutexes = λ l m pipe before there on is. line_mutexes_of old.parts new.parts.mutexes (b.hears (record { pipe = pipe; line = l; there = there; on = on })).2.0 m before is;
  line_count = λ l pipe there on. (b.hears (record { pipe = pipe; line = l; there = there; on = on })).2.1;
  objects = objects_of (current c old.parts) c old new.parts (λ number hart. MakesCall c number hart old) (calls_of c old) b.objects;
  line_objects = λ l pipe there on. objects_of None c old new.parts MakesNone (λ n h none. absurd none) (b.hears_objects (record { pipe = pipe; line = l; there = there; on = on }));
}
