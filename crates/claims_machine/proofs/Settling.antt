-- What holds of tasks after a step and its settling: those that wait, and those that wait without a deadline.
use Rattle.std.proofs.Common.{◌≡◌, ℕ, suc, ◌≤◌, List, [], ◌∷◌, Bool, true, false, not, ◌&&◌, Option, Some, None, ◌⊎◌, inl, inr, refl, ap, sym, ◌∙◌, arith}
use Rattle.std.specs.Prelude.{slice_get, option_map, length, if◌then◌else◌}
use Rattle.std.proofs.lemmas.Bool.{cases_eq}
use Rattle.evm_exec.specs.declared.hart.Hart.{Hart}
use Rattle.evm_lines.specs.Lines.{least_line}
use Rattle.evm_model.proofs.Lists.{change-here, slice_get-within, slice_get-below}
use Rattle.evm_model.specs.Actions.{receive_line}
use Rattle.evm_model.specs.Commands.{is_set, on_number, set_bits, set_breakpoint, tick, unset_breakpoint}
use Rattle.evm_model.specs.Devices.{Attached, line_if, raise_by_ticks, raise_line, tick_devices}
use Rattle.evm_dev.specs.Rows.{ticked}
use Rattle.evm_model.specs.Event.{Event}
use Rattle.evm_model.specs.Good.{Good, GoodState, IsOwn, is_ready, is_waiting}
use Rattle.evm_model.specs.Harts.{set_pc, set_register}
use Rattle.evm_model.specs.Instructions.{execute, stop}
use Rattle.evm_model.specs.Pipes.{Pipe}
use Rattle.evm_model.specs.Refusals.{board_refusal, is_full}
use Rattle.evm_model.specs.Replay.{apply, apply_unless, left_by, replay}
use Rattle.evm_model.specs.Rows.{row, run, single_step, step_hart, step_current, step_wire, step_pipe, step_processor, step}
use Rattle.evm_model.specs.Settle.{current, current_of, settle_and_nudge}
use Rattle.evm_model.specs.State.{Board, Parts, State, on_parts, on_processor}
use Rattle.evm_model.specs.declared.event.Answer.{Answer}
use Rattle.evm_model.specs.declared.event.Answer.TheVariants.{Stopped}
use Rattle.evm_model.specs.declared.event.Event.TheVariants.{Step, Tick, Raise, Bell, Stop, Go, StepI, SetReg, SetPc, Poke, Break, Unbreak}
use Rattle.evm_model.specs.declared.limits.TheConstants.{DEVICE_LIMIT}
use Rattle.evm_model.specs.declared.processor.Processor.{Processor}
use Rattle.evm_model.specs.declared.refusal.Refusal.{Refusal}
use Rattle.evm_model.specs.declared.refusal.Refusal.TheVariants.{Full}
use Rattle.evm_model.specs.declared.task.Task.{Task}
use Rattle.evm_model.specs.declared.task.TaskState.{TaskState}
use Rattle.evm_model.specs.declared.task.TaskState.TheVariants.{Waits}
use Rattle.evm_model.specs.declared.task.Wait.{Wait}
use Rattle.law_rules.proofs.RowWalks.{acting, executes, row_walks}
use Rattle.law_rules.proofs.Sizes.{walk_least}
use Rattle.law_rules.proofs.Walk.{Actor, Walk, start, unchanged}
use Rattle.law_rules.proofs.Keeps.{passed-current}
use Rattle.law_runs.proofs.Executing.{walk_current}
use Rattle.claims_machine.proofs.Asking.{settler, settles_only}
use Rattle.claims_machine.proofs.Beginning.{Begun, IsBegun, endless, executed_begun, ready_begun, rests}
use Rattle.claims_machine.proofs.Lasting.{Holds, Lasts, walk_holds}

-- ---- an instruction
abbrev doer : ℕ → ℕ → Actor
doer c t = record { cpu = c; task = Some t; may = λ d l. true; chooses = false; calls = true; faults = true }

done : (c t : ℕ) (x : Hart) (b : Board) → length b.memory.devices ≤ DEVICE_LIMIT → Walk (doer c t) b.parts 1 65 (execute x c t b).parts
done c t x b few = executes (doer c t) b.parts t refl refl b (unchanged b.parts) start x few (λ e. refl) (λ l h e. refl)

executed_current : (c t : ℕ) (x : Hart) (b : Board) → length b.memory.devices ≤ DEVICE_LIMIT → current c (execute x c t b).parts ≡ current c b.parts
executed_current c t x b few = walk_current (doer c t) b.parts c refl 1 65 (execute x c t b).parts (done c t x b few)

-- ---- settling
module _ (least t : ℕ) where
  abbrev Its : ℕ → Task → Type 0
  Its u y = u ≡ t → IsBegun least y

  -- with a stamp from the least on still
  from_least : (x y : Task) → (y.stamp ≡ x.stamp) ⊎ (least ≤ y.stamp) → least ≤ x.stamp → least ≤ y.stamp
  from_least x y (inl same) low = omega (arith, same, low)
  from_least x y (inr fresh) low = fresh

  its_last : (c : ℕ) → Lasts Its (settler c) least
  its_last c = record {
    own = λ u y acts. cc;
    ready = λ u y e same. ready_begun least y e;
    again = λ u y none low same w. (low, λ e. none);
    rests = λ u x y state deadline stamp q same w.
        let was = q same (ap is_waiting (sym state) ∙ w) in (from_least x y stamp was.0, λ e. deadline ∙ was.1 (ap endless (sym state) ∙ e));
  }

  settles_begun : (c : ℕ) (was : Option ℕ) (k : Parts) → current c k ≡ was → least ≤ k.stamps → Begun least t k → Begun least t (settle_and_nudge was c k)
  settles_begun c was k runs low b after there = walk_holds Its (settler c) k least (its_last c) _ _ _ low (settles_only c was k runs) (λ u y e same. b y (ap (slice_get k.tasks) (sym same) ∙ e)) t after there refl

-- ---- a step of the processor whose current task is t, which is ready
module _ (c t : ℕ) (b : Board) (runs : current c b.parts ≡ Some t) (task : Task) (there : slice_get b.parts.tasks t ≡ Some task) (ready : is_ready task.state ≡ true) (few : length b.memory.devices ≤ DEVICE_LIMIT) where
  abbrev Kept : Board → Type 0
  Kept x = Begun b.parts.stamps t x.parts

  as_it_was : Begun b.parts.stamps t b.parts
  as_it_was = rests c t b.parts task there ready

  runs_it : (x : Hart) → slice_get b.parts.harts t ≡ Some x → Kept (run x c t b).0
  runs_it x has =
      let passed : Board = on_parts (on_processor c (λ (p : Processor). record p { skip = false })) b in
      let did : Parts = (execute x c t passed).parts in
      settles_begun b.parts.stamps t c (Some t) did (executed_current c t x passed few ∙ passed-current c b.parts ∙ runs) (walk_least (doer c t) passed.parts 1 65 did (done c t x passed few)) (executed_begun c t passed task there ready x has)

  stops_or : (hit : Bool) (x y : Board × Answer) → Kept x.0 → Kept y.0 → Kept (if hit then x else y).0
  stops_or true x y p q = p
  stops_or false x y p q = q

  halted : Kept (on_parts (stop c) b)
  unfolding stop
  halted = as_it_was

  hart_steps : (o : Option Hart) (p : Processor) → slice_get b.parts.harts t ≡ o → Kept (step_hart o p c t b).0
  hart_steps None p has = as_it_was
  hart_steps (Some x) p has = stops_or (is_set b.breakpoints x.pc && not p.skip) _ (run x c t b) halted (runs_it x has)

  current_steps : (o : Option ℕ) (p : Processor) → current c b.parts ≡ o → Kept (step_current o p c b).0
  current_steps None p now = cc
  current_steps (Some u) p now = let same : t ≡ u = cc in rw (← same) (hart_steps (slice_get b.parts.harts t) p refl)

  wire_steps : (o : Option ℕ) (p : Processor) → current c b.parts ≡ p.current → Kept (step_wire o p c b).0
  unfolding receive_line
  wire_steps None p now = current_steps p.current p now
  wire_steps (Some l) p now = settles_begun b.parts.stamps t c p.current (receive_line c l b.parts) now (omega arith) as_it_was

  pipe_steps : (o : Option Pipe) (p : Processor) → current c b.parts ≡ p.current → Kept (step_pipe o p c b).0
  pipe_steps None p now = as_it_was
  pipe_steps (Some pipe) p now = wire_steps (least_line pipe.wire) p now

  processor_steps : (o : Option Processor) → slice_get b.parts.processors c ≡ o → Kept (step_processor o c b).0
  processor_steps None at = as_it_was
  processor_steps (Some p) at = stops_or p.stopped (b, Stopped) _ as_it_was (pipe_steps (slice_get b.parts.pipes c) p (ap current_of at))

  pub step_begun : Begun b.parts.stamps t (step c b).0.parts
  unfolding step
  step_begun = processor_steps (slice_get b.parts.processors c) refl

-- .. of a single step
same_bits : (stopped skip : Bool) (o : Option Processor) → current_of (option_map (λ (p : Processor). record p { stopped = stopped; skip = skip }) o) ≡ current_of o
same_bits stopped skip None = refl
same_bits stopped skip (Some p) = refl

bits_current : (c : ℕ) (stopped skip : Bool) (k : Parts) → current c (set_bits stopped skip c k) ≡ current c k
unfolding set_bits
bits_current c stopped skip k = ap current_of (change-here (λ (p : Processor). record p { stopped = stopped; skip = skip }) k.processors c) ∙ same_bits stopped skip (slice_get k.processors c)

pub single_begun : (c t : ℕ) (b : Board) → current c b.parts ≡ Some t → (task : Task) → slice_get b.parts.tasks t ≡ Some task → is_ready task.state ≡ true → length b.memory.devices ≤ DEVICE_LIMIT → Begun b.parts.stamps t (single_step c b).parts
unfolding single_step set_bits
single_begun c t b runs task there ready few = step_begun c t (on_parts (set_bits false true c) b) (bits_current c false true b.parts ∙ runs) task there ready few

-- ---- the task that is current is ready
pub current_ready : (c t : ℕ) (k : Parts) → Good k → current c k ≡ Some t → IsOwn c t k.tasks
current_ready c t k good runs = of (slice_get k.processors c) refl runs
  where
    of : (o : Option Processor) → slice_get k.processors c ≡ o → current_of o ≡ Some t → IsOwn c t k.tasks
    of None at e = cc
    of (Some p) at e =
        let pipe = slice_get-within k.pipes c (omega (arith, good.pipes_count, slice_get-below k.processors c p at)) in
        (good.settled c pipe.0 p pipe.1 at).current_own t e

-- ---- waits without a deadline, after every event
abbrev pub AreEndless : List Task → Type 0
AreEndless tasks = (u : ℕ) (y : Task) → slice_get tasks u ≡ Some y → endless y.state ≡ true → y.deadline ≡ 0

abbrev Others : Actor → ℕ → Task → Type 0
Others a u y = (a.task ≡ Some u → ⊥) → endless y.state ≡ true → y.deadline ≡ 0

endless_waits : (state : TaskState) → endless state ≡ true → is_waiting state ≡ true
endless_waits (Waits wait) e = refl
endless_waits _ e = cc

others_last : (a : Actor) (least : ℕ) → Lasts (Others a) a least
others_last a least = record {
  own = λ u y acts other. absurd (other acts);
  ready = λ u y e other on. let no : true ≡ false = sym (endless_waits y.state on) ∙ e in cc;
  again = λ u y none low other on. none;
  rests = λ u x y state deadline stamp q other on. deadline ∙ q other (ap endless (sym state) ∙ on);
}

-- the acting task by itself, and the others by the walk
all_endless : (a : Actor) (tasks : List Task) → Holds (Others a) tasks → ((t : ℕ) → a.task ≡ Some t → (y : Task) → slice_get tasks t ≡ Some y → endless y.state ≡ true → y.deadline ≡ 0) → AreEndless tasks
all_endless a tasks others own u y at on = by a.task refl
  where
    by : (o : Option ℕ) → a.task ≡ o → y.deadline ≡ 0
    by None e = others u y at (λ acts. let no : None ≡ Some u = sym e ∙ acts in cc) on
    by (Some t) e = elim (cases_eq u t) [
      | inl same ↦ own u (e ∙ ap Some (sym same)) y at on
      | inr other ↦ others u y at (λ acts. let no : Some t ≡ Some u = sym e ∙ acts in other cc) on
    ]

begun_endless : (least t : ℕ) (x : Parts) → Begun least t x → (y : Task) → slice_get x.tasks t ≡ Some y → endless y.state ≡ true → y.deadline ≡ 0
begun_endless least t x b y at on = (b y at (endless_waits y.state on)).1 on

walked_endless : (event : Event) (b : Board) → length b.memory.devices ≤ DEVICE_LIMIT → board_refusal event b ≡ None → AreEndless b.parts.tasks
    → ((t : ℕ) → (acting event b).task ≡ Some t → Begun b.parts.stamps t (row event b).0.parts) → AreEndless (row event b).0.parts.tasks
walked_endless event b few allowed h own =
    let a : Actor = acting event b in
    all_endless a (row event b).0.parts.tasks (walk_holds (Others a) a b.parts b.parts.stamps (others_last a b.parts.stamps) _ _ _ (omega arith) (row_walks event b few allowed) (λ u y at other on. h u y at on))
    (λ t acts y at on. begun_endless b.parts.stamps t (row event b).0.parts (own t acts) y at on)

number_tasks : (o : Option ℕ) (f : Hart → Hart) (k : Parts) → (on_number o f k).tasks ≡ k.tasks
number_tasks None f k = refl
number_tasks (Some t) f k = refl

line_tasks : (o : Option ℕ) (k : Parts) → (raise_line o k).tasks ≡ k.tasks
line_tasks None k = refl
line_tasks (Some l) k = refl

ticks_tasks : (i : ℕ) (devices : List Attached) (k : Parts) → (raise_by_ticks i devices k).tasks ≡ k.tasks
unfolding raise_by_ticks
ticks_tasks i [] k = refl
ticks_tasks i (device ∷ devices) k = ticks_tasks (suc i) devices _ ∙ line_tasks (line_if (ticked device.kind device.words).raise i) k

as_tasks : (tasks new : List Task) → new ≡ tasks → AreEndless tasks → AreEndless new
as_tasks tasks new same h = rw same h

pub row_endless : (event : Event) (b : Board) → Good b.parts → length b.memory.devices ≤ DEVICE_LIMIT → board_refusal event b ≡ None → AreEndless b.parts.tasks → AreEndless (row event b).0.parts.tasks
unfolding row tick tick_devices stop set_bits set_breakpoint unset_breakpoint
row_endless (Step c) b good few allowed h = walked_endless (Step c) b few allowed h (λ t runs. let own = current_ready c t b.parts good runs in step_begun c t b runs own.task own.there own.ready few)
row_endless (StepI c) b good few allowed h = walked_endless (StepI c) b few allowed h (λ t runs. let own = current_ready c t b.parts good runs in single_begun c t b runs own.task own.there own.ready few)
row_endless Tick b good few allowed h = as_tasks b.parts.tasks _ (ticks_tasks 0 b.memory.devices b.parts) h
row_endless (Raise c l) b good few allowed h = h
row_endless (Bell c l) b good few allowed h = h
row_endless (Stop c) b good few allowed h = h
row_endless (Go c) b good few allowed h = h
row_endless (SetReg c r value) b good few allowed h = as_tasks b.parts.tasks _ (number_tasks (current c b.parts) (set_register r value) b.parts) h
row_endless (SetPc c pc) b good few allowed h = as_tasks b.parts.tasks _ (number_tasks (current c b.parts) (set_pc pc) b.parts) h
row_endless (Poke address bytes) b good few allowed h = h
row_endless (Break address) b good few allowed h = h
row_endless (Unbreak address) b good few allowed h = h

-- ---- a run
left_endless : (s : State) (event : Event) (full : Bool) (o : Option Refusal) → board_refusal event s.board ≡ o → GoodState s → AreEndless s.board.parts.tasks
    → AreEndless (left_by (apply_unless (if full then Some Full else o) event s) s).board.parts.tasks
left_endless s event true o e g h = h
left_endless s event false (Some refusal) e g h = h
left_endless s event false None e g h = row_endless event s.board g.good g.devices.few e h

apply_endless : (s : State) (event : Event) → GoodState s → AreEndless s.board.parts.tasks → AreEndless (left_by (apply s event) s).board.parts.tasks
unfolding apply
apply_endless s event g h = left_endless s event (is_full s) (board_refusal event s.board) refl g h

pub replay_endless : (s : State) → ((events : List Event) → GoodState (replay s events)) → AreEndless s.board.parts.tasks → (events : List Event) → AreEndless (replay s events).board.parts.tasks
unfolding replay
replay_endless s good h [] = h
replay_endless s good h (event ∷ events) = replay_endless (left_by (apply s event) s) (λ rest. good (event ∷ rest)) (apply_endless s event (good []) h) events

-- ---- a task that began to wait in a step has a fresh stamp
abbrev IsFreshIn : Actor → Parts → ℕ → Task → Type 0
IsFreshIn a old u y = (a.task ≡ Some u → ⊥) → (task : Task) → slice_get old.tasks u ≡ Some task → (y.state ≡ task.state) ⊎ ((is_waiting y.state ≡ false) ⊎ (old.stamps ≤ y.stamp))

fresh_rests : (least : ℕ) (x y task : Task) → y.state ≡ x.state → (y.stamp ≡ x.stamp) ⊎ (least ≤ y.stamp) → (x.state ≡ task.state) ⊎ ((is_waiting x.state ≡ false) ⊎ (least ≤ x.stamp)) → (y.state ≡ task.state) ⊎ ((is_waiting y.state ≡ false) ⊎ (least ≤ y.stamp))
fresh_rests least x y task state stamp (inl same) = inl (state ∙ same)
fresh_rests least x y task state stamp (inr (inl ready)) = inr (inl (ap is_waiting state ∙ ready))
fresh_rests least x y task state (inl same) (inr (inr low)) = inr (inr (omega (arith, same, low)))
fresh_rests least x y task state (inr fresh) (inr (inr low)) = inr (inr fresh)

fresh_last : (a : Actor) (old : Parts) → Lasts (IsFreshIn a old) a old.stamps
fresh_last a old = record {
  own = λ u y acts other. absurd (other acts);
  ready = λ u y e other task at. inr (inl e);
  again = λ u y none low other task at. inr (inr low);
  rests = λ u x y state deadline stamp q other task at. fresh_rests old.stamps x y task state stamp (q other task at);
}

pub waits_fresh : (c t : ℕ) (b : Board) → Good b.parts → length b.memory.devices ≤ DEVICE_LIMIT → board_refusal (Step c) b ≡ None → (task after : Task) (wait : Wait) → slice_get b.parts.tasks t ≡ Some task → slice_get (step c b).0.parts.tasks t ≡ Some after
    → after.state ≡ Waits wait → (task.state ≡ Waits wait → ⊥) → b.parts.stamps ≤ after.stamp
unfolding row
waits_fresh c t b good few allowed task after wait there at is was = by (current c b.parts) refl
  where
    others : (current c b.parts ≡ Some t → ⊥) → b.parts.stamps ≤ after.stamp
    others other =
        elim (walk_holds (IsFreshIn (acting (Step c) b) b.parts) (acting (Step c) b) b.parts b.parts.stamps (fresh_last (acting (Step c) b) b.parts) _ _ _ (omega arith) (row_walks (Step c) b few allowed)
        (λ u y e away before f. let same : y ≡ before = cc in inl (ap (λ (z : Task). z.state) same)) t after at other task there) [
          | inl same ↦ absurd (was (sym same ∙ is))
          | inr (inl ready) ↦ let no : false ≡ true = sym ready ∙ ap is_waiting is in cc
          | inr (inr low) ↦ low
        ]

    by : (o : Option ℕ) → current c b.parts ≡ o → b.parts.stamps ≤ after.stamp
    by None e = others (λ runs. let no : None ≡ Some t = sym e ∙ runs in cc)
    by (Some u) e = elim (cases_eq u t) [
      | inl same ↦
          let runs : current c b.parts ≡ Some t = e ∙ ap Some same in
          let own = current_ready c t b.parts good runs in
          (step_begun c t b runs own.task own.there own.ready few after at (ap is_waiting is)).0
      | inr other ↦ others (λ runs. let no : Some u ≡ Some t = sym e ∙ runs in other cc)
    ]
