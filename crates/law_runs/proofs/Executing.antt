-- A step in its parts: the instruction, the line of a device, settling, and the others that are told.
use Rattle.std.proofs.Common.{◌≡◌, ℕ, ◌*◌, ◌<◌, List, [], ◌∷◌, Bool, true, false, Option, Some, None, length, ◌⊎◌, inl, inr, refl, ap, sym, ◌∙◌, subst, arith}
use Rattle.std.specs.Prelude.{slice_get, option_map, ◌&&◌, not, if◌then◌else◌}
use Rattle.std.proofs.lemmas.Bool.Decides.{nat_tests}
use Rattle.evm_lines.specs.Lines.{has_line, least_line}
use Rattle.evm_lines.specs.declared.TheConstants.{LINES}
use Rattle.evm_isa.specs.Decoded.{decoded}
use Rattle.evm_isa.specs.declared.inst.Inst.{Inst}
use Rattle.evm_isa.specs.declared.inst.LoadOp.{LoadOp}
use Rattle.evm_exec.specs.Does.{does}
use Rattle.evm_exec.specs.Memory.{loaded_value, width_of_load}
use Rattle.evm_exec.specs.declared.hart.Hart.{Hart}
use Rattle.evm_exec.specs.declared.outcome.Effect.{Effect}
use Rattle.evm_exec.specs.declared.outcome.Effect.TheVariants.{Next, Load, Store, Call, Break, Misaligned}
use Rattle.evm_model.specs.Actions.{action_at, receive_line}
use Rattle.evm_model.specs.Commands.{is_set, tick}
use Rattle.evm_model.specs.Devices.{Accessed, raise_line}
use Rattle.evm_model.specs.Harts.{set_register, advance}
use Rattle.evm_model.specs.Instructions.{stop, fault, finish_load, finish_store, finish, execute_inst, execute_word, execute}
use Rattle.evm_model.specs.Lists.{change}
use Rattle.evm_model.specs.Memory.{fetch, read, write}
use Rattle.evm_model.specs.Pipes.{Pipe, receive, is_oob_line, stage_by, stage_of}
use Rattle.evm_model.specs.Rows.{run, step_hart, step_current, step_wire, step_pipe, step_processor, step}
use Rattle.evm_model.specs.Settle.{current, current_of, settle, nudge, settle_and_nudge}
use Rattle.evm_model.specs.OobCalls.{move_task}
use Rattle.evm_model.specs.State.{Board, Notices, Parts, on_hart, on_parts, on_processor}
use Rattle.evm_model.specs.Tasks.{restamp, set_state, set_policy, set_slice}
use Rattle.evm_model.specs.Waits.{wake, begin_wait}
use Rattle.evm_model.specs.declared.action.Action.{Action}
use Rattle.evm_model.specs.declared.event.Answer.{Answer}
use Rattle.evm_model.specs.declared.event.Answer.TheVariants.{Stopped, Received, Idle, Hit, Ran}
use Rattle.evm_model.specs.declared.fault.Fault.{Fault}
use Rattle.evm_model.specs.declared.processor.Processor.{Processor}
use Rattle.evm_model.specs.declared.stage.Stage.{Stage}
use Rattle.evm_model.specs.declared.stage.Stage.TheVariants.{OutOfBand}
use Rattle.evm_model.proofs.Lists.{change-here, change-elsewhere}
use Rattle.std.proofs.lemmas.Bool.{cases_eq}
use Rattle.law_rules.proofs.Calls.{walks_closely}
use Rattle.law_rules.proofs.PlayingWalks.{first_on, unnoted}
use Rattle.law_rules.proofs.RowWalks.{SETTLING_STAMPS, faults, settles, stops}
use Rattle.law_rules.proofs.Sizes.{of_spend}
use Rattle.law_rules.proofs.Walk.{Actor, Untouched, hart, spends, marks, picks, moves, receives, Does, Walk, start, next, quietly, counted, slack}
use Rattle.law_rules.specs.Raising.{access_of, inst_access, word_access, hart_access, line_of}
use Rattle.law_runs.specs.Balance.{line_of_step}
use Rattle.law_runs.specs.Noticing.{GetsNotice}
use Rattle.law_runs.proofs.Noticing.{executed_notices, line_notices}

-- ---- who acts
-- the task, by its instruction: it chooses no task, and what it raises itself is not counted here
abbrev pub doer : ℕ → Option ℕ → Actor
doer c o = record { cpu = c; task = o; may = λ d l. false; chooses = false; calls = true; faults = true }

-- nobody: the processor settles
abbrev pub settler : ℕ → Actor
settler c = record { cpu = c; task = None; may = λ d l. false; chooses = true; calls = false; faults = false }

-- where none may be chosen each processor runs what it ran
kept_current : (f : Processor → Processor) (ps : List Processor) (i d : ℕ) → ((p : Processor) → (f p).current ≡ p.current) → current_of (slice_get (change f ps i) d) ≡ current_of (slice_get ps d)
kept_current f ps i d same = elim (cases_eq d i) [
  | inl here ↦ rw here (ap current_of (change-here f ps i) ∙ still (slice_get ps i))
  | inr other ↦ ap current_of (change-elsewhere f ps i d other)
]
  where
    still : (o : Option Processor) → current_of (option_map f o) ≡ current_of o
    still None = refl
    still (Some p) = same p

module _ (a : Actor) (old : Parts) (d : ℕ) (none : a.chooses ≡ false) where
  does_current : (i j : ℕ) (k x : Parts) → Does a old i j k x → current d x ≡ current d k
  unfolding restamp set_state set_policy set_slice move_task wake begin_wait tick
  does_current _ _ _ _ (spends t x k runs there on) = of_spend (λ y. current d y ≡ current d k) t x.slice k refl refl
  does_current _ _ _ _ (marks f k same) = kept_current f k.processors a.cpu d same
  does_current _ _ _ _ (picks f k may) = let no : true ≡ false = sym may ∙ none in cc
  does_current _ _ _ _ _ = refl

  pub walk_current : (n s : ℕ) (k : Parts) → Walk a old n s k → current d k ≡ current d old
  walk_current _ _ _ start = refl
  walk_current _ _ _ (next m n s u i j k x few g does w) = does_current i j k x does ∙ walk_current m s k w

-- ---- an instruction
-- what task t of c did, before a device raised this line
pub record Done (c t : ℕ) (old : Parts) (line : Option ℕ) (new : Parts) : Type 0 where
  pub before : Parts
  pub walk : Walk (doer c (Some t)) old 1 65 before
  pub is : new ≡ raise_line line before

module _ (c t : ℕ) (old : Parts) (b : Board) (fresh : Untouched old b.parts) (w : Walk (doer c (Some t)) old 0 0 b.parts) where
  abbrev a : Actor
  a = doer c (Some t)

  alone : (new : Parts) → Walk a old 1 65 new → Done c t old None new
  alone new v = record { before = new; walk = v; is = refl }

  faulted : (f : Fault) → Done c t old None (fault c t f b.parts)
  faulted f = alone _ (slack a old 0 1 32 65 _ (λ p. omega arith) (λ p. omega arith) (faults a old b.parts t refl fresh w refl f))

  went : (r value : ℕ) (f : Hart → Hart) → ((x : Hart) → (f x).regs ≡ (set_register r value x).regs) → Walk a old 1 65 (on_hart t f b.parts)
  went r value f same = slack a old 0 1 0 65 _ (λ p. omega arith) (λ p. omega arith) (quietly a old 0 0 b.parts _ (hart t r value f b.parts refl same (inr (ap length fresh.harts))) w)

  loads : (o : Option Accessed) (op : LoadOp) (rd : ℕ) → Done c t old (line_of o) (finish_load o op rd c t b).parts
  loads None op rd = faulted _
  loads (Some access) op rd = record { before = on_hart t (λ x. advance (set_register rd (loaded_value op access.number) x)) b.parts; walk = went rd (loaded_value op access.number) _ (λ x. refl); is = refl }

  stores : (o : Option Accessed) → Done c t old (line_of o) (finish_store o c t b).parts
  stores None = faulted _
  stores (Some access) = record { before = on_hart t advance b.parts; walk = went 0 0 advance (λ x. refl); is = refl }

  effects : (effect : Effect) → Done c t old (line_of (access_of effect b.memory)) (finish effect c t b).parts
  unfolding finish stop
  effects (Next rd value pc) = alone _ (went rd value _ (λ x. refl))
  effects (Load op rd address) = loads (read address (width_of_load op) b.memory) op rd
  effects (Store width address value) = stores (write address width value b.memory)
  effects Call = alone _ (walks_closely a old b.parts t refl fresh w refl)
  effects Break = alone _ (quietly a old 1 65 (on_hart t advance b.parts) _ (marks (λ p. record p { stopped = true }) (on_hart t advance b.parts) (λ p. refl)) (went 0 0 advance (λ x. refl)))
  effects Misaligned = faulted _

  insts : (o : Option Inst) (x : Hart) → Done c t old (line_of (inst_access o x b.memory)) (execute_inst o x c t b).parts
  insts None x = faulted _
  insts (Some inst) x = effects (does inst x.regs x.pc)

  words : (o : Option ℕ) (x : Hart) → Done c t old (line_of (word_access o x b.memory)) (execute_word o x c t b).parts
  words None x = faulted _
  words (Some word) x = insts (decoded word) x

  executes : (x : Hart) → Done c t old (line_of (word_access (fetch x.pc b.memory) x b.memory)) (execute x c t b).parts
  unfolding execute
  executes x = words (fetch x.pc b.memory) x

-- ---- a step
-- what settling counts
abbrev pub SETTLING_MOVES : ℕ
SETTLING_MOVES = 2 * LINES

pub record StepParts (c : ℕ) (b : Board) (after : Board × Answer) : Type 0 where
  -- who acts, if a task does
  pub task : Option ℕ
  -- the parts before a device raises its line, and after settling
  pub before : Parts
  pub settled : Parts
  pub acts : Walk (doer c task) b.parts 1 65 before
  pub settles : Walk (settler c) (raise_line (line_of_step after.1 b) before) SETTLING_MOVES SETTLING_STAMPS settled
  pub told : (after.0.parts ≡ settled) ⊎ (after.0.parts ≡ nudge c settled)
  pub notices : (before.notices ≡ b.parts.notices) ⊎ GetsNotice c b after.1 before.notices

pub line_current : (o : Option ℕ) (d : ℕ) (k : Parts) → current d (raise_line o k) ≡ current d k
line_current None d k = refl
line_current (Some l) d k = refl

pub line_ticks : (o : Option ℕ) (k : Parts) → (raise_line o k).ticks ≡ k.ticks
line_ticks None k = refl
line_ticks (Some l) k = refl

least_on : (set : List ℕ) (l : ℕ) → least_line set ≡ Some l → has_line set l ≡ true
least_on [] l e = cc
least_on (x ∷ xs) l e = let same : x ≡ l = cc in rw same (first_on l xs)

fixed_stage : (action : Action) (l : ℕ) → l < 2 → stage_of action l ≡ OutOfBand
fixed_stage action l small = stage_if (is_oob_line l) (grind (arith, nat_tests))
  where
    stage_if : (b : Bool) → b ≡ true → (if b then OutOfBand else stage_by action) ≡ OutOfBand
    stage_if true e = refl
    stage_if false e = cc

module _ (c : ℕ) (b : Board) where
  -- nothing settles, and nothing is raised
  rested : (new : Board) (answer : Answer) → line_of_step answer b ≡ None → new.parts.notices ≡ b.parts.notices → Walk (doer c None) b.parts 0 0 new.parts → StepParts c b (new, answer)
  rested new answer quiet same w = record {
    task = None;
    before = new.parts;
    settled = new.parts;
    acts = slack (doer c None) b.parts 0 1 0 65 new.parts (λ p. omega arith) (λ p. omega arith) w;
    settles = rw quiet (slack (settler c) new.parts 0 SETTLING_MOVES 0 SETTLING_STAMPS new.parts (λ p. omega arith) (λ p. omega arith) start);
    told = inl refl;
    notices = inl same;
  }

  finishes : (o was : Option ℕ) (k : Parts) (new : Board) (answer : Answer) → current c b.parts ≡ was → Walk (doer c o) b.parts 1 65 k → new.parts ≡ settle_and_nudge was c (raise_line (line_of_step answer b) k)
      → (k.notices ≡ b.parts.notices) ⊎ GetsNotice c b answer k.notices → StepParts c b (new, answer)
  unfolding settle_and_nudge
  finishes o was k new answer runs w is noticed =
      let line : Option ℕ = line_of_step answer b in
      let raised : Parts = raise_line line k in
      let now : current c raised ≡ was = line_current line c k ∙ walk_current (doer c o) b.parts c refl 1 65 k w ∙ runs in
      record { task = o; before = k; settled = settle was c raised; acts = w; settles = settles (settler c) raised refl was 0 0 raised now (λ calm. unnoted refl) start; told = inr is; notices = noticed }

  either : (p : Bool) (x y : Board × Answer) → StepParts c b x → StepParts c b y → StepParts c b (if p then x else y)
  either true x y g h = g
  either false x y g h = h

  runs : (x : Hart) (t : ℕ) → current c b.parts ≡ Some t → slice_get b.parts.harts t ≡ Some x → StepParts c b (run x c t b)
  runs x t now has =
      let skips : Processor → Processor = λ p. record p { skip = false } in
      let passed : Board = on_parts (on_processor c skips) b in
      let begun : Walk (doer c (Some t)) b.parts 0 0 passed.parts = quietly (doer c (Some t)) b.parts 0 0 b.parts _ (marks skips b.parts (λ p. refl)) start in
      let begins : Untouched b.parts passed.parts = record { tasks = refl; harts = refl; mutexes = refl; console = refl; notices = refl; ticks = refl; semaphores = refl; events = refl; flags = refl; timers = refl; actions = refl } in
      let d = executes c t b.parts passed begins begun x in
      let line : line_of_step (Ran t) b ≡ line_of (word_access (fetch x.pc b.memory) x b.memory) = ap (λ o. line_of (hart_access o b.memory)) has in
      finishes (Some t) (Some t) d.before _ (Ran t) now d.walk
      (ap (settle_and_nudge (Some t) c) d.is ∙ ap (λ o. settle_and_nudge (Some t) c (raise_line o d.before)) (sym line))
      (subst (λ (n : Notices). (n ≡ b.parts.notices) ⊎ GetsNotice c b (Ran t) n) (ap (λ (y : Parts). y.notices) d.is ∙ line_notices _ d.before) (executed_notices c b t x now has))

  hart_parts : (o : Option Hart) (p : Processor) (t : ℕ) → current c b.parts ≡ Some t → slice_get b.parts.harts t ≡ o → StepParts c b (step_hart o p c t b)
  unfolding stop
  hart_parts None p t now has = rested b Idle refl refl start
  hart_parts (Some x) p t now has = either (is_set b.breakpoints x.pc && not p.skip) _ (run x c t b) (rested _ Hit refl refl (stops (doer c None) b.parts 0 0 b.parts start)) (runs x t now has)

  current_parts : (o : Option ℕ) (p : Processor) → current c b.parts ≡ o → StepParts c b (step_current o p c b)
  current_parts None p now = finishes None None b.parts _ Idle now (slack (doer c None) b.parts 0 1 0 65 b.parts (λ p. omega arith) (λ p. omega arith) start) refl (inl refl)
  current_parts (Some t) p now = hart_parts (slice_get b.parts.harts t) p t now refl

  wire_parts : (o : Option ℕ) (p : Processor) (pipe : Pipe) → slice_get b.parts.pipes c ≡ Some pipe → current c b.parts ≡ p.current → least_line pipe.wire ≡ o → StepParts c b (step_wire o p c b)
  unfolding receive_line
  wire_parts None p pipe e now wire = current_parts p.current p now
  wire_parts (Some l) p pipe e now wire =
      let stage : Stage = stage_of (action_at l b.parts) l in
      finishes None p.current (receive_line c l b.parts) _ (Received l) now
      (slack (doer c None) b.parts 1 1 0 65 _ (λ p. omega arith) (λ p. omega arith)
      (counted (doer c None) b.parts 0 0 b.parts _ 1
      (moves 1 (receive stage l) b.parts (λ are q d. let one : pipe ≡ q = (let two : Some pipe ≡ Some q = sym e ∙ d in cc) in receives stage l q (fixed_stage (action_at l b.parts) l) (least_on q.wire l (rw (← one) wire)))) start)) refl (inl refl)

  pipe_parts : (o : Option Pipe) (p : Processor) → slice_get b.parts.pipes c ≡ o → current c b.parts ≡ p.current → StepParts c b (step_pipe o p c b)
  pipe_parts None p e now = rested b Stopped refl refl start
  pipe_parts (Some pipe) p e now = wire_parts (least_line pipe.wire) p pipe e now refl

  processor_parts : (o : Option Processor) → slice_get b.parts.processors c ≡ o → StepParts c b (step_processor o c b)
  processor_parts None f = rested b Stopped refl refl start
  processor_parts (Some p) f = either p.stopped (b, Stopped) _ (rested b Stopped refl refl start) (pipe_parts (slice_get b.parts.pipes c) p refl (ap current_of f))

  pub step_parts : StepParts c b (step c b)
  unfolding step
  step_parts = processor_parts (slice_get b.parts.processors c) refl
