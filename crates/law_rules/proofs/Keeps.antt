-- Every event keeps a state good.
use Rattle.std.proofs.Common.{◌≡◌, ℕ, suc, ◌+◌, ◌%◌, List, [], ◌∷◌, Bool, true, false, not, ◌&&◌, Option, Some, None, length, refl, ap, sym, ◌∙◌, ◌⊎◌, inl, inr, arith, map}
use Rattle.std.specs.Prelude.{slice_get, option_map, ◌==◌, if◌then◌else◌}
use Rattle.std.proofs.lemmas.Bool.Decides.{eqb_tells}
use Rattle.std.proofs.lemmas.List.{length-map}
use Rattle.std.proofs.lemmas.Option.{slice_get-map}
use Rattle.evm_dev.specs.Rows.{ticked}
use Rattle.evm_lines.specs.Lines.{has_line, with_line, least_line}
use Rattle.evm_lines.specs.Laws.{has_line-with_same, has_line-with_other}
use Rattle.evm_isa.specs.Decoded.{decoded}
use Rattle.evm_isa.specs.declared.inst.Inst.{Inst}
use Rattle.evm_isa.specs.declared.inst.LoadOp.{LoadOp}
use Rattle.evm_exec.specs.Does.{does}
use Rattle.evm_exec.specs.Memory.{width_of_load}
use Rattle.evm_exec.specs.declared.hart.Hart.{Hart}
use Rattle.evm_exec.specs.declared.outcome.Effect.{Effect}
use Rattle.evm_exec.specs.declared.outcome.Effect.TheVariants.{Next, Load, Store, Call, Break, Misaligned}
use Rattle.evm_model.proofs.Lists.{change-here, change-elsewhere, change-cases, length-change}
use Rattle.evm_model.specs.Actions.{action_at, receive_line}
use Rattle.evm_model.specs.Commands.{tick, set_bits, on_number, is_set, set_breakpoint, unset_breakpoint}
use Rattle.evm_model.specs.Devices.{Attached, Accessed, line_if, raise_line, raise_by_ticks, tick_devices}
use Rattle.evm_model.specs.Good.{Good, IsSettled, IsOwn, IsPipe}
use Rattle.evm_model.specs.Harts.{set_register, set_pc, advance}
use Rattle.evm_model.specs.Instructions.{stop, finish_load, finish_store, finish, execute_inst, execute_word, execute}
use Rattle.evm_model.specs.Lists.{change}
use Rattle.evm_model.specs.Memory.{fetch, read, write}
use Rattle.evm_model.specs.Pipes.{Pipe, raise, receive, arrive, leave_wire, stage_of}
use Rattle.evm_model.specs.Rows.{run, step_hart, step_current, step_wire, step_pipe, step_processor, step, single_step, row}
use Rattle.evm_model.specs.Settle.{current, current_of}
use Rattle.evm_model.specs.State.{Parts, Board, on_hart, on_processor, on_pipe, on_parts}
use Rattle.evm_model.specs.declared.event.Answer.TheVariants.{Stopped, Hit}
use Rattle.evm_model.specs.Event.{Event}
use Rattle.evm_model.specs.declared.event.Event.TheVariants.{Step, Tick, Raise, Bell, Stop, Go, StepI, SetReg, SetPc, Poke, Break as Set_break, Unbreak}
use Rattle.evm_model.specs.declared.mutex.Mutex.{Mutex}
use Rattle.evm_model.specs.declared.processor.Processor.{Processor}
use Rattle.evm_model.specs.declared.stage.Stage.{Stage}
use Rattle.evm_model.specs.declared.stage.Stage.TheVariants.{OutOfBand, InBand}
use Rattle.evm_model.specs.declared.task.Task.{Task}
use Rattle.evm_model.specs.declared.refusal.Refusal.TheVariants.{BadAddress}
use Rattle.evm_model.specs.Refusals.{board_refusal}
use Rattle.law_rules.proofs.Refused.{passes}
use Rattle.law_rules.proofs.Aligned.{IsAligned, next-aligned, does-aligned}
use Rattle.law_rules.proofs.Bounded.{EachIsPipe, are-change}
use Rattle.law_rules.proofs.Counting.{each-map, mapped}
use Rattle.law_rules.proofs.Firsts.{eqb-is}
use Rattle.law_rules.proofs.Nudging.{good_of, settle_and_nudge-good}
use Rattle.law_rules.proofs.Private.{good-bits, good-skip}
use Rattle.law_rules.proofs.Sets.{IsPipe-raise, IsPipe-receive}
use Rattle.law_rules.proofs.Settling.{GoodBut, good_but}
use Rattle.law_rules.proofs.Shapes.{shaped, shaped-pipe, shaped-hart}
use Rattle.law_rules.proofs.Calling.{fault-but, call-but}

-- ---- a line more on a wire
raised_clear : (wire : List ℕ) (l : ℕ) → has_line (with_line wire l) 1 ≡ false → has_line wire 1 ≡ false
raised_clear wire l e = elim (eqb_tells 1 l) [
  | inl g ↦ let on : has_line (with_line wire l) 1 ≡ true = ap (has_line (with_line wire l)) g.1 ∙ has_line-with_same wire l (omega arith) in cc
  | inr g ↦ sym (has_line-with_other wire l 1 g.1 (omega arith)) ∙ e
]

settled-raised : (d l : ℕ) (pipe : Pipe) (p : Processor) (mutexes : List Mutex) (tasks : List Task) → IsSettled d pipe p mutexes tasks → IsSettled d (raise l pipe) p mutexes tasks
unfolding raise
settled-raised d l pipe p mutexes tasks s = record {
  current_own = s.current_own;
  in_band_own = s.in_band_own;
  runs_best = λ u v. s.runs_best u (raised_clear pipe.wire l v);
  runs_in_band = s.runs_in_band;
  oob_played = s.oob_played;
  in_band_played = s.in_band_played;
  oob_staller = s.oob_staller;
  in_band_staller = s.in_band_staller;
}

good-pipes : (k : Parts) (pipes : List Pipe) → length pipes ≡ length k.pipes → EachIsPipe pipes
    → ((d : ℕ) (q : Pipe) → slice_get pipes d ≡ Some q → (x : Pipe) × (slice_get k.pipes d ≡ Some x) × ((q ≡ x) ⊎ ((l : ℕ) × (q ≡ raise l x)))) → Good k → Good (record k { pipes = pipes })
good-pipes k pipes e a h g = record {
  pipes = a;
  settled = λ d q p f r. let from = h d q f in elim from.2 [
    | inl same ↦ rw same (g.settled d from.0 p from.1 r)
    | inr raised ↦ rw raised.1 (settled-raised d raised.0 from.0 p k.mutexes k.tasks (g.settled d from.0 p from.1 r))
  ];
  watched = g.watched;
  aligned = g.aligned;
  homes = g.homes;
  stamps_below = g.stamps_below;
  stamps_differ = g.stamps_differ;
  harts_count = g.harts_count;
  pipes_count = e ∙ g.pipes_count;
  watches_count = g.watches_count;
  few_tasks = g.few_tasks;
  few_processors = g.few_processors;
  locks = g.locks;
  events = g.events;
  deadlines = g.deadlines;
}

pub raise-good : (c l : ℕ) (k : Parts) → Good k → Good (on_pipe c (raise l) k)
raise-good c l k g =
    good-pipes k (change (raise l) k.pipes c) (length-change (raise l) k.pipes c) (are-change c (raise l) k (IsPipe-raise l) g.pipes)
    (λ d q f. elim (change-cases (raise l) k.pipes c d q f) [
      | inl w ↦ (w.1, rw w.0 w.2, inr (l, w.3))
      | inr w ↦ (q, w.1, inl refl)
    ]) g

-- a line of a device
pub line-good : (o : Option ℕ) (k : Parts) → Good k → Good (raise_line o k)
line-good None k g = g
line-good (Some l) k g = raise-good 0 l k g

pub ticks-good : (i : ℕ) (devices : List Attached) (k : Parts) → Good k → Good (raise_by_ticks i devices k)
unfolding raise_by_ticks
ticks-good i [] k g = g
ticks-good i (device ∷ devices) k g = ticks-good (suc i) devices _ (line-good (line_if (ticked device.kind device.words).raise i) k g)

good-ticks : (k : Parts) (ticks : ℕ) → Good k → Good (record k { ticks = ticks })
good-ticks k ticks g = record {
  pipes = g.pipes;
  settled = g.settled;
  watched = g.watched;
  aligned = g.aligned;
  homes = g.homes;
  stamps_below = g.stamps_below;
  stamps_differ = g.stamps_differ;
  harts_count = g.harts_count;
  pipes_count = g.pipes_count;
  watches_count = g.watches_count;
  few_tasks = g.few_tasks;
  few_processors = g.few_processors;
  locks = g.locks;
  events = g.events;
  deadlines = g.deadlines;
}

pub tick-good : (k : Parts) → Good k → Good (tick k)
unfolding tick
tick-good k g =
    good-pipes (record k { ticks = k.ticks + 1 }) (map (raise 0) k.pipes) (length-map k.pipes (raise 0)) (each-map IsPipe IsPipe (raise 0) k.pipes (IsPipe-raise 0) g.pipes)
    (λ d q f. let from = mapped (raise 0) (slice_get k.pipes d) q (sym (slice_get-map (raise 0) k.pipes d) ∙ f) in (from.0, from.1, inr (0, sym from.2)))
    (good-ticks k (k.ticks + 1) g)

-- ---- registers and the pc
pub hart-good : (t : ℕ) (f : Hart → Hart) (k : Parts) → ((hart : Hart) → hart.pc % 4 ≡ 0 → (f hart).pc % 4 ≡ 0) → Good k → Good (on_hart t f k)
hart-good t f k h g = good_of (on_hart t f k) g.pipes g.settled (λ d none. (g.watched d).away none) (shaped-hart t f k h (shaped k g))

pub stop-good : (c : ℕ) (k : Parts) → Good k → Good (stop c k)
unfolding stop
stop-good c k g = good-bits c (λ p. record p { stopped = true }) k (λ p. refl) g

pub bits-good : (stopped skip : Bool) (c : ℕ) (k : Parts) → Good k → Good (set_bits stopped skip c k)
unfolding set_bits
bits-good stopped skip c k g = good-bits c (λ p. record p { stopped = stopped; skip = skip }) k (λ p. refl) g

number-good : (o : Option ℕ) (f : Hart → Hart) (k : Parts) → ((hart : Hart) → hart.pc % 4 ≡ 0 → (f hart).pc % 4 ≡ 0) → Good k → Good (on_number o f k)
number-good None f k h g = g
number-good (Some t) f k h g = hart-good t f k h g

-- ---- a line is received
receive-bits : (l : ℕ) (stage : Stage) (p : Pipe) → ((arrive stage l (leave_wire l p)).oob.stalled ≡ p.oob.stalled) × ((arrive stage l (leave_wire l p)).in_band.stalled ≡ p.in_band.stalled)
unfolding arrive leave_wire
receive-bits l OutOfBand p = (refl, refl)
receive-bits l InBand p = (refl, refl)

received-bits : (stage : Stage) (l : ℕ) (p : Pipe) → ((receive stage l p).oob.stalled ≡ p.oob.stalled) × ((receive stage l p).in_band.stalled ≡ p.in_band.stalled)
unfolding receive
received-bits stage l p = receive-bits l stage p

-- the acting processor's pipe changed, but not its stall bits
pub pipe-but : (c : ℕ) (f : Pipe → Pipe) (k : Parts) → ((p : Pipe) → ((f p).oob.stalled ≡ p.oob.stalled) × ((f p).in_band.stalled ≡ p.in_band.stalled)) → ((p : Pipe) → IsPipe p → IsPipe (f p)) → GoodBut c k → GoodBut c (on_pipe c f k)
pipe-but c f k b w g = record {
  pipes = are-change c f k w g.pipes;
  others = λ d pipe p n e h. g.others d pipe p n (sym (change-elsewhere f k.pipes c d n) ∙ e) h;
  own = λ pipe p e h. elim (change-cases f k.pipes c c pipe e) [
    | inl q ↦ let a = g.own q.1 p q.2 h in let same = b q.1 in
        rw q.3 (record { in_band_own = a.in_band_own; held = λ u. a.held (sym same.0 ∙ u); in_band_staller = λ u. a.in_band_staller (sym same.1 ∙ u) })
    | inr q ↦ absurd (q.0 refl)
  ];
  away = g.away;
  shape = shaped-pipe c f k g.shape;
}

pub receive-but : (c l : ℕ) (k : Parts) → Good k → GoodBut c (receive_line c l k)
unfolding receive_line
receive-but c l k g = let stage : Stage = stage_of (action_at l k) l in pipe-but c (receive stage l) k (received-bits stage l) (IsPipe-receive stage l) (good_but c k g)

-- ---- an instruction
module _ (c t : ℕ) where
  load-but : (o : Option Accessed) (op : LoadOp) (rd : ℕ) (b : Board) → Good b.parts → IsOwn c t b.parts.tasks → current c b.parts ≡ Some t → GoodBut c (finish_load o op rd c t b).parts
  load-but None op rd b g o r = fault-but c t _ b.parts g o r
  load-but (Some access) op rd b g o r = good_but c _ (line-good access.line _ (hart-good t _ b.parts (λ hart. next-aligned hart.pc) g))

  store-but : (o : Option Accessed) (b : Board) → Good b.parts → IsOwn c t b.parts.tasks → current c b.parts ≡ Some t → GoodBut c (finish_store o c t b).parts
  store-but None b g o r = fault-but c t _ b.parts g o r
  store-but (Some access) b g o r = good_but c _ (line-good access.line _ (hart-good t advance b.parts (λ hart. next-aligned hart.pc) g))

  finish-but : (effect : Effect) (b : Board) → IsAligned effect → Good b.parts → IsOwn c t b.parts.tasks → current c b.parts ≡ Some t → GoodBut c (finish effect c t b).parts
  unfolding finish
  finish-but (Next rd value pc) b a g o r = good_but c _ (hart-good t (λ hart. set_pc pc (set_register rd value hart)) b.parts (λ hart h. a) g)
  finish-but (Load op rd address) b a g o r = load-but (read address (width_of_load op) b.memory) op rd b g o r
  finish-but (Store width address value) b a g o r = store-but (write address width value b.memory) b g o r
  finish-but Call b a g o r = call-but c t b.parts g o r
  finish-but Break b a g o r = good_but c _ (stop-good c _ (hart-good t advance b.parts (λ hart. next-aligned hart.pc) g))
  finish-but Misaligned b a g o r = fault-but c t _ b.parts g o r

  inst-but : (o : Option Inst) (hart : Hart) (b : Board) → hart.pc % 4 ≡ 0 → Good b.parts → IsOwn c t b.parts.tasks → current c b.parts ≡ Some t → GoodBut c (execute_inst o hart c t b).parts
  inst-but None hart b h g o r = fault-but c t _ b.parts g o r
  inst-but (Some inst) hart b h g o r = finish-but (does inst hart.regs hart.pc) b (does-aligned inst hart.regs hart.pc h) g o r

  word-but : (o : Option ℕ) (hart : Hart) (b : Board) → hart.pc % 4 ≡ 0 → Good b.parts → IsOwn c t b.parts.tasks → current c b.parts ≡ Some t → GoodBut c (execute_word o hart c t b).parts
  word-but None hart b h g o r = fault-but c t _ b.parts g o r
  word-but (Some word) hart b h g o r = inst-but (decoded word) hart b h g o r

pub execute-but : (hart : Hart) (c t : ℕ) (b : Board) → hart.pc % 4 ≡ 0 → Good b.parts → IsOwn c t b.parts.tasks → current c b.parts ≡ Some t → GoodBut c (execute hart c t b).parts
unfolding execute
execute-but hart c t b h g o r = word-but c t (fetch hart.pc b.memory) hart b h g o r

-- ---- a Step
same-current : (o : Option Processor) → current_of (option_map (λ (p : Processor). record p { skip = false }) o) ≡ current_of o
same-current None = refl
same-current (Some p) = refl

pub passed-current : (c : ℕ) (k : Parts) → current c (on_processor c (λ p. record p { skip = false }) k) ≡ current c k
passed-current c k = ap current_of (change-here (λ (p : Processor). record p { skip = false }) k.processors c) ∙ same-current (slice_get k.processors c)

run-good : (hart : Hart) (c t : ℕ) (b : Board) → hart.pc % 4 ≡ 0 → Good b.parts → IsOwn c t b.parts.tasks → current c b.parts ≡ Some t → Good (run hart c t b).0.parts
run-good hart c t b h g o r =
    settle_and_nudge-good (Some t) c _ (execute-but hart c t (on_parts (on_processor c (λ p. record p { skip = false })) b) h (good-skip c b.parts g) o (passed-current c b.parts ∙ r))

hart-if : (hit : Bool) (hart : Hart) (c t : ℕ) (b : Board) → hart.pc % 4 ≡ 0 → Good b.parts → IsOwn c t b.parts.tasks → current c b.parts ≡ Some t → Good (if hit then (on_parts (stop c) b, Hit) else run hart c t b).0.parts
hart-if true hart c t b h g o r = stop-good c b.parts g
hart-if false hart c t b h g o r = run-good hart c t b h g o r

hart-step : (o : Option Hart) (p : Processor) (c t : ℕ) (b : Board) → slice_get b.parts.harts t ≡ o → Good b.parts → IsOwn c t b.parts.tasks → current c b.parts ≡ Some t → Good (step_hart o p c t b).0.parts
hart-step None p c t b e g o r = g
hart-step (Some hart) p c t b e g o r = hart-if (is_set b.breakpoints hart.pc && not p.skip) hart c t b (g.aligned t hart e) g o r

current-step : (o : Option ℕ) (p : Processor) (c : ℕ) (b : Board) → Good b.parts → ((t : ℕ) → o ≡ Some t → IsOwn c t b.parts.tasks × (current c b.parts ≡ Some t)) → Good (step_current o p c b).0.parts
current-step None p c b g h = settle_and_nudge-good None c b.parts (good_but c b.parts g)
current-step (Some t) p c b g h = let own = h t refl in hart-step (slice_get b.parts.harts t) p c t b refl g own.0 own.1

wire-step : (o : Option ℕ) (p : Processor) (c : ℕ) (b : Board) → Good b.parts → ((t : ℕ) → p.current ≡ Some t → IsOwn c t b.parts.tasks × (current c b.parts ≡ Some t)) → Good (step_wire o p c b).0.parts
wire-step None p c b g h = current-step p.current p c b g h
wire-step (Some l) p c b g h = settle_and_nudge-good p.current c _ (receive-but c l b.parts g)

pipe-step : (o : Option Pipe) (p : Processor) (c : ℕ) (b : Board) → slice_get b.parts.pipes c ≡ o → slice_get b.parts.processors c ≡ Some p → Good b.parts → Good (step_pipe o p c b).0.parts
pipe-step None p c b e f g = g
pipe-step (Some pipe) p c b e f g = wire-step (least_line pipe.wire) p c b g (λ t h. ((g.settled c pipe p e f).current_own t h, ap current_of f ∙ h))

processor-step : (o : Option Processor) (c : ℕ) (b : Board) → slice_get b.parts.processors c ≡ o → Good b.parts → Good (step_processor o c b).0.parts
processor-step None c b e g = g
processor-step (Some p) c b e g = elim p.stopped as (λ (s : Bool). Good (if s then (b, Stopped) else step_pipe (slice_get b.parts.pipes c) p c b).0.parts) [
  | true ↦ g
  | false ↦ pipe-step (slice_get b.parts.pipes c) p c b refl e g
]

pub step-good : (c : ℕ) (b : Board) → Good b.parts → Good (step c b).0.parts
unfolding step
step-good c b g = processor-step (slice_get b.parts.processors c) c b refl g

pub single_step-good : (c : ℕ) (b : Board) → Good b.parts → Good (single_step c b).parts
unfolding single_step
single_step-good c b g =
    bits-good true false c _ (step-good c (on_parts (set_bits false true c) b) (bits-good false true c b.parts g))

-- ---- each event
is_true : (b : Bool) → not b ≡ false → b ≡ true
is_true true e = refl
is_true false e = cc

pc_aligned : (pc : ℕ) → not (pc % 4 == 0) ≡ false → pc % 4 ≡ 0
pc_aligned pc e = eqb-is (pc % 4) 0 (is_true (pc % 4 == 0) e)

pub row-good : (event : Event) (b : Board) → board_refusal event b ≡ None → Good b.parts → Good (row event b).0.parts
unfolding row tick_devices set_breakpoint unset_breakpoint
row-good (Step c) b e g = step-good c b g
row-good Tick b e g = tick-good (raise_by_ticks 0 b.memory.devices b.parts) (ticks-good 0 b.memory.devices b.parts g)
row-good (Raise c l) b e g = raise-good c l b.parts g
row-good (Bell c l) b e g = raise-good c l b.parts g
row-good (Stop c) b e g = stop-good c b.parts g
row-good (Go c) b e g = bits-good false true c b.parts g
row-good (StepI c) b e g = single_step-good c b g
row-good (SetReg c r value) b e g = number-good (current c b.parts) (set_register r value) b.parts (λ hart h. h) g
row-good (SetPc c pc) b e g = number-good (current c b.parts) (set_pc pc) b.parts (λ hart h. pc_aligned pc (passes (SetPc c pc) b BadAddress e)) g
row-good (Poke address bytes) b e g = g
row-good (Set_break address) b e g = g
row-good (Unbreak address) b e g = g
