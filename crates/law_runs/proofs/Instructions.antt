-- What an instruction does to memory, and how it calls.
use Rattle.std.proofs.Common.{◌≡◌, ℕ, ◌+◌, ◌<◌, Bool, true, false, Option, Some, None, length, refl, ap, sym, ◌∙◌}
use Rattle.std.specs.Prelude.{slice_get, ◌&&◌, not, if◌then◌else◌}
use Rattle.evm_lines.specs.Lines.{least_line}
use Rattle.evm_isa.specs.Decoded.{decoded}
use Rattle.evm_isa.specs.declared.inst.Inst.{Inst}
use Rattle.evm_isa.specs.declared.inst.LoadOp.{LoadOp}
use Rattle.evm_exec.specs.Does.{does}
use Rattle.evm_exec.specs.Memory.{width_of_load}
use Rattle.evm_exec.specs.declared.hart.Hart.{Hart}
use Rattle.evm_exec.specs.declared.outcome.Effect.{Effect}
use Rattle.evm_exec.specs.declared.outcome.Effect.TheVariants.{Load, Store, Call}
use Rattle.evm_ram.specs.Laws.{length-write_at}
use Rattle.evm_model.specs.Commands.{is_set}
use Rattle.evm_model.specs.Devices.{Attached, Accessed, line_if}
use Rattle.evm_model.specs.Instructions.{finish_load, finish_store, finish, execute_inst, execute_word, execute}
use Rattle.evm_model.specs.Memory.{fetch, read, write}
use Rattle.evm_model.specs.Pipes.{Pipe}
use Rattle.evm_model.specs.Rows.{run, step_hart, step_current, step_wire, step_pipe, step_processor, step}
use Rattle.evm_model.specs.Settle.{current, current_of, settle_and_nudge}
use Rattle.evm_model.specs.State.{Board, Memory, Parts, on_parts, on_processor}
use Rattle.evm_model.specs.declared.event.Answer.{Answer}
use Rattle.evm_model.specs.declared.event.Answer.TheVariants.{Stopped, Received, Idle, Hit, Ran}
use Rattle.evm_model.specs.declared.limits.TheConstants.{DEVICE_LINE}
use Rattle.evm_model.specs.declared.processor.Processor.{Processor}
use Rattle.evm_model.proofs.Lists.{slice_get-below}
use Rattle.law_rules.proofs.RowWalks.{is_call, inst_calls, word_calls}
use Rattle.law_rules.specs.Raising.{access_of, inst_access, word_access, hart_access, line_of}
use Rattle.law_runs.specs.Balance.{line_of_step}
use Rattle.law_runs.specs.Kept.{kinds}
use Rattle.law_runs.specs.Touching.{MemoryChanges, stands, written, touches as touches_device}
use Rattle.law_runs.proofs.Fares.{one_change}
use Rattle.law_runs.proofs.Touching.{Reaches, rests, writes, touches, memory_after, reaches, kinds_stay}

-- ---- an ECALL
-- the instruction at a hart's pc is an ECALL
pub record Calls (x : Hart) (m : Memory) : Type 0 where
  pub word : ℕ
  pub inst : Inst
  pub fetched : fetch x.pc m ≡ Some word
  pub decodes : decoded word ≡ Some inst
  pub calls : does inst x.regs x.pc ≡ Call

effect_calls : (effect : Effect) → is_call effect ≡ true → effect ≡ Call
effect_calls Call e = refl
effect_calls _ e = cc

inst_called : (word : ℕ) (o : Option Inst) (x : Hart) (m : Memory) → fetch x.pc m ≡ Some word → decoded word ≡ o → inst_calls o x ≡ true → Calls x m
inst_called word None x m f d e = cc
inst_called word (Some inst) x m f d e = record { word = word; inst = inst; fetched = f; decodes = d; calls = effect_calls (does inst x.regs x.pc) e }

word_called : (o : Option ℕ) (x : Hart) (m : Memory) → fetch x.pc m ≡ o → word_calls o x ≡ true → Calls x m
word_called None x m f e = cc
word_called (Some word) x m f e = inst_called word (decoded word) x m f refl e

pub called : (x : Hart) (m : Memory) → word_calls (fetch x.pc m) x ≡ true → Calls x m
called x m e = word_called (fetch x.pc m) x m refl e

-- ---- memory
finished_load : (o : Option Accessed) (op : LoadOp) (rd c t : ℕ) (b : Board) → ((finish_load o op rd c t b).breakpoints ≡ b.breakpoints) × ((finish_load o op rd c t b).memory ≡ memory_after o b.memory)
finished_load None op rd c t b = (refl, refl)
finished_load (Some access) op rd c t b = (refl, refl)

finished_store : (o : Option Accessed) (c t : ℕ) (b : Board) → ((finish_store o c t b).breakpoints ≡ b.breakpoints) × ((finish_store o c t b).memory ≡ memory_after o b.memory)
finished_store None c t b = (refl, refl)
finished_store (Some access) c t b = (refl, refl)

finished : (effect : Effect) (c t : ℕ) (b : Board) → ((finish effect c t b).breakpoints ≡ b.breakpoints) × ((finish effect c t b).memory ≡ memory_after (access_of effect b.memory) b.memory)
unfolding finish
finished (Load op rd address) c t b = finished_load (read address (width_of_load op) b.memory) op rd c t b
finished (Store width address value) c t b = finished_store (write address width value b.memory) c t b
finished _ c t b = (refl, refl)

-- ---- a step
-- what a step that answers so leaves of breakpoints and memory
pub record Writes (c : ℕ) (old : Board) (after : Board × Answer) : Type 0 where
  pub breakpoints : after.0.breakpoints ≡ old.breakpoints
  pub kinds : kinds after.0.memory.devices ≡ kinds old.memory.devices
  pub ram : length after.0.memory.ram ≡ length old.memory.ram
  pub memory : MemoryChanges c after.1 old after.0 (line_of_step after.1 old)
  -- a line that is raised is that of a device
  pub line : (l : ℕ) → line_of_step after.1 old ≡ Some l → (i : ℕ) × ((i < length old.memory.devices) × (l ≡ DEVICE_LINE + i))

line_is : (b : Bool) (i l : ℕ) → line_if b i ≡ Some l → l ≡ DEVICE_LINE + i
line_is true i l e = cc
line_is false i l e = cc

module _ (c : ℕ) (b : Board) where
  quietly : (new : Board) (answer : Answer) → line_of_step answer b ≡ None → new.breakpoints ≡ b.breakpoints → new.memory ≡ b.memory → Writes c b (new, answer)
  quietly new answer none e f = record {
    breakpoints = e;
    kinds = ap (λ (m : Memory). kinds m.devices) f;
    ram = ap (λ (m : Memory). length m.ram) f;
    memory = rw none (stands f);
    line = λ l g. let no : None ≡ Some l = sym none ∙ g in cc;
  }

  -- the board with the skip bit off
  abbrev passed : Board
  passed = on_parts (on_processor c (λ p. record p { skip = false })) b

  module _ (t : ℕ) (x : Hart) (now : current c b.parts ≡ Some t) (has : slice_get b.parts.harts t ≡ Some x) where
    wrote : (word : ℕ) (inst : Inst) (line : Option ℕ) (memory : Memory) (parts : Parts) → fetch x.pc b.memory ≡ Some word → decoded word ≡ Some inst → line_of_step (Ran t) b ≡ line → Reaches (does inst x.regs x.pc) b.memory line memory
        → Writes c b (record b { memory = memory; parts = parts }, Ran t)
    wrote word inst _ _ parts f d same rests = quietly (record b { parts = parts }) (Ran t) same refl refl
    wrote word inst _ _ parts f d same (writes width address value ram is there) = record {
      breakpoints = refl;
      kinds = refl;
      ram = length-write_at b.memory.ram address width value ram there;
      memory = rw same (written (record {
        task = t;
        hart = x;
        word = word;
        inst = inst;
        width = width;
        address = address;
        value = value;
        runs = now;
        has = has;
        fetched = f;
        decodes = d;
        stores = is;
        rest = refl;
        ram = there;
      }));
      line = λ l g. let no : None ≡ Some l = sym same ∙ g in cc;
    }
    wrote word inst _ _ parts f d same (touches op address value access accesses touch) = record {
      breakpoints = refl;
      kinds = ap (λ (m : Memory). kinds m.devices) touch.memory ∙ kinds_stay touch.after.words b.memory.devices touch.device;
      ram = ap (λ (m : Memory). length m.ram) touch.memory;
      memory = rw same (touches_device access.line (record {
        task = t;
        hart = x;
        word = word;
        inst = inst;
        op = op;
        address = address;
        value = value;
        device = touch.device;
        register = touch.register;
        attached = touch.attached;
        after = touch.after;
        number = touch.number;
        runs = now;
        ran = refl;
        has = has;
        fetched = f;
        decodes = d;
        accesses = accesses;
        place = touch.place;
        there = touch.there;
        row = touch.row;
        answers = touch.answers;
        rest = rw touch.memory refl;
        devices = rw touch.memory (one_change touch.device (λ (one : Attached). record one { words = touch.after.words }) b.memory.devices);
        raises = touch.raises;
      }));
      line = λ l g. (touch.device, (slice_get-below b.memory.devices touch.device touch.attached touch.there, line_is touch.after.touch.raise touch.device l (sym touch.raises ∙ sym same ∙ g)));
    }

    -- the line of the instruction
    own_line : (word : ℕ) (o : Option Inst) → fetch x.pc b.memory ≡ Some word → decoded word ≡ o → line_of_step (Ran t) b ≡ line_of (inst_access o x b.memory)
    own_line word o f d = ap (λ h. line_of (hart_access h b.memory)) has ∙ ap (λ w. line_of (word_access w x b.memory)) f ∙ ap (λ i. line_of (inst_access i x b.memory)) d

    as_finished : (effect : Effect) → Writes c b (record b { memory = memory_after (access_of effect b.memory) b.memory; parts = settle_and_nudge (Some t) c (finish effect c t passed).parts }, Ran t)
        → Writes c b (on_parts (settle_and_nudge (Some t) c) (finish effect c t passed), Ran t)
    as_finished effect w =
        let f = finished effect c t passed in
        let same : on_parts (settle_and_nudge (Some t) c) (finish effect c t passed)
        ≡ record b { memory = memory_after (access_of effect b.memory) b.memory; parts = settle_and_nudge (Some t) c (finish effect c t passed).parts } =
        ap (λ (m : Memory). record (on_parts (settle_and_nudge (Some t) c) (finish effect c t passed)) { memory = m }) f.1
        ∙ ap (λ bs. record (on_parts (settle_and_nudge (Some t) c) (finish effect c t passed)) { memory = memory_after (access_of effect b.memory) b.memory; breakpoints = bs }) f.0 in
        rw same w

    insts : (word : ℕ) (o : Option Inst) → fetch x.pc b.memory ≡ Some word → decoded word ≡ o → Writes c b (on_parts (settle_and_nudge (Some t) c) (execute_inst o x c t passed), Ran t)
    insts word None f d = quietly _ (Ran t) (own_line word None f d) refl refl
    insts word (Some inst) f d = as_finished (does inst x.regs x.pc) (wrote word inst _ _ _ f d (own_line word (Some inst) f d) (reaches b.memory (does inst x.regs x.pc)))

    words : (o : Option ℕ) → fetch x.pc b.memory ≡ o → Writes c b (on_parts (settle_and_nudge (Some t) c) (execute_word o x c t passed), Ran t)
    words None f = quietly _ (Ran t) (ap (λ h. line_of (hart_access h b.memory)) has ∙ ap (λ w. line_of (word_access w x b.memory)) f) refl refl
    words (Some word) f = insts word (decoded word) f refl

    runs : Writes c b (run x c t b)
    unfolding execute
    runs = words (fetch x.pc b.memory) refl

  either : (p : Bool) (x y : Board × Answer) → Writes c b x → Writes c b y → Writes c b (if p then x else y)
  either true x y g h = g
  either false x y g h = h

  hart_writes : (o : Option Hart) (p : Processor) (t : ℕ) → current c b.parts ≡ Some t → slice_get b.parts.harts t ≡ o → Writes c b (step_hart o p c t b)
  hart_writes None p t now has = quietly b Idle refl refl refl
  hart_writes (Some x) p t now has = either (is_set b.breakpoints x.pc && not p.skip) _ (run x c t b) (quietly _ Hit refl refl refl) (runs t x now has)

  current_writes : (o : Option ℕ) (p : Processor) → current c b.parts ≡ o → Writes c b (step_current o p c b)
  current_writes None p now = quietly _ Idle refl refl refl
  current_writes (Some t) p now = hart_writes (slice_get b.parts.harts t) p t now refl

  wire_writes : (o : Option ℕ) (p : Processor) → current c b.parts ≡ p.current → Writes c b (step_wire o p c b)
  wire_writes None p now = current_writes p.current p now
  wire_writes (Some l) p now = quietly _ (Received l) refl refl refl

  pipe_writes : (o : Option Pipe) (p : Processor) → current c b.parts ≡ p.current → Writes c b (step_pipe o p c b)
  pipe_writes None p now = quietly b Stopped refl refl refl
  pipe_writes (Some pipe) p now = wire_writes (least_line pipe.wire) p now

  processor_writes : (o : Option Processor) → slice_get b.parts.processors c ≡ o → Writes c b (step_processor o c b)
  processor_writes None e = quietly b Stopped refl refl refl
  processor_writes (Some p) e = either p.stopped (b, Stopped) _ (quietly b Stopped refl refl refl) (pipe_writes (slice_get b.parts.pipes c) p (ap current_of e))

  pub step_writes : Writes c b (step c b)
  unfolding step
  step_writes = processor_writes (slice_get b.parts.processors c) refl
