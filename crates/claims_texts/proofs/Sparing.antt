-- Events that write none of a line's bytes leave its word.
use Rattle.std.proofs.Common.{◌≡◌, ℕ, List, [], ◌∷◌, Bool, true, false, cond, not, ◌&&◌, Option, Some, None, length, option_map, refl, sym, ap, ◌∙◌, subst}
use Rattle.std.specs.Prelude.{slice_get}
use Rattle.std.proofs.lemmas.Option.{same_Some}
use Rattle.evm_isa.specs.Decoded.{decoded}
use Rattle.evm_isa.specs.declared.inst.Inst.{Inst}
use Rattle.evm_isa.specs.declared.inst.LoadOp.{LoadOp}
use Rattle.evm_lines.specs.Lines.{least_line}
use Rattle.evm_elf.specs.evm_asm.declared.output.ProgramLine.{ProgramLine}
use Rattle.evm_dev.specs.Rows.{touched}
use Rattle.evm_dev.specs.Touched.{Touched}
use Rattle.evm_dev.specs.declared.touch.Op.{Op}
use Rattle.evm_dev.specs.declared.touch.Op.TheVariants.{Fetch, Put}
use Rattle.evm_exec.specs.Does.{does}
use Rattle.evm_exec.specs.Memory.{width_of_load}
use Rattle.evm_exec.specs.declared.hart.Hart.{Hart}
use Rattle.evm_exec.specs.declared.outcome.Effect.{Effect}
use Rattle.evm_exec.specs.declared.outcome.Effect.TheVariants.{Next, Load, Store, Call, Break, Misaligned}
use Rattle.evm_ram.specs.Bytes.{little_endian}
use Rattle.evm_ram.specs.Laws.{bytes_at-elsewhere, read_at-elsewhere}
use Rattle.evm_ram.specs.Ram.{read_at, write_at, poke_at}
use Rattle.evm_model.specs.declared.refusal.Refusal.{Refusal}
use Rattle.evm_ram.specs.declared.width.Width.{Width}
use Rattle.evm_ram.specs.declared.width.Width.TheVariants.{Word, Double}
use Rattle.evm_model.specs.Commands.{set_bits, set_breakpoint, unset_breakpoint, is_set}
use Rattle.evm_model.specs.Devices.{Accessed, Attached, answered_by, register_at, tick_devices, touch, touch_device, touch_register}
use Rattle.evm_model.specs.Instructions.{execute, execute_word, execute_inst, finish, finish_load, finish_store, stop}
use Rattle.evm_model.specs.Memory.{fetch, access_device, read, read_ram, write, write_ram, ram_or, poke}
use Rattle.evm_model.specs.Pipes.{Pipe}
use Rattle.evm_model.specs.Refusals.{refusal}
use Rattle.evm_model.specs.Replay.{apply, apply_unless, left_by, replay}
use Rattle.evm_model.specs.Rows.{row, run, step_hart, step_current, step_wire, step_pipe, step_processor, step, single_step}
use Rattle.evm_model.specs.Settle.{current_of}
use Rattle.evm_model.specs.State.{State, Board, Memory, on_parts}
use Rattle.evm_model.specs.declared.event.Answer.{Answer}
use Rattle.evm_model.specs.declared.event.Answer.TheVariants.{Hit, Stopped}
use Rattle.evm_model.specs.Event.{Event}
use Rattle.evm_model.specs.declared.event.Event.TheVariants.{Step, Tick, Raise, Bell, Stop, Go, StepI, SetReg, SetPc, Poke, Break as SetBreak, Unbreak}
use Rattle.evm_model.specs.declared.processor.Processor.{Processor}
use Rattle.evm_model.proofs.Lists.{change-here}
use Rattle.claims_texts.specs.Running.{HasLine, skip_off}
use Rattle.claims_texts.specs.Staying.{IsBeside, EffectSpares, StepSpares, Spares, ALineStays}

-- ---- an access

-- a touch leaves RAM
answered-stays : (l : ProgramLine) (o : Option ℕ) (i : ℕ) (after : Touched) (m : Memory) (a : Accessed) → answered_by o i after m ≡ Some a → HasLine m l → HasLine a.memory l
answered-stays l None i after m a e h = cc
answered-stays l (Some answer) i after m a e h = subst (λ (x : Accessed). HasLine x.memory l) (same_Some _ a e) h

device-stays : (l : ProgramLine) (o : Option Attached) (i : ℕ) (op : Op) (r value : ℕ) (m : Memory) (a : Accessed) → touch_device o i op r value m ≡ Some a → HasLine m l → HasLine a.memory l
device-stays l None i op r value m a e h = cc
device-stays l (Some device) i op r value m a e h =
    answered-stays l (touched device.kind op r value device.words).touch.answer i (touched device.kind op r value device.words) m a e h

register-stays : (l : ProgramLine) (o : Option (ℕ × ℕ)) (op : Op) (value : ℕ) (m : Memory) (a : Accessed) → touch_register o op value m ≡ Some a → HasLine m l → HasLine a.memory l
register-stays l None op value m a e h = cc
register-stays l (Some place) op value m a e h = device-stays l (slice_get m.devices place.0) place.0 op place.1 value m a e h

touch-stays : (l : ProgramLine) (op : Op) (address value : ℕ) (m : Memory) (a : Accessed) → touch op address value m ≡ Some a → HasLine m l → HasLine a.memory l
unfolding touch
touch-stays l op address value m a e h = register-stays l (register_at address) op value m a e h

access-stays : (l : ProgramLine) (op : Op) (width : Width) (address value : ℕ) (m : Memory) (a : Accessed) → access_device op width address value m ≡ Some a → HasLine m l → HasLine a.memory l
access-stays l op Double address value m a e h = touch-stays l op address value m a e h
access-stays l op _ address value m a e h = cc

read_ram-stays : (l : ProgramLine) (o : Option ℕ) (device : Option Accessed) (m : Memory) (a : Accessed) → (device ≡ Some a → HasLine a.memory l) → HasLine m l
    → read_ram o device m ≡ Some a → HasLine a.memory l
read_ram-stays l None device m a touched h e = touched e
read_ram-stays l (Some number) device m a touched h e = subst (λ (x : Accessed). HasLine x.memory l) (same_Some _ a e) h

read-stays : (l : ProgramLine) (address : ℕ) (width : Width) (m : Memory) (a : Accessed) → HasLine m l → read address width m ≡ Some a → HasLine a.memory l
read-stays l address width m a h e =
    read_ram-stays l (read_at m.ram address width) (access_device Fetch width address 0 m) m a (λ f. access-stays l Fetch width address 0 m a f h) h e

write_ram-stays : (l : ProgramLine) (o : Option (List ℕ)) (device : Option Accessed) (m : Memory) (a : Accessed) → ((ram : List ℕ) → o ≡ Some ram → HasLine (record m { ram = ram }) l)
    → (device ≡ Some a → HasLine a.memory l) → write_ram o device m ≡ Some a → HasLine a.memory l
write_ram-stays l None device m a stored touched e = touched e
write_ram-stays l (Some ram) device m a stored touched e = subst (λ (x : Accessed). HasLine x.memory l) (same_Some _ a e) (stored ram refl)

write-stays : (l : ProgramLine) (width : Width) (address value : ℕ) (m : Memory) (a : Accessed) → EffectSpares l (Store width address value) → HasLine m l
    → write address width value m ≡ Some a → HasLine a.memory l
write-stays l width address value m a spares h e =
    write_ram-stays l (write_at m.ram address width value) (access_device Put width address value m) m a
    (λ ram f. read_at-elsewhere m.ram address width value ram l.address Word f spares ∙ h)
    (λ f. access-stays l Put width address value m a f h) e

-- ---- an instruction
load-stays : (l : ProgramLine) (o : Option Accessed) (op : LoadOp) (rd c t : ℕ) (b : Board) → ((a : Accessed) → o ≡ Some a → HasLine a.memory l) → HasLine b.memory l
    → HasLine (finish_load o op rd c t b).memory l
load-stays l None op rd c t b accessed h = h
load-stays l (Some a) op rd c t b accessed h = accessed a refl

store-stays : (l : ProgramLine) (o : Option Accessed) (c t : ℕ) (b : Board) → ((a : Accessed) → o ≡ Some a → HasLine a.memory l) → HasLine b.memory l
    → HasLine (finish_store o c t b).memory l
store-stays l None c t b accessed h = h
store-stays l (Some a) c t b accessed h = accessed a refl

finish-stays : (l : ProgramLine) (effect : Effect) (c t : ℕ) (b : Board) → EffectSpares l effect → HasLine b.memory l → HasLine (finish effect c t b).memory l
unfolding finish
finish-stays l (Next rd value pc) c t b spares h = h
finish-stays l (Load op rd address) c t b spares h =
    load-stays l (read address (width_of_load op) b.memory) op rd c t b (λ a e. read-stays l address (width_of_load op) b.memory a h e) h
finish-stays l (Store width address value) c t b spares h =
    store-stays l (write address width value b.memory) c t b (λ a e. write-stays l width address value b.memory a spares h e) h
finish-stays l Call c t b spares h = h
finish-stays l Break c t b spares h = h
finish-stays l Misaligned c t b spares h = h

-- the instruction at the pc of a hart writes none of the line's bytes
HartSpares : ProgramLine → Hart → Memory → Type 0
HartSpares l hart m = (word : ℕ) (inst : Inst) → fetch hart.pc m ≡ Some word → decoded word ≡ Some inst → EffectSpares l (does inst hart.regs hart.pc)

inst-stays : (l : ProgramLine) (o : Option Inst) (hart : Hart) (c t : ℕ) (b : Board) → ((inst : Inst) → o ≡ Some inst → EffectSpares l (does inst hart.regs hart.pc))
    → HasLine b.memory l → HasLine (execute_inst o hart c t b).memory l
inst-stays l None hart c t b spares h = h
inst-stays l (Some inst) hart c t b spares h = finish-stays l (does inst hart.regs hart.pc) c t b (spares inst refl) h

word-stays : (l : ProgramLine) (o : Option ℕ) (hart : Hart) (c t : ℕ) (b : Board)
    → ((word : ℕ) (inst : Inst) → o ≡ Some word → decoded word ≡ Some inst → EffectSpares l (does inst hart.regs hart.pc))
    → HasLine b.memory l → HasLine (execute_word o hart c t b).memory l
word-stays l None hart c t b spares h = h
word-stays l (Some word) hart c t b spares h = inst-stays l (decoded word) hart c t b (λ inst e. spares word inst refl e) h

execute-stays : (l : ProgramLine) (hart : Hart) (c t : ℕ) (b : Board) → HartSpares l hart b.memory → HasLine b.memory l → HasLine (execute hart c t b).memory l
unfolding execute HartSpares
execute-stays l hart c t b spares h = word-stays l (fetch hart.pc b.memory) hart c t b spares h

-- ---- a step
either-stays : (l : ProgramLine) (test : Bool) (yes' no' : Board × Answer) → HasLine yes'.0.memory l → HasLine no'.0.memory l → HasLine (cond test yes' no').0.memory l
either-stays l true yes' no' h g = h
either-stays l false yes' no' h g = g

hart-stays : (l : ProgramLine) (o : Option Hart) (p : Processor) (c t : ℕ) (b : Board) → ((hart : Hart) → o ≡ Some hart → HartSpares l hart b.memory)
    → HasLine b.memory l → HasLine (step_hart o p c t b).0.memory l
hart-stays l None p c t b spares h = h
hart-stays l (Some hart) p c t b spares h =
    either-stays l (is_set b.breakpoints hart.pc && not p.skip) (on_parts (stop c) b, Hit) (run hart c t b)
    h (execute-stays l hart c t (skip_off c b) (spares hart refl) h)

-- .. of the current task, where it is this one
CurrentSpares : ProgramLine → Option ℕ → Board → Type 0
CurrentSpares l o b = (t : ℕ) (hart : Hart) → o ≡ Some t → slice_get b.parts.harts t ≡ Some hart → HartSpares l hart b.memory

current-stays : (l : ProgramLine) (o : Option ℕ) (p : Processor) (c : ℕ) (b : Board) → CurrentSpares l o b → HasLine b.memory l
    → HasLine (step_current o p c b).0.memory l
unfolding CurrentSpares
current-stays l None p c b spares h = h
current-stays l (Some t) p c b spares h = hart-stays l (slice_get b.parts.harts t) p c t b (λ hart e. spares t hart refl e) h

wire-stays : (l : ProgramLine) (o : Option ℕ) (p : Processor) (c : ℕ) (b : Board) → CurrentSpares l p.current b → HasLine b.memory l
    → HasLine (step_wire o p c b).0.memory l
wire-stays l None p c b spares h = current-stays l p.current p c b spares h
wire-stays l (Some line) p c b spares h = h

pipe-stays : (l : ProgramLine) (o : Option Pipe) (p : Processor) (c : ℕ) (b : Board) → CurrentSpares l p.current b → HasLine b.memory l
    → HasLine (step_pipe o p c b).0.memory l
pipe-stays l None p c b spares h = h
pipe-stays l (Some pipe) p c b spares h = wire-stays l (least_line pipe.wire) p c b spares h

processor-stays : (l : ProgramLine) (o : Option Processor) (c : ℕ) (b : Board) → CurrentSpares l (current_of o) b → HasLine b.memory l
    → HasLine (step_processor o c b).0.memory l
processor-stays l None c b spares h = h
processor-stays l (Some p) c b spares h =
    either-stays l p.stopped (b, Stopped) (step_pipe (slice_get b.parts.pipes c) p c b) h
    (pipe-stays l (slice_get b.parts.pipes c) p c b spares h)

step-stays : (l : ProgramLine) (c : ℕ) (b : Board) → StepSpares l c b → HasLine b.memory l → HasLine (step c b).0.memory l
unfolding step CurrentSpares HartSpares
step-stays l c b spares h = processor-stays l (slice_get b.parts.processors c) c b (λ t hart e there word inst. spares t hart word inst e there) h

-- ---- a single step
same_current : (o : Option Processor) (f : Processor → Processor) → ((p : Processor) → (f p).current ≡ p.current) → current_of (option_map f o) ≡ current_of o
same_current None f same = refl
same_current (Some p) f same = same p

bits-spare : (l : ProgramLine) (stopped skip : Bool) (c : ℕ) (b : Board) → StepSpares l c b → StepSpares l c (on_parts (set_bits stopped skip c) b)
unfolding set_bits
bits-spare l stopped skip c b spares = λ t hart word inst runs.
    let bits = λ (p : Processor). record p { stopped = stopped; skip = skip } in
    let same = ap current_of (change-here bits b.parts.processors c) ∙ same_current (slice_get b.parts.processors c) bits (λ p. refl) in
    spares t hart word inst (sym same ∙ runs)

single-stays : (l : ProgramLine) (c : ℕ) (b : Board) → StepSpares l c b → HasLine b.memory l → HasLine (single_step c b).memory l
unfolding single_step
single-stays l c b spares h = step-stays l c (on_parts (set_bits false true c) b) (bits-spare l false true c b spares) h

-- ---- an event
ram_or-stays : (l : ProgramLine) (o : Option (List ℕ)) (address : ℕ) (bytes : List ℕ) (m : Memory) → poke_at m.ram address bytes ≡ o
    → IsBeside l address (length bytes) → HasLine m l → HasLine (ram_or o m) l
unfolding read_at
ram_or-stays l None address bytes m there beside h = h
ram_or-stays l (Some ram) address bytes m there beside h =
    ap (option_map little_endian) (bytes_at-elsewhere m.ram address bytes ram l.address 4 there beside) ∙ h

row-stays : (l : ProgramLine) (event : Event) (b : Board) → Spares l event b → HasLine b.memory l → HasLine (row event b).0.memory l
unfolding row poke set_breakpoint unset_breakpoint tick_devices
row-stays l (Step c) b spares h = step-stays l c b spares h
row-stays l Tick b spares h = h
row-stays l (Raise c line) b spares h = h
row-stays l (Bell c line) b spares h = h
row-stays l (Stop c) b spares h = h
row-stays l (Go c) b spares h = h
row-stays l (StepI c) b spares h = single-stays l c b spares h
row-stays l (SetReg c r value) b spares h = h
row-stays l (SetPc c pc) b spares h = h
row-stays l (Poke address bytes) b spares h = ram_or-stays l (poke_at b.memory.ram address bytes.items) address bytes.items b.memory refl spares h
row-stays l (SetBreak address) b spares h = h
row-stays l (Unbreak address) b spares h = h

outcome-stays : (l : ProgramLine) (o : Option Refusal) (s : State) (event : Event) → Spares l event s.board → HasLine s.board.memory l
    → HasLine (left_by (apply_unless o event s) s).board.memory l
outcome-stays l (Some refusal) s event spares h = h
outcome-stays l None s event spares h = row-stays l event s.board spares h

event-stays : (l : ProgramLine) (s : State) (event : Event) → Spares l event s.board → HasLine s.board.memory l → HasLine (left_by (apply s event) s).board.memory l
unfolding apply
event-stays l s event spares h = outcome-stays l (refusal event s) s event spares h

pub a_line_stays : ALineStays
unfolding replay
a_line_stays l s [] spare h = h
a_line_stays l s (event ∷ events) spare h = a_line_stays l (left_by (apply s event) s) events spare.1 (event-stays l s event spare.0 h)
