-- RAM keeps its size, and the devices stay such as there may be.
use Rattle.std.proofs.Common.{◌≡◌, ℕ, List, Bool, true, false, not, ◌&&◌, Option, Some, None, length, refl}
use Rattle.std.specs.Prelude.{slice_get, if◌then◌else◌}
use Rattle.evm_lines.specs.Lines.{least_line}
use Rattle.evm_isa.specs.Decoded.{decoded}
use Rattle.evm_isa.specs.declared.inst.Inst.{Inst}
use Rattle.evm_isa.specs.declared.inst.LoadOp.{LoadOp}
use Rattle.evm_exec.specs.Does.{does}
use Rattle.evm_exec.specs.Memory.{width_of_load}
use Rattle.evm_exec.specs.declared.hart.Hart.{Hart}
use Rattle.evm_exec.specs.declared.outcome.Effect.{Effect}
use Rattle.evm_exec.specs.declared.outcome.Effect.TheVariants.{Next, Load, Store, Call, Break, Misaligned}
use Rattle.evm_ram.specs.Ram.{poke_at}
use Rattle.evm_ram.specs.Laws.{length-poke_at}
use Rattle.evm_model.specs.Commands.{set_bits, is_set, set_breakpoint, unset_breakpoint}
use Rattle.evm_model.specs.Devices.{Accessed, tick_devices}
use Rattle.evm_model.specs.Instructions.{stop, finish_load, finish_store, finish, execute_inst, execute_word, execute}
use Rattle.evm_model.specs.Memory.{fetch, read, write, ram_or, poke}
use Rattle.evm_model.specs.Pipes.{Pipe}
use Rattle.evm_model.specs.Rows.{run, step_hart, step_current, step_wire, step_pipe, step_processor, step, single_step, row}
use Rattle.evm_model.specs.State.{Memory, Board, on_parts, on_processor}
use Rattle.evm_model.specs.declared.event.Answer.TheVariants.{Stopped, Hit}
use Rattle.evm_model.specs.Event.{Event}
use Rattle.evm_model.specs.declared.event.Event.TheVariants.{Step, Tick, Raise, Bell, Stop, Go, StepI, SetReg, SetPc, Poke, Break as Set_break, Unbreak}
use Rattle.evm_model.specs.declared.processor.Processor.{Processor}
use Rattle.law_rules.proofs.Devices.{KeepsMemory, keeps, KeepsAccess, read-keeps, write-keeps, devices-ticked}

poked : (o : Option (List ℕ)) (m : Memory) → ((ram : List ℕ) → o ≡ Some ram → length ram ≡ length m.ram) → KeepsMemory m (ram_or o m)
poked None m h = keeps m
poked (Some ram) m h = record { ram = h ram refl; devices = λ are. are }

pub poke-ram : (address : ℕ) (bytes : List ℕ) (m : Memory) → KeepsMemory m (poke address bytes m)
unfolding poke
poke-ram address bytes m = poked (poke_at m.ram address bytes) m (λ ram f. length-poke_at m.ram address bytes ram f)

-- ---- an instruction
module _ (c t : ℕ) where
  load-ram : (o : Option Accessed) (op : LoadOp) (rd : ℕ) (b : Board) → KeepsAccess b.memory o → KeepsMemory b.memory (finish_load o op rd c t b).memory
  load-ram None op rd b kept = keeps b.memory
  load-ram (Some access) op rd b kept = kept.after access refl

  store-ram : (o : Option Accessed) (b : Board) → KeepsAccess b.memory o → KeepsMemory b.memory (finish_store o c t b).memory
  store-ram None b kept = keeps b.memory
  store-ram (Some access) b kept = kept.after access refl

  finish-ram : (effect : Effect) (b : Board) → KeepsMemory b.memory (finish effect c t b).memory
  unfolding finish
  finish-ram (Next rd value pc) b = keeps b.memory
  finish-ram (Load op rd address) b = load-ram (read address (width_of_load op) b.memory) op rd b (read-keeps b.memory address (width_of_load op))
  finish-ram (Store width address value) b = store-ram (write address width value b.memory) b (write-keeps b.memory address width value)
  finish-ram Call b = keeps b.memory
  finish-ram Break b = keeps b.memory
  finish-ram Misaligned b = keeps b.memory

  inst-ram : (o : Option Inst) (hart : Hart) (b : Board) → KeepsMemory b.memory (execute_inst o hart c t b).memory
  inst-ram None hart b = keeps b.memory
  inst-ram (Some inst) hart b = finish-ram (does inst hart.regs hart.pc) b

  word-ram : (o : Option ℕ) (hart : Hart) (b : Board) → KeepsMemory b.memory (execute_word o hart c t b).memory
  word-ram None hart b = keeps b.memory
  word-ram (Some word) hart b = inst-ram (decoded word) hart b

pub execute-ram : (hart : Hart) (c t : ℕ) (b : Board) → KeepsMemory b.memory (execute hart c t b).memory
unfolding execute
execute-ram hart c t b = word-ram c t (fetch hart.pc b.memory) hart b

-- ---- a Step
hart-if_ram : (hit : Bool) (hart : Hart) (c t : ℕ) (b : Board) → KeepsMemory b.memory (if hit then (on_parts (stop c) b, Hit) else run hart c t b).0.memory
hart-if_ram true hart c t b = keeps b.memory
hart-if_ram false hart c t b = execute-ram hart c t (on_parts (on_processor c (λ p. record p { skip = false })) b)

hart-ram : (o : Option Hart) (p : Processor) (c t : ℕ) (b : Board) → KeepsMemory b.memory (step_hart o p c t b).0.memory
hart-ram None p c t b = keeps b.memory
hart-ram (Some hart) p c t b = hart-if_ram (is_set b.breakpoints hart.pc && not p.skip) hart c t b

current-ram : (o : Option ℕ) (p : Processor) (c : ℕ) (b : Board) → KeepsMemory b.memory (step_current o p c b).0.memory
current-ram None p c b = keeps b.memory
current-ram (Some t) p c b = hart-ram (slice_get b.parts.harts t) p c t b

wire-ram : (o : Option ℕ) (p : Processor) (c : ℕ) (b : Board) → KeepsMemory b.memory (step_wire o p c b).0.memory
wire-ram None p c b = current-ram p.current p c b
wire-ram (Some l) p c b = keeps b.memory

pipe-ram : (o : Option Pipe) (p : Processor) (c : ℕ) (b : Board) → KeepsMemory b.memory (step_pipe o p c b).0.memory
pipe-ram None p c b = keeps b.memory
pipe-ram (Some pipe) p c b = wire-ram (least_line pipe.wire) p c b

processor-ram : (o : Option Processor) (c : ℕ) (b : Board) → KeepsMemory b.memory (step_processor o c b).0.memory
processor-ram None c b = keeps b.memory
processor-ram (Some p) c b = elim p.stopped as (λ (s : Bool). KeepsMemory b.memory (if s then (b, Stopped) else step_pipe (slice_get b.parts.pipes c) p c b).0.memory) [
  | true ↦ keeps b.memory
  | false ↦ pipe-ram (slice_get b.parts.pipes c) p c b
]

pub step-ram : (c : ℕ) (b : Board) → KeepsMemory b.memory (step c b).0.memory
unfolding step
step-ram c b = processor-ram (slice_get b.parts.processors c) c b

single-ram : (c : ℕ) (b : Board) → KeepsMemory b.memory (single_step c b).memory
unfolding single_step
single-ram c b = step-ram c (on_parts (set_bits false true c) b)

-- ---- each event
pub row-ram : (event : Event) (b : Board) → KeepsMemory b.memory (row event b).0.memory
unfolding row tick_devices set_breakpoint unset_breakpoint
row-ram (Step c) b = step-ram c b
row-ram Tick b = record { ram = refl; devices = λ are. devices-ticked b.memory.devices are }
row-ram (Raise c l) b = keeps b.memory
row-ram (Bell c l) b = keeps b.memory
row-ram (Stop c) b = keeps b.memory
row-ram (Go c) b = keeps b.memory
row-ram (StepI c) b = single-ram c b
row-ram (SetReg c r value) b = keeps b.memory
row-ram (SetPc c pc) b = keeps b.memory
row-ram (Poke address bytes) b = poke-ram address bytes.items b.memory
row-ram (Set_break address) b = keeps b.memory
row-ram (Unbreak address) b = keeps b.memory
