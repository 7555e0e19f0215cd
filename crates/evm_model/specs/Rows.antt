-- What each event does, and answers.
use Rattle.std.specs.Prelude.{ℕ, Option, Some, None, true, false, not, ◌&&◌, if◌then◌else◌, slice_get}
use Rattle.evm_lines.specs.Lines.{least_line}
use Rattle.evm_exec.specs.declared.hart.Hart.{Hart}
use Rattle.evm_model.specs.Actions.{receive_line}
use Rattle.evm_model.specs.Commands.{tick, set_bits, on_current, is_set, set_breakpoint, unset_breakpoint}
use Rattle.evm_model.specs.Devices.{tick_devices}
use Rattle.evm_model.specs.Harts.{set_register, set_pc}
use Rattle.evm_model.specs.Instructions.{execute, stop}
use Rattle.evm_model.specs.Memory.{poke}
use Rattle.evm_model.specs.Pipes.{Pipe, raise}
use Rattle.evm_model.specs.Settle.{settle_and_nudge}
use Rattle.evm_model.specs.State.{Board, on_processor, on_pipe, on_parts, on_memory}
use Rattle.evm_model.specs.declared.event.Answer.{Answer}
use Rattle.evm_model.specs.declared.event.Answer.TheVariants.{Stopped, Received, Idle, Hit, Ran, Done}
use Rattle.evm_model.specs.Event.{Event}
use Rattle.evm_model.specs.declared.event.Event.TheVariants.{Step, Tick, Raise, Bell, Stop, Go, StepI, SetReg, SetPc, Poke, Break, Unbreak}
use Rattle.evm_model.specs.declared.processor.Processor.{Processor}

-- the task does its instruction; the skip bit goes off
abbrev pub run : Hart → ℕ → ℕ → Board → Board × Answer
run hart c t b =
    (on_parts (settle_and_nudge (Some t) c) (execute hart c t (on_parts (on_processor c (λ p. record p { skip = false })) b)), Ran t)

-- unless a breakpoint at its pc stops it, which the skip bit passes once
abbrev pub step_hart : Option Hart → Processor → ℕ → ℕ → Board → Board × Answer
step_hart None p c t b = (b, Idle)
step_hart (Some hart) p c t b =
    if is_set b.breakpoints hart.pc && not p.skip then (on_parts (stop c) b, Hit) else run hart c t b

-- no current task: the processor idles
abbrev pub step_current : Option ℕ → Processor → ℕ → Board → Board × Answer
step_current None p c b = (on_parts (settle_and_nudge None c) b, Idle)
step_current (Some t) p c b = step_hart (slice_get b.parts.harts t) p c t b

-- a line on the wire is received before an instruction, the least first
abbrev pub step_wire : Option ℕ → Processor → ℕ → Board → Board × Answer
step_wire None processor c b = step_current processor.current processor c b
step_wire (Some l) processor c b = (on_parts (λ p. settle_and_nudge processor.current c (receive_line c l p)) b, Received l)

abbrev pub step_pipe : Option Pipe → Processor → ℕ → Board → Board × Answer
step_pipe None p c b = (b, Stopped)
step_pipe (Some pipe) p c b = step_wire (least_line pipe.wire) p c b

abbrev pub step_processor : Option Processor → ℕ → Board → Board × Answer
step_processor None c b = (b, Stopped)
step_processor (Some p) c b = if p.stopped then (b, Stopped) else step_pipe (slice_get b.parts.pipes c) p c b

-- a processor's step: nothing where it is stopped; else it receives, idles, hits a breakpoint or does an instruction
unfoldable pub step : ℕ → Board → Board × Answer
step c b = step_processor (slice_get b.parts.processors c) c b

-- one step of a stopped processor, past a breakpoint at its pc; it is stopped again
unfoldable pub single_step : ℕ → Board → Board
single_step c b = on_parts (set_bits true false c) (step c (on_parts (set_bits false true c) b)).0

-- what an event does, and answers
unfoldable pub row : Event → Board → Board × Answer
row (Step c) b = step c b
row Tick b = (on_parts tick (tick_devices b), Done)
row (Raise c l) b = (on_parts (on_pipe c (raise l)) b, Done)
row (Bell c l) b = (on_parts (on_pipe c (raise l)) b, Done)
row (Stop c) b = (on_parts (stop c) b, Done)
row (Go c) b = (on_parts (set_bits false true c) b, Done)
row (StepI c) b = (single_step c b, Done)
row (SetReg c r value) b = (on_parts (on_current c (set_register r value)) b, Done)
row (SetPc c pc) b = (on_parts (on_current c (set_pc pc)) b, Done)
row (Poke address bytes) b = (on_memory (poke address bytes.items) b, Done)
row (Break address) b = (set_breakpoint address b, Done)
row (Unbreak address) b = (unset_breakpoint address b, Done)
