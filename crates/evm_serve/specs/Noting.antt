-- What is noted of a line of a script that a machine does.
use Rattle.std.specs.Prelude.{ℕ, zero, suc, Bool, true, false, List, [], Option, Some, None, Result, Ok, Err, slice_get, slice_index}
use Rattle.std.specs.Str.{bytes_eq}
use Rattle.evm_exec.specs.declared.hart.Hart.{Hart}
use Rattle.evm_ram.specs.Ram.{bytes_at}
use Rattle.evm_model.specs.Event.{Event}
use Rattle.evm_model.specs.Replay.{apply}
use Rattle.evm_model.specs.State.{State}
use Rattle.evm_model.specs.declared.event.Answer.{Answer}
use Rattle.evm_model.specs.declared.event.Event.TheVariants.{Step, StepI}
use Rattle.evm_model.specs.declared.processor.Processor.{Processor}
use Rattle.evm_model.specs.declared.refusal.Refusal.{Refusal}
use Rattle.evm_diagnostics.specs.evm_core.Views.{wire_of}
use Rattle.evm_diagnostics.specs.evm_debug.declared.line.Line.{Line}
use Rattle.evm_diagnostics.specs.evm_debug.declared.line.Line.TheVariants.{Steps, One}
use Rattle.evm_serve.specs.Noted.{noted_ahead, noted_step, line_begun}
use Rattle.evm_serve.specs.Notes.{Noted}
use Rattle.evm_serve.specs.declared.notes.Ahead.{Ahead}
use Rattle.evm_serve.specs.declared.noting.TheConstants.{ECALL}

-- ---- the instruction that a task comes to next

abbrev pub is_call_word : Option (List ℕ) → Bool
is_call_word None = false
is_call_word (Some word) = bytes_eq word ECALL.now

abbrev pub called_number : Bool → Hart → Option ℕ
called_number true hart = Some (slice_index hart.regs 17)
called_number false hart = None

-- of task t, which has this hart
abbrev pub ahead_at : ℕ → Hart → State → Ahead
ahead_at t hart s = record { task = t; a0 = slice_index hart.regs 10; call = called_number (is_call_word (bytes_at s.board.memory.ram hart.pc 4)) hart }

abbrev pub hart_ahead : Option Hart → ℕ → State → Option Ahead
hart_ahead None t s = None
hart_ahead (Some hart) t s = Some (ahead_at t hart s)

abbrev pub current_ahead : Option ℕ → State → Option Ahead
current_ahead None s = None
current_ahead (Some t) s = hart_ahead (slice_get s.board.parts.harts t) t s

abbrev pub processor_ahead : Option Processor → State → Option Ahead
processor_ahead None s = None
processor_ahead (Some p) s = current_ahead p.current s

-- of processor c
abbrev pub ahead_of : ℕ → State → Option Ahead
ahead_of c s = processor_ahead (slice_get s.board.parts.processors c) s

-- that a step of a stopped processor does: none if a line on its wire comes first
abbrev pub behind_wire : Option (List ℕ) → Option Ahead → Option Ahead
behind_wire (Some []) ahead = ahead
behind_wire wire ahead = None

abbrev pub single_ahead : ℕ → State → Option Ahead
single_ahead c s = behind_wire (wire_of (slice_get s.board.parts.pipes c)) (ahead_of c s)

abbrev pub event_ahead : Event → State → Option Ahead
event_ahead (StepI c) s = single_ahead c s
event_ahead event s = None

-- ---- the notes of a line

abbrev pub noted_behind : Result (State × Answer) Refusal → Option Ahead → Noted → (State → Noted → Noted) → Noted
noted_behind (Ok after) ahead notes others = others after.0 (noted_step after.1 ahead notes)
noted_behind (Err refusal) ahead notes others = notes

-- n Steps of processor c
unfoldable pub noted_steps : ℕ → ℕ → State → Noted → Noted
noted_steps c zero s notes = notes
noted_steps c (suc n) s notes = noted_behind (apply s (Step c)) (ahead_of c s) notes (noted_steps c n)

abbrev pub noted_line : Line → State → Noted → Noted
noted_line (Steps c n) s notes = noted_steps c n s notes
noted_line (One event) s notes = noted_ahead (event_ahead event s) notes
noted_line line s notes = notes

-- a line that was read, and done
abbrev pub noted_read : Option Line → State → Noted → Noted
noted_read None s notes = line_begun notes
noted_read (Some line) s notes = noted_line line s (line_begun notes)
