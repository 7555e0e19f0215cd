-- The answers to what GDB asks of the machine.
use Rattle.std.specs.Prelude.{ℕ, Bool, true, false, slice_get, List, ◌++◌, Option, Some, None, Result, Ok, Err, codes, length, take, drop, nat_le, nat_lt, if◌then◌else◌}
use Rattle.evm_exec.specs.declared.hart.Hart.{Hart}
use Rattle.evm_exec.specs.declared.hart.TheConstants.{REGISTERS}
use Rattle.evm_ram.specs.Ram.{bytes_at}
use Rattle.evm_model.specs.State.{State}
use Rattle.evm_model.specs.declared.refusal.Refusal.{Refusal}
use Rattle.evm_model.specs.declared.refusal.Refusal.TheVariants as refusals
use Rattle.gdb_packets.specs.declared.command.Command.{Command}
use Rattle.gdb_packets.specs.declared.command.Command.TheVariants as commands
use Rattle.gdb_tape.specs.gdb_driving.Shown.{error_text, hart_register, halt_text, memory_reply, registers_text, thread_text, threads_text, word_text}
use Rattle.gdb_tape.specs.gdb_driving.declared.stops.TargetHalt.{TargetHalt}
use Rattle.gdb_tape.specs.gdb_driving.declared.stops.Why.{Why}
use Rattle.gdb_tape.specs.gdb_driving.declared.stops.Why.TheVariants as whys

-- ---- questions

-- the registers of a task, or error 5 where there is none
abbrev pub task_registers : Option Hart → List ℕ
task_registers None = error_text 5
task_registers (Some hart) = registers_text hart

abbrev pub task_register : ℕ → Option Hart → List ℕ
task_register r None = error_text 5
task_register r (Some hart) = word_text (hart_register hart r)

-- a register of a task, or error 7 where there is no such register
abbrev pub register_reply : ℕ → Option Hart → List ℕ
register_reply r hart = if nat_lt REGISTERS r then error_text 7 else task_register r hart

-- whether there is a task of a thread; any is there
abbrev pub is_thread : ℕ → Option ℕ → Bool
is_thread count None = true
is_thread count (Some t) = nat_lt t count

abbrev pub alive_text : Bool → List ℕ
alive_text true = codes "OK"
alive_text false = error_text 5

-- the answer to a question about a machine, of which task `looked` is looked at and which is stopped so
abbrev pub answer_text : ℕ → TargetHalt → State → Command → Option (List ℕ)
answer_text looked halt s commands.Why = Some (halt_text halt)
answer_text looked halt s commands.Registers = Some (task_registers (slice_get s.board.parts.harts looked))
answer_text looked halt s (commands.Register r) = Some (register_reply r (slice_get s.board.parts.harts looked))
answer_text looked halt s (commands.Memory address count) = Some (memory_reply (bytes_at s.board.memory.ram address count))
answer_text looked halt s (commands.IsThread thread) = Some (alive_text (is_thread (length s.board.parts.tasks) thread))
answer_text looked halt s commands.Looked = Some (codes "QC" ++ thread_text looked)
answer_text looked halt s commands.Threads = Some (threads_text (length s.board.parts.tasks))
answer_text looked halt s commands.MoreThreads = Some (codes "l")
answer_text looked halt s commands.Attached = Some (codes "1")
answer_text looked halt s _ = None

-- ---- stops

-- a stop at the limit is one at the end of the journal where that lacks room
abbrev pub why_told : Bool → Why → Why
why_told full whys.Limit = if full then whys.Full else whys.Limit
why_told full why = why

-- no room for an event is a stop; another refusal is an error
abbrev pub refusal_told : ℕ → Refusal → Result TargetHalt Refusal
refusal_told looked refusals.Full = Ok (record { task = looked; why = whys.Full })
refusal_told looked refusal = Err refusal

-- how a continue or a step ended, where task `looked` is looked at
abbrev pub outcome_told : Bool → ℕ → Result TargetHalt Refusal → Result TargetHalt Refusal
outcome_told full looked (Ok halt) = Ok (record { task = halt.task; why = why_told full halt.why })
outcome_told full looked (Err refusal) = refusal_told looked refusal

-- ---- documents

-- the part of a document, behind m, or behind l if it is the last
abbrev pub part_text : List ℕ → ℕ → ℕ → List ℕ
part_text document offset count =
    if nat_le (length document) offset then codes "l"
    else (if nat_lt count (length (drop offset document)) then codes "m" ++ take count (drop offset document) else codes "l" ++ drop offset document)
