-- What packets show of the machine: registers, bytes, threads and stops.
use Rattle.std.specs.Prelude.{ℕ, zero, suc, ◌+◌, ◌%◌, List, [], ◌∷◌, ◌++◌, Option, Some, None, Result, Ok, Err, codes, nat_lt, if◌then◌else◌, ◌==◌}
use Rattle.std.specs.Int.{w64, to_be_bytes, to_le_bytes}
use Rattle.evm_text.specs.Written.{pairs}
use Rattle.evm_exec.specs.Registers.{register_of}
use Rattle.evm_exec.specs.declared.hart.Hart.{Hart}
use Rattle.evm_exec.specs.declared.hart.TheConstants.{REGISTERS}
use Rattle.evm_model.specs.Refusals.{number_of}
use Rattle.evm_model.specs.declared.fault.Fault.TheVariants as faults
use Rattle.evm_model.specs.declared.refusal.Refusal.{Refusal}
use Rattle.gdb_packets.specs.declared.command.WatchKind.{WatchKind}
use Rattle.gdb_packets.specs.declared.command.WatchKind.TheVariants.{Write, Read, Access}
use Rattle.gdb_driving.specs.declared.stops.TargetHalt.{TargetHalt}
use Rattle.gdb_driving.specs.declared.stops.Why.{Why}
use Rattle.gdb_driving.specs.declared.stops.Why.TheVariants.{Asked, SoftwareBreak, HardwareBreak, Watched, Ebreak, Faulted, Interrupted, Limit, Full, Idle, AtBegin, AtEnd}

-- a number of 64 bits, its low byte first
abbrev pub word_text : ℕ → List ℕ
word_text word = pairs (to_le_bytes w64 word)

-- the thread of a task
abbrev pub thread_text : ℕ → List ℕ
thread_text task = pairs ((task + 1) % 256 ∷ [])

-- E and a number of two digits
abbrev pub error_text : ℕ → List ℕ
error_text number = codes "E" ++ pairs (number ∷ [])

-- OK, or the error of a refusal
abbrev pub outcome_text : Result (Unit {0}) Refusal → List ℕ
outcome_text (Ok done) = codes "OK"
outcome_text (Err refusal) = error_text (number_of refusal)

-- ---- registers

-- register r, and the pc behind them
abbrev pub hart_register : Hart → ℕ → ℕ
hart_register hart r = if r == REGISTERS then hart.pc else (if nat_lt r REGISTERS then register_of hart.regs r else 0)

-- the first registers
unfoldable pub register_texts : ℕ → Hart → List ℕ
register_texts zero hart = []
register_texts (suc r) hart = register_texts r hart ++ word_text (hart_register hart r)

-- all of them, and the pc
abbrev pub registers_text : Hart → List ℕ
registers_text hart = register_texts (REGISTERS + 1) hart

-- ---- memory

-- bytes of RAM, or error 6 where one is outside
abbrev pub memory_reply : Option (List ℕ) → List ℕ
memory_reply None = error_text 6
memory_reply (Some bytes) = pairs bytes

-- ---- threads

-- a thread, behind a comma if it is not the first
abbrev pub listed_text : ℕ → List ℕ
listed_text t = if t == 0 then thread_text t else codes "," ++ thread_text t

-- the threads of the tasks below a number
unfoldable pub thread_texts : ℕ → List ℕ
thread_texts zero = []
thread_texts (suc t) = thread_texts t ++ listed_text t

abbrev pub threads_text : ℕ → List ℕ
threads_text count = codes "m" ++ thread_texts count

-- ---- stops

-- the signal of a stop
abbrev pub signal_of : Why → ℕ
signal_of Asked = 5
signal_of SoftwareBreak = 5
signal_of HardwareBreak = 5
signal_of (Watched kind address) = 5
signal_of Ebreak = 5
signal_of (Faulted faults.Misaligned) = 10
signal_of (Faulted faults.Fetch) = 11
signal_of (Faulted faults.Illegal) = 4
signal_of (Faulted faults.Load) = 11
signal_of (Faulted faults.Store) = 11
signal_of Interrupted = 2
signal_of Limit = 2
signal_of Full = 2
signal_of Idle = 0
signal_of AtBegin = 5
signal_of AtEnd = 5

-- the word of a watchpoint that was met
abbrev pub watch_word : WatchKind → List ℕ
watch_word Write = codes ";watch:"
watch_word Read = codes ";rwatch:"
watch_word Access = codes ";awatch:"

-- an address, its high byte first
abbrev pub address_text : ℕ → List ℕ
address_text address = pairs (to_be_bytes w64 address)

abbrev pub reason_text : Why → List ℕ
reason_text SoftwareBreak = codes ";swbreak:;"
reason_text HardwareBreak = codes ";hwbreak:;"
reason_text (Watched kind address) = watch_word kind ++ address_text address ++ codes ";"
reason_text AtBegin = codes ";replaylog:begin;"
reason_text AtEnd = codes ";replaylog:end;"
reason_text _ = codes ";"

-- T, the signal, the thread, and at which kind of breakpoint or watchpoint, or end of the session, it is
abbrev pub halt_text : TargetHalt → List ℕ
halt_text halt = codes "T" ++ pairs (signal_of halt.why ∷ []) ++ codes "thread:" ++ thread_text halt.task ++ reason_text halt.why
