-- Which events are refused: a table of tests, of which the first that applies, in the order of their numbers, is answered.
use Rattle.std.specs.Prelude.{ℕ, ◌%◌, ◌==◌, List, [], ◌∷◌, Option, Some, None, Bool, true, false, not, ◌&&◌, nat_lt, nat_le, is_none, if◌then◌else◌, slice_get, length}
use Rattle.evm_exec.specs.declared.hart.TheConstants.{REGISTERS}
use Rattle.evm_ram.specs.Ram.{bytes_at}
use Rattle.evm_model.specs.Commands.{is_set}
use Rattle.evm_model.specs.Profiles.{line_count}
use Rattle.evm_model.specs.Settle.{current}
use Rattle.evm_model.specs.State.{State, Board}
use Rattle.evm_model.specs.declared.limits.TheConstants.{BREAKPOINT_LIMIT, POKE_LIMIT}
use Rattle.evm_model.specs.declared.processor.Processor.{Processor}
use Rattle.evm_model.specs.declared.refusal.Refusal.{Refusal}
use Rattle.evm_model.specs.declared.refusal.Refusal.TheVariants.{Full, NoSuchCpu, NoSuchLine, NotStopped, NoTask, BadAddress, BadRegister, NoSlot, NoBreakpoint, BadSize, NoMemory, Started, PortsOut, SeatsOut}
use Rattle.evm_model.specs.Event.{Event}
use Rattle.evm_model.specs.declared.event.Event.TheVariants.{Step, Raise, Bell, Stop, Go, StepI, SetReg, SetPc, Poke, Break, Unbreak}

-- the number of a refusal, as it is reported
abbrev pub number_of : Refusal → ℕ
number_of Full = 1
number_of NoSuchCpu = 2
number_of NoSuchLine = 3
number_of NotStopped = 4
number_of NoTask = 5
number_of BadAddress = 6
number_of BadRegister = 7
number_of NoSlot = 8
number_of NoBreakpoint = 9
number_of BadSize = 10
number_of NoMemory = 11
number_of Started = 12
number_of PortsOut = 13
number_of SeatsOut = 14

abbrev pub no_such_cpu : ℕ → Board → Bool
no_such_cpu c b = is_none (slice_get b.parts.processors c)

abbrev pub no_such_line : ℕ → Board → Bool
no_such_line l b = nat_le (line_count b.parts.profile) l

abbrev pub is_stopped : Option Processor → Bool
is_stopped None = false
is_stopped (Some p) = p.stopped

abbrev pub not_stopped : ℕ → Board → Bool
not_stopped c b = not (is_stopped (slice_get b.parts.processors c))

abbrev pub runs_no_task : ℕ → Board → Bool
runs_no_task c b = is_none (current c b.parts)

abbrev pub bad_register : ℕ → Bool
bad_register r = if r == 0 then true else nat_le REGISTERS r

abbrev pub misaligned : ℕ → Bool
misaligned address = not (address % 4 == 0)

-- the bytes of a poke: 1 to 64 of them, all inside RAM
abbrev pub bad_bytes : ℕ → ℕ → Board → Bool
bad_bytes address count b =
    if count == 0 then true else (if nat_lt POKE_LIMIT count then true else is_none (bytes_at b.memory.ram address count))

-- where a breakpoint may stand: at a multiple of 4 inside RAM
abbrev pub bad_place : ℕ → Board → Bool
bad_place address b = if misaligned address then true else is_none (bytes_at b.memory.ram address 1)

abbrev pub no_slot : ℕ → Board → Bool
no_slot address b = nat_le BREAKPOINT_LIMIT (length b.breakpoints) && not (is_set b.breakpoints address)

-- the event names a processor that isn't there
abbrev pub names_no_cpu : Event → Board → Bool
names_no_cpu (Step c) b = no_such_cpu c b
names_no_cpu (Raise c l) b = no_such_cpu c b
names_no_cpu (Bell c l) b = no_such_cpu c b
names_no_cpu (Stop c) b = no_such_cpu c b
names_no_cpu (Go c) b = no_such_cpu c b
names_no_cpu (StepI c) b = no_such_cpu c b
names_no_cpu (SetReg c r value) b = no_such_cpu c b
names_no_cpu (SetPc c pc) b = no_such_cpu c b
names_no_cpu _ b = false

-- the event names a line that isn't there
abbrev pub names_no_line : Event → Board → Bool
names_no_line (Raise c l) b = no_such_line l b
names_no_line (Bell c l) b = no_such_line l b
names_no_line _ b = false

-- the event wants a stopped processor, and this one isn't
abbrev pub wants_stopped : Event → Board → Bool
wants_stopped (Go c) b = not_stopped c b
wants_stopped (StepI c) b = not_stopped c b
wants_stopped (SetReg c r value) b = not_stopped c b
wants_stopped (SetPc c pc) b = not_stopped c b
wants_stopped _ b = false

-- the event wants a current task, and there is none
abbrev pub wants_task : Event → Board → Bool
wants_task (SetReg c r value) b = runs_no_task c b
wants_task (SetPc c pc) b = runs_no_task c b
wants_task _ b = false

-- the event names an address that won't do
abbrev pub names_bad_address : Event → Board → Bool
names_bad_address (SetPc c pc) b = misaligned pc
names_bad_address (Poke address bytes) b = bad_bytes address (length bytes.items) b
names_bad_address (Break address) b = bad_place address b
names_bad_address (Unbreak address) b = bad_place address b
names_bad_address _ b = false

-- the event names x0, or a register that isn't there
abbrev pub names_bad_register : Event → Board → Bool
names_bad_register (SetReg c r value) b = bad_register r
names_bad_register _ b = false

-- the event wants a place for a breakpoint more, and there is none
abbrev pub wants_slot : Event → Board → Bool
wants_slot (Break address) b = no_slot address b
wants_slot _ b = false

-- the event wants a breakpoint at its address, and none is set there
abbrev pub wants_breakpoint : Event → Board → Bool
wants_breakpoint (Unbreak address) b = not (is_set b.breakpoints address)
wants_breakpoint _ b = false

-- whether an event that finds room in the journal is refused for this reason
abbrev pub applies : Event → Board → Refusal → Bool
applies event b NoSuchCpu = names_no_cpu event b
applies event b NoSuchLine = names_no_line event b
applies event b NotStopped = wants_stopped event b
applies event b NoTask = wants_task event b
applies event b BadAddress = names_bad_address event b
applies event b BadRegister = names_bad_register event b
applies event b NoSlot = wants_slot event b
applies event b NoBreakpoint = wants_breakpoint event b
applies event b _ = false

-- in the order of their numbers
abbrev pub board_refusals : List Refusal
board_refusals =
    NoSuchCpu ∷ NoSuchLine ∷ NotStopped ∷ NoTask ∷ BadAddress ∷ BadRegister ∷ NoSlot ∷ NoBreakpoint ∷ []

-- the first of the refusals that passes a test
abbrev pub first_that : (Refusal → Bool) → List Refusal → Option Refusal
first_that test [] = None
first_that test (refusal ∷ refusals) = if test refusal then Some refusal else first_that test refusals

-- why an event that finds room in the journal is refused
unfoldable pub board_refusal : Event → Board → Option Refusal
board_refusal event b = first_that (applies event b) board_refusals

-- the journal takes no more
abbrev pub is_full : State → Bool
is_full s = nat_le s.boot.capacity (length s.journal)

-- why an event is refused: Full before all others
abbrev pub refusal : Event → State → Option Refusal
refusal event s = if is_full s then Some Full else board_refusal event s.board
