-- What a program puts to its two consoles.
use Rattle.std.specs.Prelude.{◌≡◌, ℕ, ◌+◌, ◌%◌, ◌==◌, ◌&&◌, if◌then◌else◌, List, [], ◌∷◌, ◌++◌, Option, Some, None, Result, Ok, Err, not, slice_get, length}
use Rattle.evm_core.specs.Views.{device_word}
use Rattle.evm_exec.specs.Registers.{register_of}
use Rattle.evm_exec.specs.declared.hart.Hart.{Hart}
use Rattle.evm_model.specs.Calls.{call_row}
use Rattle.evm_model.specs.Current.{current, is_oob}
use Rattle.evm_model.specs.Event.{Event}
use Rattle.evm_model.specs.Harts.{A7, argument}
use Rattle.evm_model.specs.Replay.{apply, IsReplayOf}
use Rattle.evm_model.specs.State.{State}
use Rattle.evm_model.specs.declared.call.Call.TheVariants.{Putc}
use Rattle.evm_model.specs.declared.event.Answer.{Answer}
use Rattle.evm_model.specs.declared.event.Answer.TheVariants.{Ran}
use Rattle.evm_model.specs.declared.event.Event.TheVariants.{Step}
use Rattle.evm_model.specs.declared.refusal.Refusal.{Refusal}
use Rattle.evm_ram.specs.Ram.{bytes_at}
use Rattle.hunt_failures.specs.Failures.{is_ecall}

-- ---- the call putc
-- task t, which has this hart, puts the low byte of a0 by an ECALL with the number of putc in a7, made in-band: out-of-band the call only
-- changes the stage, and is made again
abbrev pub hart_puts : Option Hart → ℕ → State → List ℕ
hart_puts None t s = []
hart_puts (Some hart) t s =
    if register_of hart.regs A7 == (call_row Putc).0 && (is_ecall (bytes_at s.board.memory.ram hart.pc 4) && not (is_oob (Some t) s.board.parts.tasks))
    then argument 0 hart % 256 ∷ []
    else []

abbrev pub task_puts : Option ℕ → State → List ℕ
task_puts None s = []
task_puts (Some t) s = hart_puts (slice_get s.board.parts.harts t) t s

-- what the current task of the processor that an event steps puts, if it does its instruction
abbrev pub puts_ahead : Event → State → List ℕ
puts_ahead (Step c) s = task_puts (current c s.board.parts) s
puts_ahead event s = []

-- whether the event did an instruction
abbrev pub if_ran : Answer → List ℕ → List ℕ
if_ran (Ran t) bytes = bytes
if_ran answer bytes = []

-- ---- the device
-- the low byte of a word, if there is one
abbrev pub byte_of : Option ℕ → List ℕ
byte_of None = []
byte_of (Some word) = word % 256 ∷ []

-- ---- what a run has put
pub record Printed : Type 0 where
  -- the bytes, in the order in which they were put
  pub text : List ℕ
  -- how many of them are words of device 0
  pub device : ℕ

abbrev pub nothing_printed : Printed
nothing_printed = record { text = []; device = 0 }

-- some bytes more
abbrev pub more_printed : List ℕ → Printed → Printed
more_printed bytes so = record so { text = so.text ++ bytes }

-- a word of the device more, if there is one
abbrev pub word_printed : Option ℕ → Printed → Printed
word_printed word so = record { text = so.text ++ byte_of word; device = so.device + length (byte_of word) }

-- device 0 has its next word, or not
abbrev pub device_printed : State → Printed → Printed
device_printed s so = word_printed (device_word 0 so.device s.board.memory.devices) so

-- an event was made: the byte that it put by a call, and the next word of the device
abbrev pub event_printed : Event → State → State × Answer → Printed → Printed
event_printed event s after so = device_printed after.0 (more_printed (if_ran after.1 (puts_ahead event s)) so)

abbrev pub printed_behind : Result (State × Answer) Refusal → Event → State → Printed → (State → Printed → Printed) → Printed
printed_behind (Ok after) event s so others = others after.0 (event_printed event s after so)
printed_behind (Err refusal) event s so others = others s so

-- what events print, one after another, behind what was printed
unfoldable pub printed_by : List Event → State → Printed → Printed
printed_by [] s so = so
printed_by (event ∷ events) s so = printed_behind (apply s event) event s so (printed_by events)

-- the text of the consoles of a machine that its journal has made of another
abbrev pub console_text : State → State → List ℕ
console_text first s = (printed_by s.journal first nothing_printed).text

-- a machine is the replay of its journal, and this is what the events of that have printed
pub record HasPrinted (first s : State) (so : Printed) : Type 0 where
  pub replayed : IsReplayOf first s
  pub printed : printed_by s.journal first nothing_printed ≡ so
