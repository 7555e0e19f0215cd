-- What is written of each item of a journal: an entry, which is a row of numbers.
use Rattle.std.specs.Prelude.{ℕ, ◌+◌, ◌-◌, ◌*◌, ◌/◌, ◌%◌, ◌^◌, ◌==◌, List, [], ◌∷◌, ◌++◌, Option, Some, None, Bool, true, false, flat_map, if◌then◌else◌, nat_lt}
use Rattle.text_markup.specs.Text.{text}
use Rattle.evm_model.specs.declared.event.Event.{Event as EventOf}
use Rattle.evm_model.specs.declared.event.Event.TheVariants.{Step, Tick, Raise, Bell, Stop, Go, StepI, SetReg, SetPc, Poke, Break, Unbreak}
use Rattle.evm_model.specs.declared.fault.Fault.{Fault}
use Rattle.evm_model.specs.declared.fault.Fault.TheVariants as faults
use Rattle.evm_model.specs.declared.notice.NoticeKind.{NoticeKind}
use Rattle.evm_model.specs.declared.notice.NoticeKind.TheVariants.{DemotedByCall, DemotedByFault, Deadlock, NotOwner, Overran}
use Rattle.evm_model.specs.declared.stage.Stage.{Stage}
use Rattle.evm_model.specs.declared.stage.Stage.TheVariants.{OutOfBand, InBand}
use Rattle.evm_model.specs.declared.task.Wait.{Wait}
use Rattle.evm_model.specs.declared.task.Wait.TheVariants as waits
use Rattle.run_walk.specs.declared.item.Item.{Item}
use Rattle.run_marks.specs.declared.mark.Mark.{Mark}
use Rattle.run_marks.specs.declared.mark.Mark.TheVariants as marks
use Rattle.view_page.specs.Rows.{row_json}

-- ---- an event: its kind and its processor, and what it names
-- a number of 64 bits in two halves
abbrev pub long_numbers : ℕ → ℕ → List ℕ
long_numbers code value = code ∷ value / 2 ^ 32 ∷ value % 2 ^ 32 ∷ []

unfoldable pub machine_numbers : EventOf ℕ → List ℕ
machine_numbers Tick = 72 ∷ []
machine_numbers (Poke address count) = long_numbers 73 address ++ count ∷ []
machine_numbers (Break address) = long_numbers 74 address
machine_numbers (Unbreak address) = long_numbers 75 address
machine_numbers _ = []

unfoldable pub event_numbers : Bool → EventOf ℕ → List ℕ
event_numbers quiet (Step c) = if quiet then (c ∷ []) else ((8 + c) ∷ [])
event_numbers quiet (Raise c line) = (16 + c) ∷ line ∷ []
event_numbers quiet (Bell c line) = (24 + c) ∷ line ∷ []
event_numbers quiet (Stop c) = (32 + c) ∷ []
event_numbers quiet (Go c) = (40 + c) ∷ []
event_numbers quiet (StepI c) = (48 + c) ∷ []
event_numbers quiet (SetReg c register value) = long_numbers (56 + c) value ++ register ∷ []
event_numbers quiet (SetPc c pc) = long_numbers (64 + c) pc
event_numbers quiet event = machine_numbers event

-- 0 of no address, 1 of one below RAM, and from 2 on those from the begin of RAM
abbrev pub place_number : Option ℕ → ℕ
place_number None = 0
place_number (Some address) = if nat_lt address (2 ^ 31) then 1 else address - 2 ^ 31 + 2

-- where the instruction of a Step is
abbrev pub place_numbers : EventOf ℕ → Option ℕ → List ℕ
place_numbers (Step c) pc = place_number pc ∷ []
place_numbers _ pc = []

-- how many events there are, if there is not one
abbrev pub count_numbers : ℕ → List ℕ
count_numbers count = if count == 1 then [] else (99 ∷ count ∷ [])

unfoldable pub head_numbers : Item → List ℕ
head_numbers item = event_numbers item.quiet item.event ++ (place_numbers item.event item.pc ++ count_numbers item.count)

-- ---- a mark
abbrev pub yes : Bool → ℕ
yes true = 1
yes false = 0

abbrev pub stage_number : Stage → ℕ
stage_number OutOfBand = 0
stage_number InBand = 1

abbrev pub fault_code : Fault → ℕ
fault_code faults.Misaligned = 0
fault_code faults.Fetch = 1
fault_code faults.Illegal = 2
fault_code faults.Load = 5
fault_code faults.Store = 7

abbrev pub notice_code : NoticeKind → ℕ
notice_code DemotedByCall = 1
notice_code DemotedByFault = 2
notice_code Deadlock = 3
notice_code NotOwner = 4
notice_code Overran = 5

-- 0, or 1 more than the number of a task
abbrev pub owner_number : Option ℕ → ℕ
owner_number None = 0
owner_number (Some task) = task + 1

-- a line that was raised (0), received (1), played out-of-band (2) or in-band (3), once or more often
abbrev pub line_numbers : ℕ → ℕ → ℕ → ℕ → List ℕ
line_numbers passage cpu line times =
    if times == 1 then ((1000 + (passage * 512 + cpu * 64 + line)) ∷ []) else ((4000 + (passage * 512 + cpu * 64 + line)) ∷ times ∷ [])

abbrev pub wait_numbers : Wait → List ℕ
wait_numbers (waits.Line line) = 1 ∷ line ∷ []
wait_numbers (waits.Lock mutex) = 2 ∷ mutex ∷ []
wait_numbers (waits.Reacquire mutex answer) = 3 ∷ mutex ∷ []
wait_numbers (waits.Semaphore semaphore) = 4 ∷ semaphore ∷ []
wait_numbers (waits.Event event) = 5 ∷ event ∷ []
wait_numbers (waits.Flags group) = 6 ∷ group ∷ []
wait_numbers waits.Sleep = 7 ∷ 0 ∷ []
wait_numbers (waits.Timer timer) = 8 ∷ timer ∷ []

unfoldable pub processor_numbers : Mark → List ℕ
processor_numbers (marks.Runs cpu task stage) = 100 ∷ cpu ∷ task ∷ stage_number stage ∷ []
processor_numbers (marks.Idles cpu) = 101 ∷ cpu ∷ []
processor_numbers (marks.Stop cpu on) = 102 ∷ cpu ∷ yes on ∷ []
processor_numbers (marks.Stall cpu stage on) = 103 ∷ cpu ∷ stage_number stage ∷ yes on ∷ []
processor_numbers (marks.Raised cpu line times) = line_numbers 0 cpu line times
processor_numbers (marks.Received cpu line times) = line_numbers 1 cpu line times
processor_numbers (marks.Played cpu stage line times) = line_numbers (2 + stage_number stage) cpu line times
processor_numbers _ = []

unfoldable pub task_numbers : Mark → List ℕ
task_numbers (marks.Created task) = 110 ∷ task ∷ []
task_numbers (marks.Waits task wait) = 111 ∷ task ∷ wait_numbers wait
task_numbers (marks.Woken task wait) = 112 ∷ task ∷ wait_numbers wait
task_numbers (marks.Deadline task tick) = 113 ∷ task ∷ tick ∷ []
task_numbers (marks.Moves task stage) = 114 ∷ task ∷ stage_number stage ∷ []
task_numbers (marks.Rank task from to) = 115 ∷ task ∷ from ∷ to ∷ []
task_numbers (marks.Ended task) = 116 ∷ task ∷ []
task_numbers (marks.Faulted task fault) = 117 ∷ task ∷ fault_code fault ∷ []
task_numbers (marks.Owner mutex from to) = 118 ∷ mutex ∷ owner_number from ∷ owner_number to ∷ []
task_numbers (marks.Ticked times) = 119 ∷ times ∷ []
task_numbers (marks.Notice kind task times) = 120 ∷ notice_code kind ∷ task ∷ times ∷ []
task_numbers (marks.Migrates task cpu) = 121 ∷ task ∷ cpu ∷ []
task_numbers _ = []

unfoldable pub mark_numbers : Mark → List ℕ
mark_numbers mark = processor_numbers mark ++ task_numbers mark

-- ---- an entry: an item and its marks, and details beside them, which no definition names
pub record Entry : Type 0 where
  pub item : Item
  pub marks : List Mark
  pub details : List ℕ

unfoldable pub entry_numbers : Entry → List ℕ
entry_numbers entry = head_numbers entry.item ++ (flat_map mark_numbers entry.marks ++ entry.details)

-- ---- as JSON
-- an entry behind what stands before it, on a line of its own
unfoldable pub entry_text : Entry → List ℕ
entry_text entry = 44 ∷ 10 ∷ text (row_json (entry_numbers entry))

-- a run, an array of rows: what is seen before its first event, and its entries
abbrev pub entries_text : List ℕ → List Entry → List ℕ
entries_text start entries = 91 ∷ (text (row_json start) ++ (flat_map entry_text entries ++ 93 ∷ []))
