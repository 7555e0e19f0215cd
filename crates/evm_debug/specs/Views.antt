-- The views of a machine as text; each line ends with a newline.
use Rattle.std.specs.Prelude.{ℕ, zero, suc, ◌+◌, ◌/◌, ◌%◌, List, [], ◌∷◌, ◌++◌, Option, Some, None, Bool, codes, slice_get, length, if◌then◌else◌, ◌==◌, nat_lt, Result, Ok, Err, IsOkAnd, ◌≡◌}
use Rattle.evm_room.specs.Growth.{RefusedWithin}
use Rattle.evm_journal.specs.evm_text.Written.{decimal, hexadecimal_padded, pairs}
use Rattle.evm_exec.specs.declared.hart.TheConstants.{REGISTERS}
use Rattle.evm_lines.specs.declared.TheConstants.{LINES}
use Rattle.evm_ram.specs.Ram.{bytes_at}
use Rattle.evm_model.specs.declared.refusal.Refusal.{Refusal}
use Rattle.evm_model.specs.declared.refusal.Refusal.TheVariants.{NoSuchCpu, NoSuchLine, NoTask, BadAddress, NoSlot}
use Rattle.evm_debug.specs.declared.line.View.{View}
use Rattle.evm_debug.specs.declared.line.View.TheVariants.{Regs, Mem, Stages as StagesView, Tasks, Owners, Rank, Notices as NoticesView, Counts as CountsView, Journal, Console, Words}
use Rattle.evm_journal.specs.Journal.{journal_text}
use Rattle.evm_debug.specs.declared.look.ViewRefusal.{ViewRefusal}
use Rattle.evm_debug.specs.declared.look.ViewRefusal.TheVariants.{Refused, NoMemory}
use Rattle.evm_journal.specs.evm_core.Views.{counts_at, stages_at}
use Rattle.evm_journal.specs.evm_core.declared.stages.Stages.{Stages}
use Rattle.evm_exec.specs.Registers.{register_of}
use Rattle.evm_lines.specs.Lines.{word_of}
use Rattle.evm_model.specs.Faults.{fault_number}
use Rattle.evm_model.specs.Devices.{Attached}
use Rattle.evm_model.specs.Notices.{notice_number}
use Rattle.evm_model.specs.Profiles.{line_count}
use Rattle.evm_model.specs.State.{Memory, Notices, Parts, State}
use Rattle.evm_model.specs.Ranks.{is_oob_ready, rank}
use Rattle.evm_exec.specs.declared.hart.Hart.{Hart}
use Rattle.evm_model.specs.declared.limits.TheConstants.{POKE_LIMIT}
use Rattle.evm_model.specs.declared.mutex.Mutex.{Mutex}
use Rattle.evm_model.specs.declared.notice.Notice.{Notice}
use Rattle.evm_model.specs.declared.processor.Processor.{Processor}
use Rattle.evm_model.specs.declared.counts.Counts.{Counts}
use Rattle.evm_model.specs.declared.task.Task.{Task}
use Rattle.evm_model.specs.declared.task.Class.{Class}
use Rattle.evm_model.specs.declared.task.Class.TheVariants.{Unattached, Fifo, RoundRobin, Weak}
use Rattle.evm_model.specs.declared.task.TaskState.{TaskState}
use Rattle.evm_model.specs.declared.task.TaskState.TheVariants as state
use Rattle.evm_model.specs.declared.task.Wait.{Wait}
use Rattle.evm_model.specs.declared.task.Wait.TheVariants as wait

-- parts of a text, one behind another
abbrev pub parts_text : List (List ℕ) → List ℕ
parts_text [] = []
parts_text (part ∷ parts) = part ++ parts_text parts

-- a number of 16 hexadecimal digits
abbrev pub hexadecimal_word : ℕ → List ℕ
hexadecimal_word n = hexadecimal_padded 16 n

-- a set of lines, as a number of as many hexadecimal digits as they need, with bit l for line l
abbrev pub line_set_text : List ℕ → List ℕ
line_set_text lines = hexadecimal_padded (LINES / 4) (word_of lines)

abbrev pub bit_text : Bool → List ℕ
bit_text b = if b then codes "1" else codes "0"

-- a task's number, or none
abbrev pub number_or_none : Option ℕ → List ℕ
number_or_none None = codes "none"
number_or_none (Some t) = decimal t

abbrev pub two_digits : ℕ → List ℕ
two_digits n = decimal (n / 10) ++ decimal (n % 10)

-- four registers from r on, each with its number of two digits
abbrev pub four_registers : ℕ → List ℕ → List ℕ
four_registers r regs = parts_text (
    codes "x" ∷ two_digits r ∷ codes " " ∷ hexadecimal_word (register_of regs r)
    ∷ codes " x" ∷ two_digits (r + 1) ∷ codes " " ∷ hexadecimal_word (register_of regs (r + 1))
    ∷ codes " x" ∷ two_digits (r + 2) ∷ codes " " ∷ hexadecimal_word (register_of regs (r + 2))
    ∷ codes " x" ∷ two_digits (r + 3) ∷ codes " " ∷ hexadecimal_word (register_of regs (r + 3)) ∷ codes "\n" ∷ [])

-- four registers a line, from r on
unfoldable pub register_lines : ℕ → ℕ → List ℕ → List ℕ
register_lines r zero regs = []
register_lines r (suc count) regs = four_registers r regs ++ register_lines (r + 4) count regs

abbrev pub register_rows : List ℕ → List ℕ
register_rows regs = register_lines 0 (REGISTERS / 4) regs

-- the stage that a current task is on
abbrev pub stage_text : TaskState → List ℕ
stage_text s = if is_oob_ready s then codes "oob" else codes "in"

-- the current task and its registers
abbrev pub current_text : ℕ → Option Task → Option Hart → List ℕ
current_text t None hart = codes "none\n"
current_text t (Some task) None = codes "none\n"
current_text t (Some task) (Some hart) =
    parts_text (codes "task " ∷ decimal t ∷ codes " " ∷ stage_text task.state ∷ codes " pc " ∷ hexadecimal_word hart.pc ∷ codes "\n" ∷ [])
    ++ register_rows hart.regs

abbrev pub regs_text : Option ℕ → Parts → List ℕ
regs_text None k = codes "none\n"
regs_text (Some t) k = current_text t (slice_get k.tasks t) (slice_get k.harts t)

abbrev pub class_text : Class → List ℕ
class_text Unattached = codes "none"
class_text Fifo = codes "fifo"
class_text RoundRobin = codes "rr"
class_text Weak = codes "weak"

abbrev pub wait_text : Wait → List ℕ
wait_text (wait.Line l) = codes "in-wait " ++ decimal l
wait_text (wait.Lock n) = codes "lock " ++ decimal n
wait_text (wait.Reacquire m answer) = codes "lock " ++ decimal m
wait_text (wait.Semaphore n) = codes "semaphore " ++ decimal n
wait_text (wait.Event n) = codes "event " ++ decimal n
wait_text (wait.Flags n) = codes "flags " ++ decimal n
wait_text wait.Sleep = codes "sleep"
wait_text (wait.Timer n) = codes "timer " ++ decimal n

abbrev pub state_codes : TaskState → List ℕ
state_codes state.InReady = codes "in-ready"
state_codes state.OobReady = codes "oob-ready"
state_codes (state.Waits on) = wait_text on
state_codes state.Exit = codes "exit"
state_codes (state.Faulted fault) = codes "fault " ++ decimal (fault_number fault)

-- task t and its pc, if there is such a task
abbrev pub task_text : ℕ → Option Task → Option Hart → List ℕ
task_text t None hart = []
task_text t (Some task) None = []
task_text t (Some task) (Some hart) = parts_text (
    decimal t ∷ codes " cpu " ∷ decimal task.cpu ∷ codes " " ∷ class_text task.class ∷ codes " " ∷ decimal task.priority
    ∷ codes " " ∷ state_codes task.state ∷ codes " pc " ∷ hexadecimal_word hart.pc ∷ codes "\n" ∷ [])

-- the tasks below a number, by their numbers
unfoldable pub tasks_below : ℕ → Parts → List ℕ
tasks_below zero k = []
tasks_below (suc t) k = tasks_below t k ++ task_text t (slice_get k.tasks t) (slice_get k.harts t)

-- all tasks
abbrev pub tasks_text : Parts → List ℕ
tasks_text k = tasks_below (length k.tasks) k

-- mutex m: who owns it, and how often it is locked, if there is such a mutex
abbrev pub owner_text : ℕ → Option Mutex → List ℕ
owner_text m None = []
owner_text m (Some mutex) =
    parts_text (decimal m ∷ codes " owner " ∷ number_or_none mutex.owner ∷ codes " count " ∷ decimal mutex.count ∷ codes "\n" ∷ [])

-- the mutexes below a number, by their numbers
unfoldable pub owners_below : ℕ → List Mutex → List ℕ
owners_below zero mutexes = []
owners_below (suc m) mutexes = owners_below m mutexes ++ owner_text m (slice_get mutexes m)

-- all mutexes
abbrev pub owners_text : Parts → List ℕ
owners_text k = owners_below (length k.mutexes) k.mutexes

abbrev pub rank_text : ℕ → List ℕ
rank_text n = parts_text (codes "rank " ∷ decimal n ∷ codes "\n" ∷ [])

-- a notice, if there is one: at which tick, of which task, and the number of its kind
abbrev pub notice_text : Option Notice → List ℕ
notice_text None = []
notice_text (Some notice) =
    parts_text (decimal notice.tick ∷ codes " " ∷ decimal notice.task ∷ codes " " ∷ decimal (notice_number notice.kind) ∷ codes "\n" ∷ [])

-- the notices below a number, by their numbers
unfoldable pub notices_below : ℕ → List Notice → List ℕ
notices_below zero notices = []
notices_below (suc i) notices = notices_below i notices ++ notice_text (slice_get notices i)

abbrev pub total_text : ℕ → List ℕ
total_text total = parts_text (codes "total " ∷ decimal total ∷ codes "\n" ∷ [])

-- how many notices there were, and those that are kept, the oldest first
abbrev pub notices_text : Notices → List ℕ
notices_text notices = total_text notices.total ++ notices_below (length notices.kept) notices.kept

-- a word, if there is one, behind a blank
abbrev pub blank_word : Option ℕ → List ℕ
blank_word None = []
blank_word (Some word) = parts_text (codes " " ∷ hexadecimal_word word ∷ [])

-- the words below a number, by their numbers
unfoldable pub words_below : ℕ → List ℕ → List ℕ
words_below zero words = []
words_below (suc k) words = words_below k words ++ blank_word (slice_get words k)

-- all words of a device, on one line
abbrev pub words_text : List ℕ → List ℕ
words_text words = codes "words" ++ (words_below (length words) words ++ codes "\n")

-- processor c: its task, its two logs with their stall bits, its in-band task, its wire, and its stop and skip bits
abbrev pub stages_text : ℕ → Processor → Stages → List ℕ
stages_text c p stages = parts_text (
    codes "cpu " ∷ decimal c ∷ codes " current " ∷ number_or_none p.current
    ∷ codes " oob " ∷ bit_text stages.oob.stalled ∷ codes " " ∷ line_set_text stages.oob.lines
    ∷ codes " in " ∷ bit_text stages.in_band.stalled ∷ codes " " ∷ line_set_text stages.in_band.lines
    ∷ codes " task " ∷ number_or_none p.in_band_task ∷ codes " wire " ∷ line_set_text stages.wire
    ∷ codes " stop " ∷ bit_text p.stopped ∷ codes " skip " ∷ bit_text p.skip ∷ codes "\n" ∷ [])

-- the counts of a line; of each stage its arrivals, merged and played
abbrev pub counts_text : Counts → List ℕ
counts_text n = parts_text (
    codes "raised " ∷ decimal n.raised ∷ codes " merged " ∷ decimal n.merged ∷ codes " received " ∷ decimal n.received
    ∷ codes " oob " ∷ decimal n.oob.arrivals ∷ codes " " ∷ decimal n.oob.merged ∷ codes " " ∷ decimal n.oob.played
    ∷ codes " in " ∷ decimal n.in_band.arrivals ∷ codes " " ∷ decimal n.in_band.merged ∷ codes " " ∷ decimal n.in_band.played
    ∷ codes "\n" ∷ [])

-- the stages of a processor, if there is one
abbrev pub stages_of : ℕ → Option Processor → Option Stages → Result (List ℕ) Refusal
stages_of c None stages = Err NoSuchCpu
stages_of c (Some p) None = Err NoSuchCpu
stages_of c (Some p) (Some stages) = Ok (stages_text c p stages)

abbrev pub regs_of : Option Processor → Parts → Result (List ℕ) Refusal
regs_of None k = Err NoSuchCpu
regs_of (Some p) k = Ok (regs_text p.current k)

-- of a task that is there; one that has ended has a rank too
abbrev pub rank_answer : Option Task → ℕ → Result (List ℕ) Refusal
rank_answer None n = Err NoTask
rank_answer (Some task) n = Ok (rank_text n)

abbrev pub counts_of_line : Option Counts → Result (List ℕ) Refusal
counts_of_line None = Err NoSuchLine
counts_of_line (Some n) = Ok (counts_text n)

-- the counts of line l of processor c, where the machine has such a line
abbrev pub counts_in : ℕ → ℕ → Parts → Option Counts
counts_in c l k = if nat_lt l (line_count k.profile) then counts_at c l k else None

-- the processor is looked for before the line
abbrev pub counts_shown : Option Stages → Option Counts → Result (List ℕ) Refusal
counts_shown None counts = Err NoSuchCpu
counts_shown (Some stages) counts = counts_of_line counts

-- of a device that is there
abbrev pub words_of : Option Attached → Result (List ℕ) Refusal
words_of None = Err NoSlot
words_of (Some device) = Ok (words_text device.words)

abbrev pub bytes_text : Option (List ℕ) → Result (List ℕ) Refusal
bytes_text None = Err BadAddress
bytes_text (Some bytes) = Ok (pairs bytes ++ codes "\n")

-- 1 to 64 bytes of RAM
abbrev pub mem_of : ℕ → ℕ → Memory → Result (List ℕ) Refusal
mem_of address count m =
    if count == 0 then Err BadAddress else (if nat_lt POKE_LIMIT count then Err BadAddress else bytes_text (bytes_at m.ram address count))

-- what a view shows of a machine, or why it is refused
unfoldable pub shown : View → State → Result (List ℕ) Refusal
shown (Regs c) s = regs_of (slice_get s.board.parts.processors c) s.board.parts
shown (Mem address count) s = mem_of address count s.board.memory
shown (StagesView c) s = stages_of c (slice_get s.board.parts.processors c) (stages_at c s.board.parts)
shown Tasks s = Ok (tasks_text s.board.parts)
shown Owners s = Ok (owners_text s.board.parts)
shown (Rank t) s = rank_answer (slice_get s.board.parts.tasks t) (rank s.board.parts.mutexes s.board.parts.tasks t)
shown NoticesView s = Ok (notices_text s.board.parts.notices)
shown (CountsView c l) s = counts_shown (stages_at c s.board.parts) (counts_in c l s.board.parts)
shown Journal s = Ok (journal_text s.boot s.journal)
shown Console s = Ok (pairs s.board.parts.console ++ codes "\n")
shown (Words i) s = words_of (slice_get s.board.memory.devices i)

-- what is shown stands behind what stood there
abbrev pub Shows : Result (List ℕ) Refusal → List ℕ → List ℕ → Type 0
Shows shown old new = IsOkAnd shown (λ text. new ≡ old ++ text)

-- memory ran out for a text: a growth was refused that is no greater than the text
abbrev pub LacksMemory : Result (List ℕ) Refusal → Type 0
LacksMemory shown = IsOkAnd shown (λ text. RefusedWithin (length text))

-- what the code answers is what is shown, unless memory runs out
abbrev pub ViewFails : ViewRefusal → Result (List ℕ) Refusal → Type 0
ViewFails (Refused r) shown = shown ≡ Err r
ViewFails NoMemory shown = LacksMemory shown
