-- What a run by threads writes.
use Rattle.std.specs.Prelude.{◌≡◌, ℕ, ◌+◌, ◌*◌, ◌<◌, ◌≤◌, ◌≢◌, ◌⊎◌, ◌==◌, if◌then◌else◌, All, List, length, Some, Result, Ok, Err, codes}
use Rattle.std.specs.String.{string_bytes}
use Rattle.evm_journal.specs.evm_core.Load.{load}
use Rattle.evm_ram.specs.Images.{Contents}
use Rattle.evm_journal.specs.Journal.{journal_text}
use Rattle.evm_lines.specs.declared.TheConstants.{LINES}
use Rattle.evm_model.specs.Devices.{Attached}
use Rattle.evm_model.specs.Kinds.{AStep, ABell, kind_count}
use Rattle.evm_model.specs.Replay.{start, IsReplayOf}
use Rattle.evm_model.specs.State.{State, newest}
use Rattle.evm_model.specs.declared.boot.Boot.{Boot}
use Rattle.evm_model.specs.declared.limits.TheConstants.{CAPACITY_LIMIT}
use Rattle.evm_model.specs.declared.refusal.Refusal.{Refusal}
use Rattle.evm_model.specs.declared.refusal.Refusal.TheVariants.{BadAddress}
use Rattle.evm_streams.specs.Writes.{Took, TookPrefix}
use Rattle.evm_streams.specs.declared.sink.Writing.{Writing}
use Rattle.evm_shared.specs.Ports.{PortValue, made_by}
use Rattle.evm_shared.specs.Workers.{HasTurned, WorkerValue}
use Rattle.evm_shared.specs.declared.event_counts.EventCounts.{EventCounts}
use Rattle.evm_command.specs.declared.outcome.Outcome.{Outcome}
use Rattle.evm_command.specs.declared.outcome.Outcome.TheVariants as outcomes
use Rattle.evm_command.specs.declared.outcome.RunEnding.{RunEnding}
use Rattle.evm_command.specs.declared.outcome.RunEnding.TheVariants.{Written, Incomplete, Lost, ImageRefused, NoMemory, WriteFailed}

-- the numbers with which the machine boots
abbrev pub run_boot : Boot
run_boot = newest 2 1048576 CAPACITY_LIMIT

-- the machine that the run begins with, or why the image is not loaded
abbrev pub loaded_machine : List Attached → Contents → Result State Refusal
loaded_machine devices image = load image (start devices run_boot)

-- how many Bells two workers have delivered after some turns: the line that was rung at each, in the first turn
abbrev pub bells_after : ℕ → ℕ
bells_after turns = if turns == 0 then 0 else 2

-- two workers have made all their turns: each turn makes a Step at least
pub record HaveMade (turns : ℕ) (made : EventCounts) : Type 0 where
  pub steps : 2 * turns ≤ made.steps
  pub bells : made.bells ≡ bells_after turns

-- what each worker's port made, each port made
abbrev pub KeepSteps : List WorkerValue → List PortValue → Type 0
KeepSteps workers ports = (n : ℕ) → All (λ (w : WorkerValue). n ≤ w.port.share.steps) workers → All (λ (p : PortValue). n ≤ p.share.steps) ports

-- a worker of this machine was refused one of its turns
abbrev pub RefusesWorker : State → ℕ → Type 0
RefusesWorker first turns = (old : WorkerValue) × (new : WorkerValue) × (why : Refusal) × HasTurned first 2 turns old new × (new.refused ≡ Some why)

-- two ports made a Step at least of each turn, or a worker was refused one
abbrev pub HaveTurned : State → ℕ → List PortValue → Type 0
HaveTurned first turns ports = (2 * turns ≤ (made_by ports).steps) ⊎ RefusesWorker first turns

-- a machine whose journal two workers have made longer by all their turns
pub record HasTurns (turns : ℕ) (first machine : State) : Type 0 where
  pub steps : kind_count AStep first.journal + 2 * turns ≤ kind_count AStep machine.journal
  pub bells : kind_count ABell machine.journal ≡ kind_count ABell first.journal + bells_after turns

-- a machine whose journal lacks some of them, since it has room for fewer events than there are lines
pub record LacksRoom (turns : ℕ) (first machine : State) : Type 0 where
  pub lacks : HasTurns turns first machine → ⊥
  pub room : machine.boot.capacity < length machine.journal + LINES

-- a machine whose journal lacks some of them, and has that room: a worker was refused a turn, or a ring is no Bell
pub record HasLost (turns : ℕ) (first machine : State) : Type 0 where
  pub room : length machine.journal + LINES ≤ machine.boot.capacity
  pub why : RefusesWorker first turns ⊎ ((kind_count AStep first.journal + 2 * turns ≤ kind_count AStep machine.journal) × (kind_count ABell machine.journal ≢ kind_count ABell first.journal + bells_after turns))

-- a text is the journal of a machine that is its journal's replay from the first state
pub record IsJournalOf (first machine : State) (text : List ℕ) : Type 0 where
  pub replays : IsReplayOf first machine
  pub written : text ≡ journal_text machine.boot machine.journal

-- a text is the journal of a run after which the machine is such
abbrev pub IsJournalFrom : State → List ℕ → (State → Type 0) → Type 0
IsJournalFrom first text such = (machine : State) × IsJournalOf first machine text × such machine

-- what a run of some turns that ends so has to write
abbrev pub IsText : ℕ → Result State Refusal → RunEnding → List ℕ → Type 0
IsText turns (Ok first) Written text = IsJournalFrom first text (HasTurns turns first)
IsText turns (Ok first) Incomplete text = IsJournalFrom first text (LacksRoom turns first)
IsText turns (Ok first) Lost text = IsJournalFrom first text (HasLost turns first)
IsText turns (Err refusal) ImageRefused text = (refusal ≡ BadAddress) × (text ≡ codes "refused 2 6\n")
IsText turns loaded NoMemory text = text ≡ codes "memory\n"
IsText turns loaded ending text = ⊥

abbrev pub ending_of : Outcome → RunEnding
ending_of (outcomes.Journal text) = Written
ending_of (outcomes.Incomplete text) = Incomplete
ending_of (outcomes.Lost text) = Lost
ending_of outcomes.ImageRefused = ImageRefused
ending_of outcomes.NoMemory = NoMemory

abbrev pub journal_or_fault_text : Outcome → List ℕ
journal_or_fault_text (outcomes.Journal text) = string_bytes text
journal_or_fault_text (outcomes.Incomplete text) = string_bytes text
journal_or_fault_text (outcomes.Lost text) = string_bytes text
journal_or_fault_text outcomes.ImageRefused = codes "refused 2 6\n"
journal_or_fault_text outcomes.NoMemory = codes "memory\n"

-- what the code has to write is that
abbrev pub IsOutcome : ℕ → Result State Refusal → Outcome → Type 0
IsOutcome turns loaded outcome = IsText turns loaded (ending_of outcome) (journal_or_fault_text outcome)

module _ {W : Type 0} (takes : W → Writing → List ℕ → W → Type 0) where
  -- all of its text was written, or a prefix before a write failed
  abbrev pub Ends : ℕ → Result State Refusal → W → W → RunEnding → Type 0
  Ends turns loaded w w' (WriteFailed fault) = (ending : RunEnding) × (text : List ℕ) × IsText turns loaded ending text × TookPrefix takes w text w'
  Ends turns loaded w w' ending = (text : List ℕ) × IsText turns loaded ending text × Took takes w text w'

-- the exit status of a run that ends so
abbrev pub ending_status : RunEnding → ℕ
ending_status Written = 0
ending_status Incomplete = 1
ending_status Lost = 1
ending_status ImageRefused = 1
ending_status NoMemory = 1
ending_status (WriteFailed fault) = 4
