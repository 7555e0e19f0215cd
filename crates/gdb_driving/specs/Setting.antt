-- How registers are set: by which events.
use Rattle.std.specs.Prelude.{◌≡◌, ℕ, zero, suc, ◌+◌, ◌*◌, List, [], ◌∷◌, ◌++◌, Bool, false, Option, Some, None, Result, Ok, Err, MatchResult, length, take, drop, slice_get, nat_lt, if◌then◌else◌, ◌==◌}
use Rattle.std.specs.Int.{w64, from_le_bytes}
use Rattle.evm_exec.specs.declared.hart.Hart.{Hart}
use Rattle.evm_exec.specs.declared.hart.TheConstants.{REGISTERS}
use Rattle.evm_model.specs.Current.{current}
use Rattle.evm_model.specs.Event.{Event}
use Rattle.evm_model.specs.Replay.{apply}
use Rattle.evm_model.specs.State.{State, Parts}
use Rattle.evm_model.specs.declared.event.Event.TheVariants.{SetReg, SetPc}
use Rattle.evm_model.specs.declared.refusal.Refusal.{Refusal}
use Rattle.evm_model.specs.declared.refusal.Refusal.TheVariants.{BadRegister, NoTask}
use Rattle.evm_model.specs.declared.task.Task.{Task}
use Rattle.gdb_driving.specs.Shown.{hart_register}

-- ---- events one after the other

-- these events are made one after the other, up to the first that is refused: what is returned, and the machine before and after
abbrev pub MakesEach : List Event → Result (Unit {0}) Refusal → State → State → Type 0
MakesEach [] result old new = (result ≡ Ok tt) × (new ≡ old)
MakesEach (event ∷ events) result old new =
    MatchResult (apply old event) (λ after. MakesEach events result after.0 new) (λ refusal. (result ≡ Err refusal) × (new ≡ old))

-- the events that are asked for are made, or nothing where that is refused
abbrev pub MakesAsked : Result (List Event) Refusal → Result (Unit {0}) Refusal → State → State → Type 0
MakesAsked (Ok events) result old new = MakesEach events result old new
MakesAsked (Err refusal) result old new = (result ≡ Err refusal) × (new ≡ old)

-- ---- one register

-- the event by which register r of the current task of processor c gets a value; 32 is the pc. None for x0, which stays 0, nor above 32
abbrev pub setting : ℕ → ℕ → ℕ → List Event
setting c r value =
    if r == 0 then [] else (if nat_lt r REGISTERS then SetReg c r value ∷ [] else (if r == REGISTERS then SetPc c value ∷ [] else []))

-- that event, where there is such a register
abbrev pub register_setting : ℕ → ℕ → ℕ → Result (List Event) Refusal
register_setting c r value = if nat_lt REGISTERS r then Err BadRegister else Ok (setting c r value)

-- ---- the registers of a task

-- whether the current task of a processor is t
abbrev pub runs_task : ℕ → Option ℕ → Bool
runs_task t None = false
runs_task t (Some running) = running == t

abbrev pub runner_of : ℕ → Option Task → Parts → Result ℕ Refusal
runner_of t None p = Err NoTask
runner_of t (Some task) p = if runs_task t (current task.cpu p) then Ok task.cpu else Err NoTask

-- the processor that runs task t: the one that the task is on, if t is its current task
abbrev pub runner : ℕ → Parts → Result ℕ Refusal
runner t p = runner_of t (slice_get p.tasks t) p

-- the number of the first 8 bytes, the low byte first
abbrev pub leading_word : List ℕ → ℕ
leading_word bytes = from_le_bytes w64 (take 8 bytes)

-- the number at bytes 8 r to 8 r + 7, for register r
abbrev pub register_word : List ℕ → ℕ → ℕ
register_word bytes r = leading_word (drop (8 * r) bytes)

-- the event by which register r gets a value, where the hart has another
abbrev pub register_change : ℕ → Hart → ℕ → ℕ → List Event
register_change c hart r value = if hart_register hart r == value then [] else setting c r value

-- the events by which the first registers get the numbers of the bytes, in rising order
unfoldable pub register_changes : ℕ → ℕ → Hart → List ℕ → List Event
register_changes zero c hart bytes = []
register_changes (suc r) c hart bytes = register_changes r c hart bytes ++ register_change c hart r (register_word bytes r)

abbrev pub all_changes : List ℕ → Result ℕ Refusal → Option Hart → Result (List Event) Refusal
all_changes bytes (Err refusal) hart = Err refusal
all_changes bytes (Ok c) None = Err NoTask
all_changes bytes (Ok c) (Some hart) = Ok (register_changes (REGISTERS + 1) c hart bytes)

-- the events by which all registers and the pc of task t get the numbers of 264 bytes, if a processor runs t
abbrev pub registers_setting : ℕ → List ℕ → Parts → Result (List Event) Refusal
registers_setting t bytes p = if length bytes == 264 then all_changes bytes (runner t p) (slice_get p.harts t) else Err BadRegister
