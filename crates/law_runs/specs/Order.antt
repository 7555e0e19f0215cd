-- In which order lines are received and played, tasks wake and mutexes pass on.
use Rattle.std.specs.Prelude.{◌≡◌, ℕ, ◌≤◌, ◌↔◌, List, Option, Some, true, false, Ok, slice_get}
use Rattle.std.specs.List.{Contains, fold}
use Rattle.std.specs.List.Sorted.{IsStrictlyIncreasing}
use Rattle.evm_lines.specs.Lines.{has_line}
use Rattle.evm_model.specs.Good.{GoodState, IsPipe}
use Rattle.evm_model.specs.Mutexes.{owner}
use Rattle.evm_model.specs.Passing.{hand_over, end_task}
use Rattle.evm_model.specs.Pipes.{Pipe, play, receive, set_stall}
use Rattle.evm_model.specs.Replay.{apply}
use Rattle.evm_model.specs.Settle.{play_oob, play_in_band, run_best, run_in_band, settle_oob, turn_in_band}
use Rattle.evm_model.specs.State.{State, Parts, on_pipe}
use Rattle.evm_model.specs.Tasks.{set_state, leave_in_band}
use Rattle.evm_model.specs.Waits.{wake}
use Rattle.evm_model.specs.declared.event.Answer.TheVariants.{Received}
use Rattle.evm_model.specs.declared.event.Event.TheVariants.{Step}
use Rattle.evm_model.specs.declared.stage.Stage.{Stage}
use Rattle.evm_model.specs.declared.stage.Stage.TheVariants.{InBand}
use Rattle.evm_model.specs.declared.task.Task.{Task}
use Rattle.evm_model.specs.declared.task.TaskState.{TaskState}
use Rattle.evm_model.specs.declared.task.TaskState.TheVariants.{Waits}
use Rattle.evm_model.specs.declared.task.Wait.TheVariants.{Line}

-- line l is in the set, and no lesser one
pub record IsLeast (l : ℕ) (set : List ℕ) : Type 0 where
  pub there : has_line set l ≡ true
  pub least : (m : ℕ) → has_line set m ≡ true → l ≤ m

-- a Step that receives a line receives the least of its processor's wire
abbrev pub StepsReceiveLeast : Type 0
StepsReceiveLeast = (s new : State) (c l : ℕ) (pipe : Pipe) → GoodState s → apply s (Step c) ≡ Ok (new, Received l) → slice_get s.board.parts.pipes c ≡ Some pipe → IsLeast l pipe.wire

-- ---- lines are played
-- the lines of the wire and of each log rise
pub record Rise (p : Pipe) : Type 0 where
  pub wire : IsStrictlyIncreasing p.wire
  pub oob : IsStrictlyIncreasing p.oob.lines
  pub in_band : IsStrictlyIncreasing p.in_band.lines

-- .. of each pipe, and still where a line is received by either stage
abbrev pub LinesRise : Type 0
LinesRise = (stage : Stage) (l : ℕ) (p : Pipe) → IsPipe p → Rise p × Rise (receive stage l p)

-- a stage that isn't stalled plays the lines of its log one after another
pub record PlaysInOrder (was : Option ℕ) (c : ℕ) (pipe : Pipe) (k : Parts) : Type 0 where
  pub oob : pipe.oob.stalled ≡ false → settle_oob was c k ≡ run_best c (fold (λ x l. play_oob was c l x) k pipe.oob.lines)
  pub in_band : pipe.in_band.stalled ≡ false → turn_in_band c k ≡ run_in_band c (fold (λ x l. play_in_band c l x) k pipe.in_band.lines)

abbrev pub LogsPlayInOrder : Type 0
LogsPlayInOrder = (was : Option ℕ) (c : ℕ) (k : Parts) (pipe : Pipe) → slice_get k.pipes c ≡ Some pipe → PlaysInOrder was c pipe k

-- ---- by number
-- these are the numbers that are such, each once, and they rise
pub record AreInOrder (such : ℕ → Type 0) (numbers : List ℕ) : Type 0 where
  pub rising : IsStrictlyIncreasing numbers
  pub members : (n : ℕ) → Contains numbers n ↔ such n

-- task t waits on c for line l
pub record WaitsForLine (c l t : ℕ) (tasks : List Task) : Type 0 where
  pub task : Task
  pub there : slice_get tasks t ≡ Some task
  pub on : task.state ≡ Waits (Line l)
  pub home : task.cpu ≡ c

-- a line that is played in-band wakes the tasks that wait there for it, by number
pub record WakesByNumber (c l : ℕ) (k : Parts) : Type 0 where
  pub waiters : List ℕ
  pub in_order : AreInOrder (λ t. WaitsForLine c l t k.tasks) waiters
  pub wakes : play_in_band c l k ≡ fold (λ x t. wake t 0 x) (on_pipe c (play InBand l) k) waiters

abbrev pub WaitersWakeByNumber : Type 0
WaitersWakeByNumber = (c l : ℕ) (k : Parts) → WakesByNumber c l k

-- a task that ends passes its mutexes on, by number
pub record PassesByNumber (c t : ℕ) (state : TaskState) (k : Parts) : Type 0 where
  pub owned : List ℕ
  pub in_order : AreInOrder (λ m. owner k.mutexes m ≡ Some t) owned
  pub passes : end_task c t state k ≡ set_state t state (leave_in_band c (on_pipe c (set_stall InBand false) (fold (λ x m. hand_over m x) k owned)))

abbrev pub MutexesPassByNumber : Type 0
MutexesPassByNumber = (c t : ℕ) (state : TaskState) (k : Parts) → PassesByNumber c t state k
