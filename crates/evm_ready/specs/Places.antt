-- Where tasks are ready: an entry for each task, by its number.
use Rattle.std.specs.Prelude.{◌≡◌, ◌≤◌, ℕ, ◌+◌, List, [], ◌∷◌, Option, Some, None, Bool, true, false, ◌&&◌, ◌==◌, if◌then◌else◌, length, slice_get}
use Rattle.std.specs.List.{list_any}
use Rattle.evm_model.specs.declared.limits.TheConstants.{TASK_LIMIT}
use Rattle.evm_model.specs.declared.stage.Stage.{Stage}
use Rattle.evm_model.specs.declared.stage.Stage.TheVariants.{OutOfBand, InBand}
use Rattle.evm_model.specs.declared.task.Task.{Task}
use Rattle.evm_model.specs.declared.task.TaskState.{TaskState}
use Rattle.evm_model.specs.declared.task.TaskState.TheVariants.{InReady, OobReady}
use Rattle.evm_ready.specs.declared.place.Place.{Place}

-- ---- one entry
-- where a task in this state is ready
abbrev pub placed_in : TaskState → ℕ → ℕ → Option Place
placed_in InReady cpu stamp = Some (record { stage = InBand; cpu = cpu; stamp = stamp })
placed_in OobReady cpu stamp = Some (record { stage = OutOfBand; cpu = cpu; stamp = stamp })
placed_in _ cpu stamp = None

-- where a task is ready, if it is
abbrev pub ready_place : Task → Option Place
ready_place task = placed_in task.state task.cpu task.stamp

abbrev pub is_oob_stage : Stage → Bool
is_oob_stage OutOfBand = true
is_oob_stage InBand = false

abbrev pub is_in_band_stage : Stage → Bool
is_in_band_stage OutOfBand = false
is_in_band_stage InBand = true

-- whether it is ready out-of-band, on whichever processor
abbrev pub is_oob_place : Option Place → Bool
is_oob_place None = false
is_oob_place (Some place) = is_oob_stage place.stage

abbrev pub oob_bit : Option Place → ℕ
oob_bit place = if is_oob_place place then 1 else 0

-- whether it may run out-of-band on processor c
abbrev pub runs_oob : ℕ → Option Place → Bool
runs_oob c None = false
runs_oob c (Some place) = is_oob_stage place.stage && place.cpu == c

-- whether it may run in-band on processor c
abbrev pub runs_in_band : ℕ → Option Place → Bool
runs_in_band c None = false
runs_in_band c (Some place) = is_in_band_stage place.stage && place.cpu == c

abbrev pub place_stamp : Option Place → ℕ
place_stamp None = 0
place_stamp (Some place) = place.stamp

-- the same place since another stamp
abbrev pub stamped_place : ℕ → Place → Place
stamped_place stamp place = record place { stamp = stamp }

-- ---- all entries
abbrev pub entry_of : {X : Type 0} → Option (Option X) → Option X
entry_of None = None
entry_of (Some entry) = entry

-- the entry of task t
abbrev pub entry : {X : Type 0} → List (Option X) → ℕ → Option X
entry entries t = entry_of (slice_get entries t)

-- how many tasks are ready out-of-band
abbrev pub oob_count : List (Option Place) → ℕ
oob_count [] = 0
oob_count (place ∷ places) = oob_bit place + oob_count places

-- count tasks are ready out-of-band, and there are no more tasks than may be
pub record AreCounted (count : ℕ) (places : List (Option Place)) : Type 0 where
  pub oob : count ≡ oob_count places
  pub room : length places ≤ TASK_LIMIT

-- the tasks, by their numbers: where each is ready, and its rank
pub record ReadyTasks : Type 0 where
  pub places : List (Option Place)
  pub ranks : List ℕ

-- whether any task is ready out-of-band, on whichever processor
abbrev pub any_oob : List (Option Place) → Bool
any_oob places = list_any is_oob_place places
