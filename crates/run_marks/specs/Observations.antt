-- What is seen of a machine between two events.
use Rattle.std.specs.Prelude.{◌≡◌, ◌==◌, ℕ, ◌-◌, List, Option, Some, None, option_to_list, slice_get, length, if◌then◌else◌}
use Rattle.evm_model.specs.Current.{is_oob_task}
use Rattle.evm_model.specs.Ranks.{rank}
use Rattle.evm_model.specs.Stages.{is_stalled}
use Rattle.evm_model.specs.State.{Parts}
use Rattle.evm_model.specs.declared.mutex.Mutex.{Mutex}
use Rattle.evm_model.specs.declared.notice.Notice.{Notice}
use Rattle.evm_model.specs.declared.processor.Processor.{Processor}
use Rattle.evm_model.specs.declared.stage.Stage.{Stage}
use Rattle.evm_model.specs.declared.stage.Stage.TheVariants.{OutOfBand, InBand}
use Rattle.evm_model.specs.declared.task.Task.{Task}
use Rattle.run_marks.specs.Lists.{below}
use Rattle.run_marks.specs.declared.observation.Lane.{Lane}
use Rattle.run_marks.specs.declared.observation.Observation.{Observation}
use Rattle.run_marks.specs.declared.observation.Running.{Running}

-- ---- a processor
-- the stage on which a task is that is ready
abbrev pub ready_stage : Option Task → Stage
ready_stage task = if is_oob_task task then OutOfBand else InBand

-- the current task and its stage, if there is one
abbrev pub running_of : Option ℕ → Parts → Option Running
running_of None k = None
running_of (Some t) k = Some (record { task = t; stage = ready_stage (slice_get k.tasks t) })

abbrev pub lane_of : Option Processor → ℕ → Parts → Option Lane
lane_of None c k = None
lane_of (Some p) c k =
    Some (record { running = running_of p.current k; stopped = p.stopped; oob_stalled = is_stalled OutOfBand c k; in_band_stalled = is_stalled InBand c k })

-- what is seen of processor c
abbrev pub lane_at : Parts → ℕ → Option Lane
lane_at k c = lane_of (slice_get k.processors c) c k

-- ---- a task and a mutex
abbrev pub rank_seen : Option Task → ℕ → Parts → Option ℕ
rank_seen None t k = None
rank_seen (Some task) t k = Some (rank k.mutexes k.tasks t)

abbrev pub rank_at : Parts → ℕ → Option ℕ
rank_at k t = rank_seen (slice_get k.tasks t) t k

abbrev pub owner_seen : Option Mutex → Option (Option ℕ)
owner_seen None = None
owner_seen (Some mutex) = Some mutex.owner

abbrev pub owner_at : Parts → ℕ → Option (Option ℕ)
owner_at k m = owner_seen (slice_get k.mutexes m)

-- ---- the machine
abbrev pub last_notice : List Notice → Option Notice
last_notice kept = if length kept == 0 then None else slice_get kept (length kept - 1)

-- what is seen of a machine of these parts, except the counts of its lines; what is no field here is not looked at
pub record IsObservationOf (observation : Observation) (k : Parts) : Type 0 where
  pub cpu_count : observation.cpu_count ≡ length k.processors
  pub task_count : observation.task_count ≡ length k.tasks
  pub mutex_count : observation.mutex_count ≡ length k.mutexes
  pub lanes : observation.lanes.items ≡ below (λ c. option_to_list (lane_at k c)) (length k.processors)
  pub tasks : observation.tasks.items ≡ below (λ t. option_to_list (slice_get k.tasks t)) (length k.tasks)
  pub ranks : observation.ranks.items ≡ below (λ t. option_to_list (rank_at k t)) (length k.tasks)
  pub owners : observation.owners.items ≡ below (λ m. option_to_list (owner_at k m)) (length k.mutexes)
  pub ticks : observation.ticks ≡ k.ticks
  pub notices : observation.notices ≡ k.notices.total
  pub last : observation.last_notice ≡ last_notice k.notices.kept
