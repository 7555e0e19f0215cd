-- Which task goes first. Tasks are spoken of by their numbers, so that a rank may come from other tasks too.
use Rattle.std.specs.Prelude.{◌≡◌, ℕ, zero, suc, ◌+◌, ◌<◌, List, Option, Some, None, Bool, true, false, ◌&&◌, ◌==◌, nat_lt, if◌then◌else◌, slice_get, length}
use Rattle.evm_model.specs.Boosts.{greatest, rank_after}
use Rattle.evm_model.specs.Mutexes.{ceiling_owner, ceiling, boosts}
use Rattle.evm_model.specs.declared.limits.TheConstants.{TASK_LIMIT}
use Rattle.evm_model.specs.declared.mutex.Mutex.{Mutex}
use Rattle.evm_model.specs.declared.task.Task.{Task}
use Rattle.evm_model.specs.declared.task.Class.{Class}
use Rattle.evm_model.specs.declared.task.Class.TheVariants.{Unattached, Fifo, RoundRobin, Weak}
use Rattle.evm_model.specs.declared.task.TaskState.{TaskState}
use Rattle.evm_model.specs.declared.task.TaskState.TheVariants.{InReady, OobReady}

-- the rank of a class: those of fixed priority stand above the weak one, and that above unattached tasks
abbrev pub class_rank : Class → ℕ → ℕ
class_rank Unattached priority = 0
class_rank Fifo priority = 100 + priority
class_rank RoundRobin priority = 100 + priority
class_rank Weak priority = priority

abbrev pub class_rank_of : Option Task → ℕ
class_rank_of None = 0
class_rank_of (Some task) = class_rank task.class task.priority

-- task t's own rank: that of its class, and of each ceiling mutex that it owns
unfoldable pub own_rank : List Mutex → List Task → ℕ → ℕ
own_rank mutexes tasks t = greatest (ceiling_owner mutexes) (ceiling mutexes) t (class_rank_of (slice_get tasks t)) (length mutexes)

abbrev pub stamp_of : Option Task → ℕ
stamp_of None = 0
stamp_of (Some task) = task.stamp

-- the rank of task t: its own, and that of each task which it keeps waiting by a mutex of inheritance, through any
-- chain of them
unfoldable pub rank : List Mutex → List Task → ℕ → ℕ
rank mutexes tasks t = rank_after (boosts mutexes tasks) (own_rank mutexes tasks) (length tasks) TASK_LIMIT t

-- its stamp
abbrev pub stamp : List Task → ℕ → ℕ
stamp tasks t = stamp_of (slice_get tasks t)

-- t goes before u: the greater rank, and of one rank the lesser stamp
abbrev pub goes_before : (ℕ → ℕ) → (ℕ → ℕ) → ℕ → ℕ → Bool
goes_before rank stamp t u = if nat_lt (rank u) (rank t) then true else (if nat_lt (rank t) (rank u) then false else nat_lt (stamp t) (stamp u))

-- t is the member of greatest rank, then of least stamp, of those below count
pub record IsFirst (member : ℕ → Bool) (rank stamp : ℕ → ℕ) (count t : ℕ) : Type 0 where
  pub below : t < count
  pub is_member : member t ≡ true
  pub leads : (u : ℕ) → u < count → member u ≡ true → goes_before rank stamp u t ≡ false

-- of the one that leads so far and another, the one that goes first
abbrev pub leader : (ℕ → ℕ) → (ℕ → ℕ) → Option ℕ → ℕ → ℕ
leader rank stamp None t = t
leader rank stamp (Some best) t = if goes_before rank stamp t best then t else best

-- the first of the members below a number
unfoldable pub first : (ℕ → Bool) → (ℕ → ℕ) → (ℕ → ℕ) → ℕ → Option ℕ
first member rank stamp zero = None
first member rank stamp (suc t) =
    let best = first member rank stamp t in if member t then Some (leader rank stamp best t) else best

abbrev pub is_in_ready : TaskState → Bool
is_in_ready InReady = true
is_in_ready _ = false

abbrev pub is_oob_ready : TaskState → Bool
is_oob_ready OobReady = true
is_oob_ready _ = false

abbrev pub runs_oob_task : ℕ → Option Task → Bool
runs_oob_task c None = false
runs_oob_task c (Some task) = is_oob_ready task.state && task.cpu == c

abbrev pub runs_in_band_task : ℕ → Option Task → Bool
runs_in_band_task c None = false
runs_in_band_task c (Some task) = is_in_ready task.state && task.cpu == c

-- task t may run out-of-band on processor c
abbrev pub may_run_oob : ℕ → List Task → ℕ → Bool
may_run_oob c tasks t = runs_oob_task c (slice_get tasks t)

-- task t may run in-band on processor c
abbrev pub may_run_in_band : ℕ → List Task → ℕ → Bool
may_run_in_band c tasks t = runs_in_band_task c (slice_get tasks t)

-- the out-of-band task that processor c should run
unfoldable pub best : ℕ → List Mutex → List Task → Option ℕ
best c mutexes tasks = first (may_run_oob c tasks) (rank mutexes tasks) (stamp tasks) (length tasks)

-- the in-band task that processor c should take up: that of least stamp
unfoldable pub next_in_band : ℕ → List Task → Option ℕ
next_in_band c tasks = first (may_run_in_band c tasks) (λ _. 0) (stamp tasks) (length tasks)
