-- The mutexes: who owns them, and who waits for whom.
use Rattle.std.specs.Prelude.{ℕ, zero, suc, ◌+◌, List, Option, Some, None, Bool, true, false, if◌then◌else◌, slice_get, length}
use Rattle.evm_model.specs.Boosts.{is_number}
use Rattle.evm_model.specs.declared.mutex.Mutex.{Mutex}
use Rattle.evm_model.specs.declared.mutex.Protocol.{Protocol}
use Rattle.evm_model.specs.declared.mutex.Protocol.TheVariants.{Inheritance, Ceiling}
use Rattle.evm_model.specs.declared.task.Task.{Task}
use Rattle.evm_model.specs.declared.task.TaskState.{TaskState}
use Rattle.evm_model.specs.declared.task.TaskState.TheVariants.{Waits}
use Rattle.evm_model.specs.declared.task.Wait.TheVariants.{Lock, Reacquire}

-- ---- owners
abbrev pub owner_of : Option Mutex → Option ℕ
owner_of None = None
owner_of (Some mutex) = mutex.owner

-- the task that owns mutex m
abbrev pub owner : List Mutex → ℕ → Option ℕ
owner mutexes m = owner_of (slice_get mutexes m)

-- whether task t owns one of the mutexes below a number
unfoldable pub owns_below : ℕ → List Mutex → ℕ → Bool
owns_below t mutexes zero = false
owns_below t mutexes (suc m) = if is_number (owner mutexes m) t then true else owns_below t mutexes m

-- whether task t owns a mutex
abbrev pub owns_any : ℕ → List Mutex → Bool
owns_any t mutexes = owns_below t mutexes (length mutexes)

-- a mutex that nobody owns
abbrev pub free_mutex : Bool → Protocol → Mutex
free_mutex recursive protocol = record { recursive = recursive; protocol = protocol; owner = None; count = 0 }

-- task t has it, locked so often
abbrev pub held_by : ℕ → ℕ → Mutex → Mutex
held_by t count mutex = record mutex { owner = Some t; count = count }

-- nobody has it
abbrev pub freed : Mutex → Mutex
freed mutex = record mutex { owner = None; count = 0 }

-- ---- waiting
abbrev pub lock_of : TaskState → Option ℕ
lock_of (Waits (Lock m)) = Some m
lock_of (Waits (Reacquire m answer)) = Some m
lock_of _ = None

abbrev pub lock_of_task : Option Task → Option ℕ
lock_of_task None = None
lock_of_task (Some task) = lock_of task.state

-- the mutex that task u waits for
abbrev pub lock_at : List Task → ℕ → Option ℕ
lock_at tasks u = lock_of_task (slice_get tasks u)

abbrev pub owner_for : List Mutex → Option ℕ → Option ℕ
owner_for mutexes None = None
owner_for mutexes (Some m) = owner mutexes m

-- the task that task u waits for: the owner of its mutex
abbrev pub waits_on : List Mutex → List Task → ℕ → Option ℕ
waits_on mutexes tasks u = owner_for mutexes (lock_at tasks u)

-- ---- what ranks an owner
abbrev pub heir_by : Protocol → Option ℕ → Option ℕ
heir_by Inheritance owner = owner
heir_by (Ceiling priority) owner = None

abbrev pub heir_of : Option Mutex → Option ℕ
heir_of None = None
heir_of (Some mutex) = heir_by mutex.protocol mutex.owner

abbrev pub heir_for : List Mutex → Option ℕ → Option ℕ
heir_for mutexes None = None
heir_for mutexes (Some m) = heir_of (slice_get mutexes m)

-- the task that task u boosts: the owner of its mutex, where that is one of inheritance
abbrev pub boosts : List Mutex → List Task → ℕ → Option ℕ
boosts mutexes tasks u = heir_for mutexes (lock_at tasks u)

abbrev pub ceiling_owner_by : Protocol → Option ℕ → Option ℕ
ceiling_owner_by Inheritance owner = None
ceiling_owner_by (Ceiling priority) owner = owner

abbrev pub ceiling_owner_of : Option Mutex → Option ℕ
ceiling_owner_of None = None
ceiling_owner_of (Some mutex) = ceiling_owner_by mutex.protocol mutex.owner

-- the task that mutex m raises to its ceiling: its owner
abbrev pub ceiling_owner : List Mutex → ℕ → Option ℕ
ceiling_owner mutexes m = ceiling_owner_of (slice_get mutexes m)

abbrev pub ceiling_by : Protocol → ℕ
ceiling_by Inheritance = 0
ceiling_by (Ceiling priority) = 100 + priority

abbrev pub ceiling_of : Option Mutex → ℕ
ceiling_of None = 0
ceiling_of (Some mutex) = ceiling_by mutex.protocol

-- the rank of mutex m's ceiling
abbrev pub ceiling : List Mutex → ℕ → ℕ
ceiling mutexes m = ceiling_of (slice_get mutexes m)
