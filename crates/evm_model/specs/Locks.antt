-- What each call on a mutex does to the parts, and what comes of it.
use Rattle.std.specs.Prelude.{ℕ, ◌+◌, ◌-◌, [], ◌∷◌, ◌++◌, Option, Some, None, Bool, true, false, ◌==◌, nat_lt, nat_le, if◌then◌else◌, slice_get, length}
use Rattle.evm_model.specs.Boosts.{is_number, reaches}
use Rattle.evm_model.specs.Mutexes.{free_mutex, held_by, waits_on}
use Rattle.evm_model.specs.Notices.{notify_refused}
use Rattle.evm_model.specs.Passing.{hand_over}
use Rattle.evm_model.specs.Stages.{refused, is_stalled, wait_refusal, wait_unless}
use Rattle.evm_model.specs.State.{Parts, on_mutex}
use Rattle.evm_model.specs.declared.call.Outcome.{Outcome}
use Rattle.evm_model.specs.declared.call.Outcome.TheVariants.{Returns}
use Rattle.evm_model.specs.declared.errno.Errno.{Errno}
use Rattle.evm_model.specs.declared.errno.Errno.TheVariants.{NotPermitted, NoNumber, Busy, Invalid, Deadlock}
use Rattle.evm_model.specs.declared.limits.TheConstants.{MUTEX_LIMIT, PRIORITY_LIMIT, TASK_LIMIT}
use Rattle.evm_model.specs.declared.mutex.Mutex.{Mutex}
use Rattle.evm_model.specs.declared.mutex.Protocol.TheVariants.{Inheritance, Ceiling}
use Rattle.evm_model.specs.declared.notice.NoticeKind.TheVariants.{Deadlock as Unending, NotOwner}
use Rattle.evm_model.specs.declared.stage.Stage.TheVariants.{OutOfBand}
use Rattle.evm_model.specs.declared.task.Wait.TheVariants.{Lock}

-- ---- 9: a new mutex
-- a ceiling is a priority from 1 on
abbrev pub with_ceiling : Bool → ℕ → Option Mutex
with_ceiling recursive priority =
    if nat_lt priority 1 then None
    else (if nat_lt PRIORITY_LIMIT priority then None else Some (free_mutex recursive (Ceiling priority)))

-- kind 1 and 3 are recursive, 2 and 3 have a ceiling
abbrev pub mutex_of : ℕ → ℕ → Option Mutex
mutex_of kind priority =
    if kind == 0 then Some (free_mutex false Inheritance)
    else (if kind == 1 then Some (free_mutex true Inheritance)
    else (if kind == 2 then with_ceiling false priority
    else (if kind == 3 then with_ceiling true priority else None)))

unfoldable pub add_mutex : Mutex → Parts → Parts
add_mutex mutex p = record p { mutexes = p.mutexes ++ mutex ∷ [] }

abbrev pub new_mutex_as : Option Mutex → Parts → Parts × Outcome
new_mutex_as None p = refused Invalid p
new_mutex_as (Some mutex) p =
    if nat_le MUTEX_LIMIT (length p.mutexes) then refused NoNumber p
    else (add_mutex mutex p, Returns (length p.mutexes))

-- its number is answered
unfoldable pub new_mutex : ℕ → ℕ → Parts → Parts × Outcome
new_mutex kind priority p = new_mutex_as (mutex_of kind priority) p

-- ---- 36 and 37: a lock
-- of a free mutex: the task has it
unfoldable pub take_mutex : ℕ → ℕ → Parts → Parts
take_mutex t m p = on_mutex m (held_by t 1) p

-- of its own: it has it once more, where it is recursive
unfoldable pub lock_again : ℕ → ℕ → Mutex → Parts → Parts × Outcome
lock_again t m mutex p =
    if mutex.recursive then (on_mutex m (held_by t (mutex.count + 1)) p, Returns 0) else refused Deadlock p

-- the owner u waits for task t by some chain, or is it: the wait would never end
abbrev pub cycle_refusal : ℕ → ℕ → Parts → Option Errno
cycle_refusal t u p = if reaches (waits_on p.mutexes p.tasks) t TASK_LIMIT (Some u) then Some Deadlock else None

-- of task u's: it waits
unfoldable pub lock_other : ℕ → ℕ → ℕ → ℕ → ℕ → Parts → Parts × Outcome
lock_other c t m u deadline p =
    wait_unless (wait_refusal (is_stalled OutOfBand c p) (cycle_refusal t u p) p.ticks deadline) t (Lock m) deadline p

abbrev pub lock_owned : Option ℕ → ℕ → ℕ → ℕ → ℕ → Mutex → Parts → Parts × Outcome
lock_owned None c t m deadline mutex p = (take_mutex t m p, Returns 0)
lock_owned (Some u) c t m deadline mutex p =
    if u == t then lock_again t m mutex p else lock_other c t m u deadline p

abbrev pub lock_known : Option Mutex → ℕ → ℕ → ℕ → ℕ → Parts → Parts × Outcome
lock_known None c t m deadline p = refused Invalid p
lock_known (Some mutex) c t m deadline p = lock_owned mutex.owner c t m deadline mutex p

-- 36: the task has the mutex, or waits for it; a deadlock makes a notice
unfoldable pub lock : ℕ → ℕ → ℕ → ℕ → Parts → Parts × Outcome
lock c t m deadline p = notify_refused Deadlock Unending t (lock_known (slice_get p.mutexes m) c t m deadline p)

abbrev pub try_owned : Option ℕ → ℕ → ℕ → Mutex → Parts → Parts × Outcome
try_owned None t m mutex p = (take_mutex t m p, Returns 0)
try_owned (Some u) t m mutex p = if u == t then lock_again t m mutex p else refused Busy p

abbrev pub try_known : Option Mutex → ℕ → ℕ → Parts → Parts × Outcome
try_known None t m p = refused Invalid p
try_known (Some mutex) t m p = try_owned mutex.owner t m mutex p

-- 37: the task has the mutex, if it need not wait for it; a deadlock makes a notice
unfoldable pub try_lock : ℕ → ℕ → Parts → Parts × Outcome
try_lock t m p = notify_refused Deadlock Unending t (try_known (slice_get p.mutexes m) t m p)

-- ---- 38: an unlock
-- the last one passes the mutex on
unfoldable pub unlock_once : ℕ → ℕ → Mutex → Parts → Parts
unlock_once t m mutex p = if nat_le mutex.count 1 then hand_over m p else on_mutex m (held_by t (mutex.count - 1)) p

abbrev pub unlock_known : Option Mutex → ℕ → ℕ → Parts → Parts × Outcome
unlock_known None t m p = refused Invalid p
unlock_known (Some mutex) t m p =
    if is_number mutex.owner t then (unlock_once t m mutex p, Returns 0) else refused NotPermitted p

-- 38: an unlock by another task than the owner makes a notice
unfoldable pub unlock : ℕ → ℕ → Parts → Parts × Outcome
unlock t m p = notify_refused NotPermitted NotOwner t (unlock_known (slice_get p.mutexes m) t m p)
