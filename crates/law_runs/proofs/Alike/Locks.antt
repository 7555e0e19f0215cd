-- Each call on a mutex does alike to alike parts.
use Rattle.std.proofs.Common.{◌≡◌, ℕ, ◌+◌, ◌-◌, [], ◌∷◌, ◌++◌, Option, Some, None, length, refl, ap}
use Rattle.std.specs.Prelude.{nat_le, slice_get, if◌then◌else◌}
use Rattle.evm_model.specs.Boosts.{reaches}
use Rattle.evm_model.specs.Locks.{add_mutex, cycle_refusal, lock, lock_again, lock_known, lock_other, lock_owned, mutex_of, new_mutex, new_mutex_as, take_mutex, try_known, try_lock, try_owned, unlock, unlock_known, unlock_once}
use Rattle.evm_model.specs.Mutexes.{held_by}
use Rattle.evm_model.specs.State.{Parts}
use Rattle.evm_model.specs.declared.call.Outcome.TheVariants.{Returns}
use Rattle.evm_model.specs.declared.errno.Errno.TheVariants.{NotPermitted, Deadlock}
use Rattle.evm_model.specs.declared.limits.TheConstants.{MUTEX_LIMIT, TASK_LIMIT}
use Rattle.evm_model.specs.declared.mutex.Mutex.{Mutex}
use Rattle.evm_model.specs.declared.notice.NoticeKind.TheVariants.{Deadlock as Unending, NotOwner}
use Rattle.evm_model.specs.declared.stage.Stage.TheVariants.{OutOfBand}
use Rattle.evm_model.specs.declared.task.Wait.TheVariants.{Lock}
use Rattle.law_runs.specs.Alike.{Alike}
use Rattle.law_runs.proofs.Alike.Changing.{AlikeDone, alike_if, alike_mutex, done_if}
use Rattle.law_runs.proofs.Alike.Reading.{waits_on-same}
use Rattle.law_runs.proofs.Alike.Tasks.{alike_hand_over, done_notify, done_wait}

module _ {p q : Parts} (a : Alike p q) where
  mutex-same : (m : ℕ) → slice_get p.mutexes m ≡ slice_get q.mutexes m
  mutex-same m = ap (λ (x : Parts). slice_get x.mutexes m) a.same

  -- ---- call 9
  alike_add_mutex : (mutex : Mutex) → Alike (add_mutex mutex p) (add_mutex mutex q)
  unfolding add_mutex
  alike_add_mutex mutex = record { same = ap (λ (x : Parts). record x { mutexes = x.mutexes ++ mutex ∷ [] }) a.same; order = a.order; below = a.below; other_below = a.other_below }

  new_by : (o : Option Mutex) → AlikeDone (new_mutex_as o p) (new_mutex_as o q)
  new_by None = (a, refl)
  new_by (Some mutex) =
      let count : length p.mutexes ≡ length q.mutexes = ap (λ (x : Parts). length x.mutexes) a.same in
      done_if (ap (nat_le MUTEX_LIMIT) count) (a, refl) (alike_add_mutex mutex, ap Returns count)

  pub done_new_mutex : (kind priority : ℕ) → AlikeDone (new_mutex kind priority p) (new_mutex kind priority q)
  unfolding new_mutex
  done_new_mutex kind priority = new_by (mutex_of kind priority)

  -- ---- calls 36 and 37
  alike_take : (t m : ℕ) → Alike (take_mutex t m p) (take_mutex t m q)
  unfolding take_mutex
  alike_take t m = alike_mutex a m (held_by t 1)

  again : (t m : ℕ) (mutex : Mutex) → AlikeDone (lock_again t m mutex p) (lock_again t m mutex q)
  unfolding lock_again
  again t m mutex = done_if refl (alike_mutex a m (held_by t (mutex.count + 1)), refl) (a, refl)

  cycle-same : (t u : ℕ) → cycle_refusal t u p ≡ cycle_refusal t u q
  cycle-same t u = ap (λ (f : ℕ → Option ℕ). if reaches f t TASK_LIMIT (Some u) then Some Deadlock else None) (waits_on-same a)

  other : (c t m u deadline : ℕ) → AlikeDone (lock_other c t m u deadline p) (lock_other c t m u deadline q)
  unfolding lock_other
  other c t m u deadline = done_wait a OutOfBand c _ _ t (Lock m) deadline (cycle-same t u)

  lock_by : (o : Option ℕ) (c t m deadline : ℕ) (mutex : Mutex) → AlikeDone (lock_owned o c t m deadline mutex p) (lock_owned o c t m deadline mutex q)
  lock_by None c t m deadline mutex = (alike_take t m, refl)
  lock_by (Some u) c t m deadline mutex = done_if refl (again t m mutex) (other c t m u deadline)

  lock_in : (o : Option Mutex) (c t m deadline : ℕ) → AlikeDone (lock_known o c t m deadline p) (lock_known o c t m deadline q)
  lock_in None c t m deadline = (a, refl)
  lock_in (Some mutex) c t m deadline = lock_by mutex.owner c t m deadline mutex

  lock_at : (o o' : Option Mutex) (c t m deadline : ℕ) → o ≡ o' → AlikeDone (lock_known o c t m deadline p) (lock_known o' c t m deadline q)
  lock_at o o' c t m deadline e = rw (← e) (lock_in o c t m deadline)

  pub done_lock : (c t m deadline : ℕ) → AlikeDone (lock c t m deadline p) (lock c t m deadline q)
  unfolding lock
  done_lock c t m deadline = done_notify (lock_at _ _ c t m deadline (mutex-same m)) Deadlock Unending t

  try_by : (o : Option ℕ) (t m : ℕ) (mutex : Mutex) → AlikeDone (try_owned o t m mutex p) (try_owned o t m mutex q)
  try_by None t m mutex = (alike_take t m, refl)
  try_by (Some u) t m mutex = done_if refl (again t m mutex) (a, refl)

  try_in : (o : Option Mutex) (t m : ℕ) → AlikeDone (try_known o t m p) (try_known o t m q)
  try_in None t m = (a, refl)
  try_in (Some mutex) t m = try_by mutex.owner t m mutex

  try_at : (o o' : Option Mutex) (t m : ℕ) → o ≡ o' → AlikeDone (try_known o t m p) (try_known o' t m q)
  try_at o o' t m e = rw (← e) (try_in o t m)

  pub done_try_lock : (t m : ℕ) → AlikeDone (try_lock t m p) (try_lock t m q)
  unfolding try_lock
  done_try_lock t m = done_notify (try_at _ _ t m (mutex-same m)) Deadlock Unending t

  -- ---- call 38
  unlock_by : (t m : ℕ) (mutex : Mutex) → Alike (unlock_once t m mutex p) (unlock_once t m mutex q)
  unfolding unlock_once
  unlock_by t m mutex = alike_if refl (alike_hand_over a m) (alike_mutex a m (held_by t (mutex.count - 1)))

  unlock_in : (o : Option Mutex) (t m : ℕ) → AlikeDone (unlock_known o t m p) (unlock_known o t m q)
  unlock_in None t m = (a, refl)
  unlock_in (Some mutex) t m = done_if refl (unlock_by t m mutex, refl) (a, refl)

  unlock_at : (o o' : Option Mutex) (t m : ℕ) → o ≡ o' → AlikeDone (unlock_known o t m p) (unlock_known o' t m q)
  unlock_at o o' t m e = rw (← e) (unlock_in o t m)

  pub done_unlock : (t m : ℕ) → AlikeDone (unlock t m p) (unlock t m q)
  unfolding unlock
  done_unlock t m = done_notify (unlock_at _ _ t m (mutex-same m)) NotPermitted NotOwner t
