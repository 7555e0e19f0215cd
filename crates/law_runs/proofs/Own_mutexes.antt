-- What calls on mutexes leave alone of their own task.
use Rattle.std.proofs.Common.{◌≡◌, ℕ, ◌-◌, Bool, true, false, Option, Some, None, length, refl}
use Rattle.std.specs.Prelude.{slice_get, nat_le, ◌==◌, if◌then◌else◌}
use Rattle.evm_model.specs.Boosts.{is_number}
use Rattle.evm_model.specs.Good.{is_ready}
use Rattle.evm_model.specs.Locks.{mutex_of, add_mutex, new_mutex_as, new_mutex, take_mutex, lock_again, cycle_refusal, lock_other, lock_owned, lock_known, lock, try_owned, try_known, try_lock, unlock_once, unlock_known, unlock}
use Rattle.evm_model.specs.Mutexes.{held_by}
use Rattle.evm_model.specs.Notices.{asks_for, keep, is_refused, notify, notify_refused}
use Rattle.evm_model.specs.Passing.{hand_over}
use Rattle.evm_model.specs.Stages.{is_stalled, wait_refusal}
use Rattle.evm_model.specs.State.{Parts, on_mutex}
use Rattle.evm_model.specs.declared.call.Outcome.{Outcome}
use Rattle.evm_model.specs.declared.errno.Errno.{Errno}
use Rattle.evm_model.specs.declared.errno.Errno.TheVariants.{NotPermitted, Deadlock}
use Rattle.evm_model.specs.declared.limits.TheConstants.{MUTEX_LIMIT}
use Rattle.evm_model.specs.declared.mutex.Mutex.{Mutex}
use Rattle.evm_model.specs.declared.notice.NoticeKind.{NoticeKind}
use Rattle.evm_model.specs.declared.notice.NoticeKind.TheVariants.{Deadlock as Unending, NotOwner}
use Rattle.evm_model.specs.declared.stage.Stage.TheVariants.{OutOfBand}
use Rattle.evm_model.specs.declared.task.Task.{Task}
use Rattle.evm_model.specs.declared.task.Wait.TheVariants.{Lock as Locked}
use Rattle.law_runs.specs.Own.{Fields, nothing, waiting}
use Rattle.law_runs.proofs.Owning.{Own, alone, same, either, hands_over, waits_unless}

module _ (t : ℕ) (task : Task) (k : Parts) (there : slice_get k.tasks t ≡ Some task) (ready : is_ready task.state ≡ true) where
  -- a notice is nothing that it has
  noted : (may : Fields) (kind : NoticeKind) (u : ℕ) (x : Parts) → Own may t task k x → Own may t task k (notify kind u x)
  unfolding notify
  noted may kind u x w = by (asks_for kind (slice_get x.tasks u))
    where
      by : (b : Bool) → Own may t task k (if b then record x { notices = keep (record { tick = x.ticks; task = u; kind = kind }) x.notices } else x)
      by true = record { after = w.after; there = w.there; leaves = w.leaves; stamp = w.stamp; state = w.state; hart = w.hart }
      by false = w

  refused_so : (may : Fields) (e : Errno) (kind : NoticeKind) (done : Parts × Outcome) → Own may t task k done.0 → Own may t task k (notify_refused e kind t done).0
  refused_so may e kind done w = either t task k there ready may (is_refused e done.1) (notify kind t done.0, done.1) done (noted may kind t done.0 w) w

  makes_as : (o : Option Mutex) → Own nothing t task k (new_mutex_as o k).0
  unfolding add_mutex
  makes_as None = same t task k there ready nothing
  makes_as (Some mutex) = either t task k there ready nothing (nat_le MUTEX_LIMIT (length k.mutexes)) _ _ (same t task k there ready nothing) (alone t task k there ready nothing _ (record { task = refl; hart = refl }))

  pub makes : (kind priority : ℕ) → Own nothing t task k (new_mutex kind priority k).0
  unfolding new_mutex
  makes kind priority = makes_as (mutex_of kind priority)

  takes : (may : Fields) (m : ℕ) → Own may t task k (take_mutex t m k)
  unfolding take_mutex
  takes may m = alone t task k there ready may _ (record { task = refl; hart = refl })

  again : (may : Fields) (m : ℕ) (mutex : Mutex) → Own may t task k (lock_again t m mutex k).0
  unfolding lock_again
  again may m mutex = either t task k there ready may mutex.recursive _ _ (alone t task k there ready may _ (record { task = refl; hart = refl })) (same t task k there ready may)

  locks_other : (c m u deadline : ℕ) → Own waiting t task k (lock_other c t m u deadline k).0
  unfolding lock_other
  locks_other c m u deadline = waits_unless t task k there ready (wait_refusal (is_stalled OutOfBand c k) (cycle_refusal t u k) k.ticks deadline) (Locked m) deadline

  locks_owned : (o : Option ℕ) (c m deadline : ℕ) (mutex : Mutex) → Own waiting t task k (lock_owned o c t m deadline mutex k).0
  locks_owned None c m deadline mutex = takes waiting m
  locks_owned (Some u) c m deadline mutex = either t task k there ready waiting (u == t) _ _ (again waiting m mutex) (locks_other c m u deadline)

  locks_known : (o : Option Mutex) (c m deadline : ℕ) → Own waiting t task k (lock_known o c t m deadline k).0
  locks_known None c m deadline = same t task k there ready waiting
  locks_known (Some mutex) c m deadline = locks_owned mutex.owner c m deadline mutex

  pub locks : (c m deadline : ℕ) → Own waiting t task k (lock c t m deadline k).0
  unfolding lock
  locks c m deadline = refused_so waiting Deadlock Unending (lock_known (slice_get k.mutexes m) c t m deadline k) (locks_known (slice_get k.mutexes m) c m deadline)

  tries_owned : (o : Option ℕ) (m : ℕ) (mutex : Mutex) → Own nothing t task k (try_owned o t m mutex k).0
  tries_owned None m mutex = takes nothing m
  tries_owned (Some u) m mutex = either t task k there ready nothing (u == t) _ _ (again nothing m mutex) (same t task k there ready nothing)

  tries_known : (o : Option Mutex) (m : ℕ) → Own nothing t task k (try_known o t m k).0
  tries_known None m = same t task k there ready nothing
  tries_known (Some mutex) m = tries_owned mutex.owner m mutex

  pub tries : (m : ℕ) → Own nothing t task k (try_lock t m k).0
  unfolding try_lock
  tries m = refused_so nothing Deadlock Unending (try_known (slice_get k.mutexes m) t m k) (tries_known (slice_get k.mutexes m) m)

  unlocks_if : (b : Bool) (m count : ℕ) → Own nothing t task k (if b then hand_over m k else on_mutex m (held_by t count) k)
  unlocks_if true m count = alone t task k there ready nothing _ (hands_over t task k there ready m k (record { task = refl; hart = refl }))
  unlocks_if false m count = alone t task k there ready nothing _ (record { task = refl; hart = refl })

  unlocks_once : (m : ℕ) (mutex : Mutex) → Own nothing t task k (unlock_once t m mutex k)
  unfolding unlock_once
  unlocks_once m mutex = unlocks_if (nat_le mutex.count 1) m (mutex.count - 1)

  unlocks_known : (o : Option Mutex) (m : ℕ) → Own nothing t task k (unlock_known o t m k).0
  unlocks_known None m = same t task k there ready nothing
  unlocks_known (Some mutex) m = either t task k there ready nothing (is_number mutex.owner t) _ _ (unlocks_once m mutex) (same t task k there ready nothing)

  pub unlocks : (m : ℕ) → Own nothing t task k (unlock t m k).0
  unfolding unlock
  unlocks m = refused_so nothing NotPermitted NotOwner (unlock_known (slice_get k.mutexes m) t m k) (unlocks_known (slice_get k.mutexes m) m)
