-- Each call on a mutex leaves the state good but for what its processor settles.
use Rattle.std.proofs.Common.{◌≡◌, ℕ, ◌+◌, ◌-◌, ◌<◌, [], ◌∷◌, ◌++◌, Bool, true, false, Option, Some, None, length, refl, ap, sym, ◌∙◌, arith}
use Rattle.std.specs.Prelude.{slice_get, nat_lt, nat_le, ◌==◌, if◌then◌else◌}
use Rattle.std.proofs.lemmas.Bool.Decides.{nat_tests}
use Rattle.evm_model.specs.Boosts.{is_number, reaches}
use Rattle.evm_model.proofs.Lists.{slice_get-below}
use Rattle.evm_model.specs.Good.{IsOwn, event_of, event_of_task, event_at, is_ready}
use Rattle.evm_model.specs.Locks.{with_ceiling, mutex_of, add_mutex, new_mutex_as, new_mutex, take_mutex, lock_again, cycle_refusal, lock_other, lock_owned, lock_known, lock, try_owned, try_known, try_lock, unlock_once, unlock_known, unlock}
use Rattle.evm_model.specs.Mutexes.{owner, owner_of, free_mutex, held_by, lock_of, lock_of_task, lock_at, waits_on}
use Rattle.evm_model.specs.Passing.{hand_over}
use Rattle.evm_model.specs.Stages.{is_stalled, wait_refusal}
use Rattle.evm_model.specs.State.{Parts, on_mutex}
use Rattle.evm_model.specs.declared.errno.Errno.TheVariants.{Deadlock, NotPermitted}
use Rattle.evm_model.specs.declared.call.Outcome.{Outcome}
use Rattle.evm_model.specs.declared.limits.TheConstants.{TASK_LIMIT, MUTEX_LIMIT, PRIORITY_LIMIT}
use Rattle.evm_model.specs.declared.mutex.Mutex.{Mutex}
use Rattle.evm_model.specs.declared.mutex.Protocol.{Protocol}
use Rattle.evm_model.specs.declared.mutex.Protocol.TheVariants.{Inheritance, Ceiling}
use Rattle.evm_model.specs.declared.notice.NoticeKind.TheVariants.{Deadlock as Unending, NotOwner}
use Rattle.evm_model.specs.declared.stage.Stage.TheVariants.{OutOfBand}
use Rattle.evm_model.specs.declared.task.TaskState.{TaskState}
use Rattle.evm_model.specs.declared.task.TaskState.TheVariants.{InReady, OobReady}
use Rattle.evm_model.specs.declared.task.Wait.TheVariants.{Lock}
use Rattle.law_rules.proofs.Acting.{but-waits}
use Rattle.law_rules.proofs.Firsts.{IsOobOwn}
use Rattle.law_rules.proofs.Locks.{locks-push}
use Rattle.law_rules.proofs.Notices.{noted-done}
use Rattle.law_rules.proofs.Passing.{but-mutexes, but-owned, hand_over-stirs}
use Rattle.law_rules.proofs.Settling.{GoodBut}
use Rattle.law_rules.proofs.Waited.{events-push}
use Rattle.law_rules.proofs.Done.{IsDone, either, may-wait, not-closed, stirs-done, unless-done}

room-mutex : (k : Parts) → nat_le MUTEX_LIMIT (length k.mutexes) ≡ false → length k.mutexes < MUTEX_LIMIT
room-mutex k e = grind (arith, nat_tests)

no-cycle : (b : Bool) → (if b then Some Deadlock else None) ≡ None → b ≡ false
no-cycle true e = cc
no-cycle false e = refl

-- a task that is ready waits for no lock
ready-idle : (s : TaskState) → is_ready s ≡ true → lock_of s ≡ None
ready-idle InReady e = refl
ready-idle OobReady e = refl
ready-idle _ e = cc

-- nor for an event
ready-apart : (s : TaskState) → is_ready s ≡ true → event_of s ≡ None
ready-apart InReady e = refl
ready-apart OobReady e = refl
ready-apart _ e = cc

-- a new mutex is nobody's
option-if : (b : Bool) (x y : Option Mutex) (mutex : Mutex) → ((mutex : Mutex) → x ≡ Some mutex → mutex.owner ≡ None) → ((mutex : Mutex) → y ≡ Some mutex → mutex.owner ≡ None) → (if b then x else y) ≡ Some mutex → mutex.owner ≡ None
option-if true x y mutex p q e = p mutex e
option-if false x y mutex p q e = q mutex e

free-is : (recursive : Bool) (protocol : Protocol) (mutex : Mutex) → Some (free_mutex recursive protocol) ≡ Some mutex → mutex.owner ≡ None
free-is recursive protocol mutex e = let is : free_mutex recursive protocol ≡ mutex = cc in ap (λ (x : Mutex). x.owner) (sym is)

no-mutex : (mutex : Mutex) → None ≡ Some mutex → mutex.owner ≡ None
no-mutex mutex e = cc

ceiling-free : (recursive : Bool) (priority : ℕ) (mutex : Mutex) → with_ceiling recursive priority ≡ Some mutex → mutex.owner ≡ None
ceiling-free recursive priority mutex e =
    option-if (nat_lt priority 1) None _ mutex no-mutex (λ x h. option-if (nat_lt PRIORITY_LIMIT priority) None (Some (free_mutex recursive (Ceiling priority))) x no-mutex (free-is recursive (Ceiling priority)) h) e

mutex_of-free : (kind priority : ℕ) (mutex : Mutex) → mutex_of kind priority ≡ Some mutex → mutex.owner ≡ None
mutex_of-free kind priority mutex e =
    option-if (kind == 0) _ _ mutex (free-is false Inheritance) (λ x h.
    option-if (kind == 1) _ _ x (free-is true Inheritance) (λ y i.
    option-if (kind == 2) _ _ y (ceiling-free false priority) (λ z j.
    option-if (kind == 3) _ None z (ceiling-free true priority) no-mutex j) i) h) e

each-of : (c t : ℕ) (b : Bool) (x y : Parts) (outcome : Outcome) → IsDone c t (x, outcome) → IsDone c t (y, outcome) → IsDone c t (if b then x else y, outcome)
each-of c t true x y outcome p q = p
each-of c t false x y outcome p q = q

module _ (c t : ℕ) (k : Parts) (g : GoodBut c k) (o : IsOwn c t k.tasks) where
  same : (outcome : Outcome) → IsDone c t (k, outcome)
  same outcome = record { but = g; own = λ v n. o }

  own-there : t < length k.tasks
  own-there = slice_get-below k.tasks t o.task o.there

  own-idle : lock_at k.tasks t ≡ None
  own-idle = ap lock_of_task o.there ∙ ready-idle o.task.state o.ready

  own-apart : event_at k.tasks t ≡ None
  own-apart = ap event_of_task o.there ∙ ready-apart o.task.state o.ready

  add_mutex-done : (mutex : Mutex) → mutex.owner ≡ None → length k.mutexes < MUTEX_LIMIT → (outcome : Outcome) → IsDone c t (add_mutex mutex k, outcome)
  unfolding add_mutex
  add_mutex-done mutex free room outcome = record {
    but = but-mutexes c k (k.mutexes ++ mutex ∷ []) (locks-push k.mutexes k.tasks mutex free room g.shape.locks) (events-push k.events k.mutexes k.tasks mutex free g.shape.events) g;
    own = λ v n. o;
  }

  new_mutex_as-done : (x : Option Mutex) → ((mutex : Mutex) → x ≡ Some mutex → mutex.owner ≡ None) → IsDone c t (new_mutex_as x k)
  new_mutex_as-done None h = same _
  new_mutex_as-done (Some mutex) h = either c t (nat_le MUTEX_LIMIT (length k.mutexes)) _ _ (λ e. same _) (λ room. add_mutex-done mutex (h mutex refl) (room-mutex k room) _)

  pub new_mutex-done : (kind priority : ℕ) → IsDone c t (new_mutex kind priority k)
  unfolding new_mutex
  new_mutex-done kind priority = new_mutex_as-done (mutex_of kind priority) (mutex_of-free kind priority)

  holds-done : (m : ℕ) (f : Mutex → Mutex) (outcome : Outcome) → ((x : Mutex) → (f x).owner ≡ Some t) → IsDone c t (on_mutex m f k, outcome)
  holds-done m f outcome h = record { but = but-owned c m t f k h own-there own-idle own-apart g; own = λ v n. o }

  take-done : (m : ℕ) (outcome : Outcome) → IsDone c t (take_mutex t m k, outcome)
  unfolding take_mutex
  take-done m outcome = holds-done m (held_by t 1) outcome (λ x. refl)

  again-done : (m : ℕ) (mutex : Mutex) → IsDone c t (lock_again t m mutex k)
  unfolding lock_again
  again-done m mutex = either c t mutex.recursive _ _ (λ e. holds-done m (held_by t (mutex.count + 1)) _ (λ x. refl)) (λ e. same _)

  other-done : (m u deadline : ℕ) → owner k.mutexes m ≡ Some u → IsOobOwn c t k.tasks → IsDone c t (lock_other c t m u deadline k)
  unfolding lock_other
  other-done m u deadline own w =
      unless-done c t k g o (wait_refusal (is_stalled OutOfBand c k) (cycle_refusal t u k) k.ticks deadline) (Lock m) deadline (λ e.
      let free = may-wait (is_stalled OutOfBand c k) (cycle_refusal t u k) k.ticks deadline e in
      but-waits c t m u deadline k own (no-cycle (reaches (waits_on k.mutexes k.tasks) t TASK_LIMIT (Some u)) free.1) (not-closed c k free.0) w g)

  owned-done : (x : Option ℕ) (m deadline : ℕ) (mutex : Mutex) → owner k.mutexes m ≡ x → IsOobOwn c t k.tasks → IsDone c t (lock_owned x c t m deadline mutex k)
  owned-done None m deadline mutex own w = take-done m _
  owned-done (Some u) m deadline mutex own w = either c t (u == t) _ _ (λ e. again-done m mutex) (λ e. other-done m u deadline own w)

  known-done : (x : Option Mutex) (m deadline : ℕ) → slice_get k.mutexes m ≡ x → IsOobOwn c t k.tasks → IsDone c t (lock_known x c t m deadline k)
  known-done None m deadline there w = same _
  known-done (Some mutex) m deadline there w = owned-done mutex.owner m deadline mutex (ap owner_of there) w

  pub lock-done : (m deadline : ℕ) → IsOobOwn c t k.tasks → IsDone c t (lock c t m deadline k)
  unfolding lock
  lock-done m deadline w = noted-done c t Deadlock Unending (lock_known (slice_get k.mutexes m) c t m deadline k) (known-done (slice_get k.mutexes m) m deadline refl w)

  try_owned-done : (x : Option ℕ) (m : ℕ) (mutex : Mutex) → IsDone c t (try_owned x t m mutex k)
  try_owned-done None m mutex = take-done m _
  try_owned-done (Some u) m mutex = either c t (u == t) _ _ (λ e. again-done m mutex) (λ e. same _)

  try_known-done : (x : Option Mutex) (m : ℕ) → IsDone c t (try_known x t m k)
  try_known-done None m = same _
  try_known-done (Some mutex) m = try_owned-done mutex.owner m mutex

  pub try_lock-done : (m : ℕ) → IsDone c t (try_lock t m k)
  unfolding try_lock
  try_lock-done m = noted-done c t Deadlock Unending (try_known (slice_get k.mutexes m) t m k) (try_known-done (slice_get k.mutexes m) m)

  passes-done : (m : ℕ) (outcome : Outcome) → IsDone c t (hand_over m k, outcome)
  passes-done m outcome = stirs-done c t k (hand_over m k) outcome (hand_over-stirs m k g.shape) g o

  unlock_once-done : (m : ℕ) (mutex : Mutex) (outcome : Outcome) → IsDone c t (unlock_once t m mutex k, outcome)
  unfolding unlock_once
  unlock_once-done m mutex outcome = each-of c t (nat_le mutex.count 1) _ _ outcome (passes-done m outcome) (holds-done m (held_by t (mutex.count - 1)) outcome (λ x. refl))

  unlock_known-done : (x : Option Mutex) (m : ℕ) → IsDone c t (unlock_known x t m k)
  unlock_known-done None m = same _
  unlock_known-done (Some mutex) m = either c t (is_number mutex.owner t) _ _ (λ e. unlock_once-done m mutex _) (λ e. same _)

  pub unlock-done : (m : ℕ) → IsDone c t (unlock t m k)
  unfolding unlock
  unlock-done m = noted-done c t NotPermitted NotOwner (unlock_known (slice_get k.mutexes m) t m k) (unlock_known-done (slice_get k.mutexes m) m)
