-- Who waits for whom, who boosts whom, and what a rank is one of.
use Rattle.std.proofs.Common.{◌≡◌, ℕ, zero, suc, ◌+◌, ◌<◌, List, Option, Some, None, Bool, true, false, slice_get, length, ◌⊎◌, inl, inr, refl, ap, ◌∙◌, arith}
use Rattle.std.specs.Prelude.{nat_le, if◌then◌else◌}
use Rattle.evm_model.specs.Boosts.{is_number, greater, greatest, HasHeight}
use Rattle.evm_model.proofs.Greatest.{boosts-is}
use Rattle.evm_model.proofs.Links.{fewer-keeps}
use Rattle.evm_model.specs.Good.{AreLocks}
use Rattle.evm_model.specs.Mutexes.{owner, owner_of, owner_for, lock_of, lock_of_task, lock_at, waits_on, heir_by, heir_of, heir_for, boosts, ceiling_owner_by, ceiling_owner_of, ceiling_owner, ceiling, ceiling_by, ceiling_of}
use Rattle.evm_model.specs.declared.limits.TheConstants.{TASK_LIMIT}
use Rattle.evm_model.specs.declared.mutex.Mutex.{Mutex}
use Rattle.evm_model.specs.declared.mutex.Protocol.{Protocol}
use Rattle.evm_model.specs.declared.mutex.Protocol.TheVariants.{Inheritance, Ceiling}
use Rattle.evm_model.specs.declared.task.Task.{Task}
use Rattle.evm_model.specs.declared.task.TaskState.{TaskState}
use Rattle.evm_model.specs.declared.task.TaskState.TheVariants.{Waits}
use Rattle.evm_model.specs.declared.task.Wait.TheVariants.{Lock, Reacquire}
use Rattle.evm_model.proofs.Lists.{slice_get-below}
use Rattle.claims_machine.specs.Waiting.{WaitsForMutex}

-- ---- the greatest
-- it is the first number, or of one that boosts
abbrev pub IsOne : (ℕ → Option ℕ) → (ℕ → ℕ) → ℕ → ℕ → ℕ → ℕ → Type 0
IsOne boosts rank t first n g = (g ≡ first) ⊎ ((u : ℕ) × (u < n) × (boosts u ≡ Some t) × (g ≡ rank u))

one_more : (boosts : ℕ → Option ℕ) (rank : ℕ → ℕ) (t first n g : ℕ) → IsOne boosts rank t first n g → IsOne boosts rank t first (suc n) g
one_more boosts rank t first n g (inl e) = inl e
one_more boosts rank t first n g (inr h) = inr (h.0, omega (arith, h.1), h.2, h.3)

one_of_two : (c : Bool) (boosts : ℕ → Option ℕ) (rank : ℕ → ℕ) (t first n g : ℕ) → boosts n ≡ Some t → IsOne boosts rank t first n g → IsOne boosts rank t first (suc n) (if c then rank n else g)
one_of_two true boosts rank t first n g e h = inr (n, omega arith, e, refl)
one_of_two false boosts rank t first n g e h = one_more boosts rank t first n g h

one_if : (b : Bool) (boosts : ℕ → Option ℕ) (rank : ℕ → ℕ) (t first n g : ℕ) → is_number (boosts n) t ≡ b → IsOne boosts rank t first n g
    → IsOne boosts rank t first (suc n) (if b then greater g (rank n) else g)
one_if true boosts rank t first n g e h = one_of_two (nat_le g (rank n)) boosts rank t first n g (boosts-is (boosts n) t e) h
one_if false boosts rank t first n g e h = one_more boosts rank t first n g h

pub greatest-one : (boosts : ℕ → Option ℕ) (rank : ℕ → ℕ) (t first n : ℕ) → IsOne boosts rank t first n (greatest boosts rank t first n)
unfolding greatest
greatest-one boosts rank t first zero = inl refl
greatest-one boosts rank t first (suc n) = one_if (is_number (boosts n) t) boosts rank t first n (greatest boosts rank t first n) refl (greatest-one boosts rank t first n)

-- ---- who waits for whom
state_for : (state : TaskState) (m : ℕ) → WaitsForMutex state m → lock_of state ≡ Some m
state_for state m (inl on) = ap lock_of on
state_for state m (inr on) = ap lock_of on.1

pub locks : (tasks : List Task) (u m : ℕ) (task : Task) → slice_get tasks u ≡ Some task → WaitsForMutex task.state m → lock_at tasks u ≡ Some m
locks tasks u m task e on = ap lock_of_task e ∙ state_for task.state m on

-- a task that waits for a mutex
pub record IsLocked (tasks : List Task) (u m : ℕ) : Type 0 where
  pub task : Task
  pub there : slice_get tasks u ≡ Some task
  pub on : WaitsForMutex task.state m

state_locks : (state : TaskState) (m : ℕ) → lock_of state ≡ Some m → WaitsForMutex state m
state_locks (Waits (Lock n)) m e = let same : n ≡ m = cc in inl (ap (λ i. Waits (Lock i)) same)
state_locks (Waits (Reacquire n answer)) m e = let same : n ≡ m = cc in inr (answer, ap (λ i. Waits (Reacquire i answer)) same)
state_locks _ m e = cc

locked_as : (tasks : List Task) (u m : ℕ) (o : Option Task) → slice_get tasks u ≡ o → lock_of_task o ≡ Some m → IsLocked tasks u m
locked_as tasks u m None e h = cc
locked_as tasks u m (Some task) e h = record { task = task; there = e; on = state_locks task.state m h }

pub locked : (tasks : List Task) (u m : ℕ) → lock_at tasks u ≡ Some m → IsLocked tasks u m
locked tasks u m e = locked_as tasks u m (slice_get tasks u) refl e

pub waits : (mutexes : List Mutex) (tasks : List Task) (u m : ℕ) → lock_at tasks u ≡ Some m → waits_on mutexes tasks u ≡ owner mutexes m
waits mutexes tasks u m e = ap (owner_for mutexes) e

-- ---- who boosts whom
-- a mutex of inheritance that a task owns
pub record IsHeir (mutexes : List Mutex) (m t : ℕ) : Type 0 where
  pub mutex : Mutex
  pub there : slice_get mutexes m ≡ Some mutex
  pub inherits : mutex.protocol ≡ Inheritance
  pub its : mutex.owner ≡ Some t

protocol_heir : (protocol : Protocol) (o : Option ℕ) (t : ℕ) → heir_by protocol o ≡ Some t → (protocol ≡ Inheritance) × (o ≡ Some t)
protocol_heir Inheritance o t e = (refl, e)
protocol_heir (Ceiling priority) o t e = cc

heir_as : (mutexes : List Mutex) (m t : ℕ) (o : Option Mutex) → slice_get mutexes m ≡ o → heir_of o ≡ Some t → IsHeir mutexes m t
heir_as mutexes m t None e h = cc
heir_as mutexes m t (Some mutex) e h =
    let p = protocol_heir mutex.protocol mutex.owner t h in record { mutex = mutex; there = e; inherits = p.0; its = p.1 }

pub record IsBooster (mutexes : List Mutex) (tasks : List Task) (u t : ℕ) : Type 0 where
  pub m : ℕ
  pub waits : lock_at tasks u ≡ Some m
  pub heir : IsHeir mutexes m t

booster_as : (mutexes : List Mutex) (tasks : List Task) (u t : ℕ) (o : Option ℕ) → lock_at tasks u ≡ o → heir_for mutexes o ≡ Some t → IsBooster mutexes tasks u t
booster_as mutexes tasks u t None e h = cc
booster_as mutexes tasks u t (Some m) e h = record { m = m; waits = e; heir = heir_as mutexes m t (slice_get mutexes m) refl h }

pub booster : (mutexes : List Mutex) (tasks : List Task) (u t : ℕ) → boosts mutexes tasks u ≡ Some t → IsBooster mutexes tasks u t
booster mutexes tasks u t e = booster_as mutexes tasks u t (lock_at tasks u) refl e

pub boosts_by : (mutexes : List Mutex) (tasks : List Task) (u m t : ℕ) (mutex : Mutex) → lock_at tasks u ≡ Some m → slice_get mutexes m ≡ Some mutex → mutex.protocol ≡ Inheritance → mutex.owner ≡ Some t
    → boosts mutexes tasks u ≡ Some t
boosts_by mutexes tasks u m t mutex e there inherits its = ap (heir_for mutexes) e ∙ ap heir_of there ∙ ap (λ protocol. heir_by protocol mutex.owner) inherits ∙ its

-- a task waits for the one that it boosts
pub booster_waits : (mutexes : List Mutex) (tasks : List Task) (u t : ℕ) → boosts mutexes tasks u ≡ Some t → waits_on mutexes tasks u ≡ Some t
booster_waits mutexes tasks u t e =
    let b = booster mutexes tasks u t e in waits mutexes tasks u b.m b.waits ∙ ap owner_of b.heir.there ∙ b.heir.its

-- so its heights are those of waiting
pub boosts_fall : (mutexes : List Mutex) (tasks : List Task) → AreLocks mutexes tasks → HasHeight (boosts mutexes tasks) TASK_LIMIT
boosts_fall mutexes tasks l = fewer-keeps (waits_on mutexes tasks) (boosts mutexes tasks) TASK_LIMIT l.chains (λ u t e. booster_waits mutexes tasks u t e)

pub booster_below : (mutexes : List Mutex) (tasks : List Task) (u t : ℕ) → boosts mutexes tasks u ≡ Some t → u < length tasks
booster_below mutexes tasks u t e =
    let b = booster mutexes tasks u t e in let l = locked tasks u b.m b.waits in slice_get-below tasks u l.task l.there

pub boosted_below : (mutexes : List Mutex) (tasks : List Task) (u t : ℕ) → AreLocks mutexes tasks → boosts mutexes tasks u ≡ Some t → t < length tasks
boosted_below mutexes tasks u t l e =
    let b = booster mutexes tasks u t e in l.owners b.m t (ap owner_of b.heir.there ∙ b.heir.its)

-- ---- ceilings
-- a mutex of this ceiling that a task owns
pub record IsRaised (mutexes : List Mutex) (m t : ℕ) : Type 0 where
  pub mutex : Mutex
  pub priority : ℕ
  pub there : slice_get mutexes m ≡ Some mutex
  pub ceils : mutex.protocol ≡ Ceiling priority
  pub its : mutex.owner ≡ Some t

raised_mutex : (mutexes : List Mutex) (m t : ℕ) (mutex : Mutex) (protocol : Protocol) → slice_get mutexes m ≡ Some mutex → mutex.protocol ≡ protocol → ceiling_owner_by protocol mutex.owner ≡ Some t → IsRaised mutexes m t
raised_mutex mutexes m t mutex Inheritance e p h = cc
raised_mutex mutexes m t mutex (Ceiling priority) e p h = record { mutex = mutex; priority = priority; there = e; ceils = p; its = h }

raised_as : (mutexes : List Mutex) (m t : ℕ) (o : Option Mutex) → slice_get mutexes m ≡ o → ceiling_owner_of o ≡ Some t → IsRaised mutexes m t
raised_as mutexes m t None e h = cc
raised_as mutexes m t (Some mutex) e h = raised_mutex mutexes m t mutex mutex.protocol e refl h

pub is_raised : (mutexes : List Mutex) (m t : ℕ) → ceiling_owner mutexes m ≡ Some t → IsRaised mutexes m t
is_raised mutexes m t e = raised_as mutexes m t (slice_get mutexes m) refl e

pub ceiling_is : (mutexes : List Mutex) (m priority : ℕ) (mutex : Mutex) → slice_get mutexes m ≡ Some mutex → mutex.protocol ≡ Ceiling priority → ceiling mutexes m ≡ 100 + priority
ceiling_is mutexes m priority mutex e p = ap ceiling_of e ∙ ap ceiling_by p

pub raised_is : (mutexes : List Mutex) (m t priority : ℕ) (mutex : Mutex) → slice_get mutexes m ≡ Some mutex → mutex.protocol ≡ Ceiling priority → mutex.owner ≡ Some t → ceiling_owner mutexes m ≡ Some t
raised_is mutexes m t priority mutex e p its = ap ceiling_owner_of e ∙ ap (λ protocol. ceiling_owner_by protocol mutex.owner) p ∙ its
