-- The first of those that wait for something is one of them.
use Rattle.std.proofs.Common.{◌≡◌, ℕ, zero, suc, ◌<◌, Bool, true, false, Option, Some, None, length, refl, ap, sym, ◌∙◌, ◌⊎◌, inl, inr, arith}
use Rattle.std.specs.Prelude.{slice_get, ◌==◌, if◌then◌else◌}
use Rattle.std.proofs.lemmas.Bool.Decides.{eqb_tells}
use Rattle.evm_model.specs.Ranks.{first, leader, goes_before, rank, stamp}
use Rattle.evm_model.specs.State.{Parts}
use Rattle.evm_model.specs.Waits.{awaits, awaits_task, first_waiter, is_wait_for, same_wait}
use Rattle.evm_model.specs.declared.task.Task.{Task}
use Rattle.evm_model.specs.declared.task.TaskState.{TaskState}
use Rattle.evm_model.specs.declared.task.TaskState.TheVariants.{Waits}
use Rattle.evm_model.specs.declared.task.Wait.{Wait}
use Rattle.evm_model.specs.declared.task.Wait.TheVariants.{Line, Lock, Reacquire, Semaphore, Event, Flags, Sleep, Timer}

leader-is : (r s : ℕ → ℕ) (o : Option ℕ) (t : ℕ) → (leader r s o t ≡ t) ⊎ (o ≡ Some (leader r s o t))
leader-is r s None t = inl refl
leader-is r s (Some b) t = elim (goes_before r s t b) as (λ v. ((if v then t else b) ≡ t) ⊎ (Some b ≡ Some (if v then t else b))) [ true ↦ inl refl | false ↦ inr refl ]

member-step : (m : ℕ → Bool) (r s : ℕ → ℕ) (n : ℕ) (o : Option ℕ) (b : Bool) (t : ℕ) → m n ≡ b → ((u : ℕ) → o ≡ Some u → (u < n) × (m u ≡ true))
    → (if b then Some (leader r s o n) else o) ≡ Some t → (t < suc n) × (m t ≡ true)
member-step m r s n o true t at h e =
    let is : leader r s o n ≡ t = cc in
    elim (leader-is r s o n) [
      | inl g ↦ let same : n ≡ t = sym g ∙ is in (omega arith, ap m (sym same) ∙ at)
      | inr g ↦ let found = h (leader r s o n) g in (rw (← is) (omega arith), rw (← is) found.1)
    ]
member-step m r s n o false t at h e = let found = h t e in (omega arith, found.1)

pub first-member : (m : ℕ → Bool) (r s : ℕ → ℕ) (n t : ℕ) → first m r s n ≡ Some t → (t < n) × (m t ≡ true)
unfolding first
first-member m r s zero t e = cc
first-member m r s (suc n) t e = member-step m r s n (first m r s n) (m n) t refl (λ u d. first-member m r s n u d) e

pub first-waits : (wait : Wait) (t : ℕ) (k : Parts) → first_waiter wait k ≡ Some t → awaits wait k.tasks t ≡ true
unfolding first_waiter
first-waits wait t k e = (first-member (awaits wait k.tasks) (rank k.mutexes k.tasks) (stamp k.tasks) (length k.tasks) t e).1

-- ---- what it waits for
number_is : (m n : ℕ) → (n == m) ≡ true → n ≡ m
number_is m n e = elim (eqb_tells n m) [
  | inl g ↦ g.1
  | inr g ↦ let no : true ≡ false = sym e ∙ g.0 in cc
]

-- other than a lock
abbrev pub is_lock : Wait → Bool
is_lock (Lock m) = true
is_lock _ = false

same_is : (wait other : Wait) → is_lock wait ≡ false → same_wait other wait ≡ true → other ≡ wait
same_is (Line l) (Line m) n e = ap Line (number_is l m e)
same_is (Semaphore s) (Semaphore r) n e = ap Semaphore (number_is s r e)
same_is (Event x) (Event y) n e = ap Event (number_is x y e)
same_is (Flags x) (Flags y) n e = ap Flags (number_is x y e)
same_is Sleep Sleep n e = refl
same_is (Timer x) (Timer y) n e = ap Timer (number_is x y e)
same_is (Reacquire x y) (Reacquire m answer) n e = cc
same_is _ _ n e = cc

pub wait_is : (wait : Wait) (state : TaskState) → is_lock wait ≡ false → is_wait_for wait state ≡ true → state ≡ Waits wait
wait_is wait (Waits other) n e = ap Waits (same_is wait other n e)
wait_is wait _ n e = cc

-- a task that waits for a lock
pub data AtLock (m : ℕ) : TaskState → Type 0 where
  locks : AtLock m (Waits (Lock m))
  reacquires : (answer : ℕ) → AtLock m (Waits (Reacquire m answer))

at_lock : (m : ℕ) (other : Wait) → same_wait other (Lock m) ≡ true → AtLock m (Waits other)
at_lock m (Lock n) e = rw (number_is m n e) locks
at_lock m (Reacquire n answer) e = rw (number_is m n e) (reacquires answer)
at_lock m _ e = cc

pub lock_is : (m : ℕ) (state : TaskState) → is_wait_for (Lock m) state ≡ true → AtLock m state
lock_is m (Waits other) e = at_lock m other e
lock_is m _ e = cc

-- the task that is first
pub record IsWaiter (wait : Wait) (t : ℕ) (k : Parts) : Type 0 where
  pub task : Task
  pub there : slice_get k.tasks t ≡ Some task
  pub on : is_wait_for wait task.state ≡ true

waiter_of : (wait : Wait) (t : ℕ) (k : Parts) (o : Option Task) → slice_get k.tasks t ≡ o → awaits_task wait o ≡ true → IsWaiter wait t k
waiter_of wait t k None e h = cc
waiter_of wait t k (Some x) e h = record { task = x; there = e; on = h }

pub first_is : (wait : Wait) (t : ℕ) (k : Parts) → first_waiter wait k ≡ Some t → IsWaiter wait t k
first_is wait t k e = waiter_of wait t k (slice_get k.tasks t) refl (first-waits wait t k e)
