-- One lemma a call on a mutex: the call is a walk.
use Rattle.std.proofs.Common.{◌≡◌, ℕ, ◌+◌, ◌-◌, ◌<◌, ◌≤◌, Bool, true, false, Option, Some, None, length, ◌⊎◌, inl, inr, refl, ap, sym, ◌∙◌, arith}
use Rattle.std.specs.Prelude.{slice_get, nat_lt, nat_le, ◌==◌, if◌then◌else◌}
use Rattle.std.proofs.lemmas.Bool.Decides.{nat_tests, eqb_tells}
use Rattle.evm_model.specs.Boosts.{is_number}
use Rattle.evm_model.proofs.Greatest.{boosts-is}
use Rattle.evm_exec.specs.declared.hart.Hart.{Hart}
use Rattle.evm_model.specs.Good.{event_of}
use Rattle.evm_model.specs.Locks.{with_ceiling, mutex_of, add_mutex, new_mutex_as, new_mutex, take_mutex, lock_again, cycle_refusal, lock_other, lock_owned, lock_known, lock, try_owned, try_known, try_lock, unlock_once, unlock_known, unlock}
use Rattle.evm_model.specs.Mutexes.{free_mutex, owner_of, held_by}
use Rattle.evm_model.specs.Passing.{hand_over}
use Rattle.evm_model.specs.Stages.{is_stalled, wait_refusal, wait_unless}
use Rattle.evm_model.specs.State.{Parts, on_mutex}
use Rattle.evm_model.specs.declared.call.Outcome.{Outcome}
use Rattle.evm_model.specs.declared.errno.Errno.{Errno}
use Rattle.evm_model.specs.declared.errno.Errno.TheVariants as Errnos
use Rattle.evm_model.specs.declared.errno.Errno.TheVariants.{NotPermitted}
use Rattle.evm_model.specs.declared.limits.TheConstants.{MUTEX_LIMIT, PRIORITY_LIMIT}
use Rattle.evm_model.specs.declared.mutex.Mutex.{Mutex}
use Rattle.evm_model.specs.declared.mutex.Protocol.{Protocol}
use Rattle.evm_model.specs.declared.mutex.Protocol.TheVariants.{Inheritance, Ceiling}
use Rattle.evm_model.specs.declared.notice.NoticeKind.TheVariants.{Deadlock, NotOwner}
use Rattle.evm_model.specs.declared.stage.Stage.TheVariants.{OutOfBand}
use Rattle.evm_model.specs.declared.task.TaskState.TheVariants.{Waits}
use Rattle.evm_model.specs.declared.task.Wait.{Wait}
use Rattle.evm_model.specs.declared.task.Wait.TheVariants.{Lock}
use Rattle.law_rules.proofs.NoticeWalks.{notifies_refused}
use Rattle.law_rules.proofs.PassingWalks.{passes, stayed_same}
use Rattle.law_rules.proofs.Tasks.{begins_wait}
use Rattle.law_rules.proofs.Unchanged.{lock_rests, try_rests, unlock_rests}
use Rattle.law_rules.proofs.Walk.{Actor, IsOldTask, Untouched, Makes, by_deadlock, by_unlock, holds, makes, Walk, quietly, counted, slack}

-- of two outcomes
pub either_at : (a : Actor) (old : Parts) (n s : ℕ) (b : Bool) (x y : Parts × Outcome) → (b ≡ true → Walk a old n s x.0) → (b ≡ false → Walk a old n s y.0) → Walk a old n s (if b then x else y).0
either_at a old n s true x y p q = p refl
either_at a old n s false x y p q = q refl

-- .. with as much as a call may
pub either : (a : Actor) (old : Parts) (b : Bool) (x y : Parts × Outcome) → (b ≡ true → Walk a old 1 64 x.0) → (b ≡ false → Walk a old 1 64 y.0) → Walk a old 1 64 (if b then x else y).0
either a old b x y p q = either_at a old 1 64 b x y p q

-- ---- a mutex, if there is one, that nobody owns
pub record IsFree (o : Option Mutex) : Type 0 where
  pub free : (mutex : Mutex) → o ≡ Some mutex → (recursive : Bool) × ((protocol : Protocol) × (mutex ≡ free_mutex recursive protocol))

free_if : (b : Bool) (x y : Option Mutex) → IsFree x → IsFree y → IsFree (if b then x else y)
free_if true x y p q = p
free_if false x y p q = q

free_none : IsFree None
free_none = record { free = λ mutex e. cc }

free_some : (recursive : Bool) (protocol : Protocol) → IsFree (Some (free_mutex recursive protocol))
free_some recursive protocol = record { free = λ mutex e. (recursive, (protocol, cc)) }

ceiling_free : (recursive : Bool) (priority : ℕ) → IsFree (with_ceiling recursive priority)
ceiling_free recursive priority = free_if (nat_lt priority 1) _ _ free_none (free_if (nat_lt PRIORITY_LIMIT priority) _ _ free_none (free_some recursive (Ceiling priority)))

pub made_free : (kind priority : ℕ) → IsFree (mutex_of kind priority)
made_free kind priority =
    free_if (kind == 0) _ _ (free_some false Inheritance)
    (free_if (kind == 1) _ _ (free_some true Inheritance)
    (free_if (kind == 2) _ _ (ceiling_free false priority) (free_if (kind == 3) _ _ (ceiling_free true priority) free_none)))

own_number : (u t : ℕ) → (u == t) ≡ true → Some u ≡ Some t
own_number u t e = elim (eqb_tells u t) [
  | inl g ↦ ap Some g.1
  | inr g ↦ let no : true ≡ false = sym e ∙ g.0 in cc
]

module _ (a : Actor) (old k : Parts) (t : ℕ) (own : a.task ≡ Some t) (fresh : Untouched old k) (w : Walk a old 0 0 k) where
  -- as much at most as a call may
  pub up : (n s : ℕ) (x : Parts) → n ≤ 1 → s ≤ 64 → Walk a old n s x → Walk a old 1 64 x
  up n s x h g v = slack a old n 1 s 64 x (λ p. h) (λ p. g) v

  pub same : Walk a old 1 64 k
  same = up 0 0 k (omega arith) (omega arith) w

  pub was_there : IsOldTask old k t
  was_there = inl (ap length fresh.tasks)

  -- ---- a new mutex
  makes_as : (o : Option Mutex) → IsFree o → Walk a old 1 64 (new_mutex_as o k).0
  unfolding add_mutex
  makes_as None free = same
  makes_as (Some mutex) free =
      let f = free.free mutex refl in
      either a old (nat_le MUTEX_LIMIT (length k.mutexes)) _ _ (λ full. same)
      (λ e. let room : length k.mutexes < MUTEX_LIMIT = grind (arith, nat_tests) in
      up 0 0 _ (omega arith) (omega arith) (rw f.1.1 (quietly a old 0 0 k _ (makes t f.0 f.1.0 k own fresh room) w)))

  pub makes_mutex : (kind priority : ℕ) → Walk a old 1 64 (new_mutex kind priority k).0
  unfolding new_mutex
  makes_mutex kind priority = makes_as (mutex_of kind priority) (made_free kind priority)

  -- ---- a lock
  -- a mutex that was free or its own is its own now
  takes : (i m count : ℕ) (mutex : Mutex) → i ≤ 1 → slice_get k.mutexes m ≡ Some mutex → (mutex.owner ≡ None) ⊎ (mutex.owner ≡ Some t) → count ≤ mutex.count + i → Walk a old 1 64 (on_mutex m (held_by t count) k)
  takes i m count mutex few e whose more =
      up (0 + i) 0 _ (omega (arith, few)) (omega arith)
      (counted a old 0 0 k _ i (holds i t m (held_by t count) k own (ap (λ xs. slice_get xs m) fresh.mutexes) (λ x there. let one : mutex ≡ x = (let two : Some mutex ≡ Some x = sym e ∙ there in cc) in
      record { kind = refl; whose = rw (← one) whose; count = rw (← one) more })) w)

  locks_again : (m : ℕ) (mutex : Mutex) → slice_get k.mutexes m ≡ Some mutex → mutex.owner ≡ Some t → Walk a old 1 64 (lock_again t m mutex k).0
  unfolding lock_again
  locks_again m mutex e its = either a old mutex.recursive _ _ (λ r. takes 1 m (mutex.count + 1) mutex (omega arith) e (inr its) (omega arith)) (λ r. same)

  pub waits_unless : (o : Option Errno) (wait : Wait) (deadline : ℕ) → event_of (Waits wait) ≡ None → Walk a old 1 64 (wait_unless o t wait deadline k).0
  waits_unless (Some e) wait deadline none = same
  waits_unless None wait deadline none = up 0 1 _ (omega arith) (omega arith) (begins_wait a old 0 0 t k own was_there w wait deadline none)

  locks_other : (m u deadline : ℕ) → Walk a old 1 64 (lock_other a.cpu t m u deadline k).0
  unfolding lock_other
  locks_other m u deadline = waits_unless (wait_refusal (is_stalled OutOfBand a.cpu k) (cycle_refusal t u k) k.ticks deadline) (Lock m) deadline refl

  free_takes : (m : ℕ) (mutex : Mutex) → slice_get k.mutexes m ≡ Some mutex → mutex.owner ≡ None → Walk a old 1 64 (take_mutex t m k)
  unfolding take_mutex
  free_takes m mutex e none = takes 1 m 1 mutex (omega arith) e (inl none) (omega arith)

  locks_owned : (o : Option ℕ) (m deadline : ℕ) (mutex : Mutex) → slice_get k.mutexes m ≡ Some mutex → mutex.owner ≡ o → Walk a old 1 64 (lock_owned o a.cpu t m deadline mutex k).0
  locks_owned None m deadline mutex e its = free_takes m mutex e its
  locks_owned (Some u) m deadline mutex e its = either a old (u == t) _ _ (λ one. locks_again m mutex e (its ∙ own_number u t one)) (λ other. locks_other m u deadline)

  locks_known : (o : Option Mutex) (m deadline : ℕ) → slice_get k.mutexes m ≡ o → Walk a old 1 64 (lock_known o a.cpu t m deadline k).0
  locks_known None m deadline e = same
  locks_known (Some mutex) m deadline e = locks_owned mutex.owner m deadline mutex e refl

  pub locks : (x : Hart) → Makes a old 36 x → (m deadline : ℕ) → Walk a old 1 64 (lock a.cpu t m deadline k).0
  unfolding lock
  locks x call m deadline =
      notifies_refused a old 1 64 t Errnos.Deadlock Deadlock k (lock_known (slice_get k.mutexes m) a.cpu t m deadline k) own (by_deadlock x (inl call)) fresh (lock_rests t m k (slice_get k.mutexes m) a.cpu deadline) (locks_known (slice_get k.mutexes m) m deadline refl)

  tries_owned : (o : Option ℕ) (m : ℕ) (mutex : Mutex) → slice_get k.mutexes m ≡ Some mutex → mutex.owner ≡ o → Walk a old 1 64 (try_owned o t m mutex k).0
  tries_owned None m mutex e its = free_takes m mutex e its
  tries_owned (Some u) m mutex e its = either a old (u == t) _ _ (λ one. locks_again m mutex e (its ∙ own_number u t one)) (λ other. same)

  tries_known : (o : Option Mutex) (m : ℕ) → slice_get k.mutexes m ≡ o → Walk a old 1 64 (try_known o t m k).0
  tries_known None m e = same
  tries_known (Some mutex) m e = tries_owned mutex.owner m mutex e refl

  pub tries : (x : Hart) → Makes a old 37 x → (m : ℕ) → Walk a old 1 64 (try_lock t m k).0
  unfolding try_lock
  tries x call m = notifies_refused a old 1 64 t Errnos.Deadlock Deadlock k (try_known (slice_get k.mutexes m) t m k) own (by_deadlock x (inr call)) fresh (try_rests t m k (slice_get k.mutexes m)) (tries_known (slice_get k.mutexes m) m refl)

  -- ---- an unlock
  unlocks_if : (b : Bool) (m : ℕ) (mutex : Mutex) → slice_get k.mutexes m ≡ Some mutex → mutex.owner ≡ Some t → Walk a old 1 64 (if b then hand_over m k else on_mutex m (held_by t (mutex.count - 1)) k)
  unlocks_if true m mutex e its = up 0 1 _ (omega arith) (omega arith) (passes a old 0 t own 0 m k (ap (λ xs. slice_get xs m) fresh.mutexes) (ap owner_of e ∙ its) (stayed_same old k fresh.tasks) w)
  unlocks_if false m mutex e its = takes 0 m (mutex.count - 1) mutex (omega arith) e (inr its) (omega arith)

  unlocks_once : (m : ℕ) (mutex : Mutex) → slice_get k.mutexes m ≡ Some mutex → mutex.owner ≡ Some t → Walk a old 1 64 (unlock_once t m mutex k)
  unfolding unlock_once
  unlocks_once m mutex e its = unlocks_if (nat_le mutex.count 1) m mutex e its

  unlocks_known : (o : Option Mutex) (m : ℕ) → slice_get k.mutexes m ≡ o → Walk a old 1 64 (unlock_known o t m k).0
  unlocks_known None m e = same
  unlocks_known (Some mutex) m e = either a old (is_number mutex.owner t) _ _ (λ its. unlocks_once m mutex e (boosts-is mutex.owner t its)) (λ other. same)

  pub unlocks : (x : Hart) → Makes a old 38 x → (m : ℕ) → Walk a old 1 64 (unlock t m k).0
  unfolding unlock
  unlocks x call m = notifies_refused a old 1 64 t NotPermitted NotOwner k (unlock_known (slice_get k.mutexes m) t m k) own (by_unlock x call) fresh (unlock_rests t m k (slice_get k.mutexes m)) (unlocks_known (slice_get k.mutexes m) m refl)
