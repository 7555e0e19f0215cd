-- What makes no notice, and when a call on a mutex does.
use Rattle.std.proofs.Common.{◌≡◌, ℕ, List, zero, suc, Bool, true, false, Option, Some, None, refl, ap, ◌∙◌, arith}
use Rattle.std.specs.Prelude.{slice_get, length, ◌==◌, ◌&&◌, not, if◌then◌else◌}
use Rattle.std.proofs.lemmas.Bool.Decides.{nat_tests}
use Rattle.evm_exec.specs.Registers.{register_of}
use Rattle.evm_exec.specs.declared.hart.Hart.{Hart}
use Rattle.evm_model.specs.Boosts.{is_number}
use Rattle.evm_model.specs.Calls.{answered, finish_call, return_weak, is_weak_oob, ask_oob, call_of, call_known, call_of_hart, call_on, call_stage, call}
use Rattle.evm_model.specs.Errnos.{refusal_answer}
use Rattle.evm_model.specs.Harts.{A7, answer}
use Rattle.evm_model.specs.Locks.{take_mutex, lock_again, lock_other, lock_owned, lock_known, cycle_refusal, try_owned, try_known, unlock_once, unlock_known}
use Rattle.evm_model.specs.Mutexes.{owner, owns_any}
use Rattle.evm_model.specs.Profiles.{offered}
use Rattle.evm_model.specs.Notices.{is_refused, notify, notify_refused}
use Rattle.evm_model.specs.Passing.{hand_over_to, hand_over, hand_over_below, end_task}
use Rattle.evm_model.specs.Stages.{refused, is_stalled, may_promote, wait_refusal, wait_unless}
use Rattle.evm_model.specs.State.{Parts, on_hart}
use Rattle.evm_model.specs.Tasks.{demote, promote, restamp, set_state, leave_in_band}
use Rattle.evm_model.specs.Waits.{first_waiter, wake, begin_wait}
use Rattle.evm_model.specs.declared.call.Call.{Call}
use Rattle.evm_model.specs.declared.call.Outcome.{Outcome}
use Rattle.evm_model.specs.declared.call.Outcome.TheVariants.{Returns, Blocks, Exits}
use Rattle.evm_model.specs.declared.errno.Errno.{Errno}
use Rattle.evm_model.specs.declared.errno.Errno.TheVariants.{NotPermitted}
use Rattle.evm_model.specs.declared.mutex.Mutex.{Mutex}
use Rattle.evm_model.specs.declared.notice.NoticeKind.{NoticeKind}
use Rattle.evm_model.specs.declared.processor.Processor.{Processor}
use Rattle.evm_model.specs.declared.stage.Stage.TheVariants.{OutOfBand}
use Rattle.evm_model.specs.declared.task.TaskState.{TaskState}
use Rattle.evm_model.specs.declared.task.Wait.{Wait}
use Rattle.evm_model.specs.declared.task.Wait.TheVariants.{Lock as For}

-- parts with the same notices
abbrev pub Quiet : Parts → Parts → Type 0
Quiet k x = x.notices ≡ k.notices

either : (b : Bool) (k x y : Parts) → Quiet k x → Quiet k y → Quiet k (if b then x else y)
either true k x y p q = p
either false k x y p q = q

-- ---- a task ends, or is demoted
passed_to : (o : Option ℕ) (m : ℕ) (k : Parts) → Quiet k (hand_over_to o m k)
unfolding wake restamp
passed_to None m k = refl
passed_to (Some t) m k = refl

passed_on : (m : ℕ) (k : Parts) → Quiet k (hand_over m k)
unfolding hand_over
passed_on m k = passed_to (first_waiter (For m) k) m k

passed_below : (t m : ℕ) (k : Parts) → Quiet k (hand_over_below t m k)
unfolding hand_over_below
passed_below t zero k = refl
passed_below t (suc m) k =
    let before : Parts = hand_over_below t m k in
    either (is_number (owner before.mutexes m) t) before (hand_over m before) before (passed_on m before) refl ∙ passed_below t m k

pub ended : (c t : ℕ) (state : TaskState) (k : Parts) → Quiet k (end_task c t state k)
unfolding end_task set_state leave_in_band
ended c t state k = passed_below t (length k.mutexes) k

pub demoted : (c t : ℕ) (k : Parts) → Quiet k (demote c t k)
unfolding demote restamp set_state
demoted c t k = refl

-- ---- a call is finished
finished : (o : Outcome) (c t : ℕ) (k : Parts) → Quiet k (answered o c t k)
unfolding return_weak
finished (Returns value) c t k =
    let after : Parts = on_hart t (answer value) k in
    either (is_weak_oob (slice_get after.tasks t) && not (owns_any t after.mutexes)) after (demote c t after) after (demoted c t after) refl
finished Blocks c t k = refl
finished Exits c t k = refl

asked : (c t : ℕ) (k : Parts) → Quiet k (ask_oob c t k)
unfolding ask_oob promote restamp set_state leave_in_band
asked c t k = either (may_promote c t k) k _ _ refl (finished (refused NotPermitted k).1 c t k)

-- an out-of-band call, where it makes no notice itself
out_of_band : (on : Bool) (c t : ℕ) (k : Parts) (done : Parts × Outcome) → (on ≡ true → Quiet k done.0) → Quiet k (if on then finish_call c t done else ask_oob c t k)
out_of_band true c t k done quiet = finished done.1 c t done.0 ∙ quiet refl
out_of_band false c t k done quiet = asked c t k

-- the call of a hart
pub call_is : (c t n : ℕ) (made : Call) (x : Hart) (k : Parts) → slice_get k.harts t ≡ Some x → register_of x.regs A7 ≡ n → offered k.profile (call_of n) ≡ Some made → call c t k ≡ call_on (call_stage made) made x c t k
unfolding call
call_is c t n made x k has number found =
    ap (λ (o : Option Hart). call_of_hart o c t k) has ∙ ap (λ (i : ℕ). call_known (offered k.profile (call_of i)) x c t k) number ∙ ap (λ (o : Option Call). call_known o x c t k) found

-- ---- a refusal that makes one
pub outcome_stays : (e : Errno) (kind : NoticeKind) (t : ℕ) (done : Parts × Outcome) → (notify_refused e kind t done).1 ≡ done.1
outcome_stays e kind t done = by (is_refused e done.1)
  where
    by : (b : Bool) → (if b then (notify kind t done.0, done.1) else done).1 ≡ done.1
    by true = refl
    by false = refl

other_outcome : (b : Bool) (kind : NoticeKind) (t : ℕ) (done : Parts × Outcome) → b ≡ false → (if b then (notify kind t done.0, done.1) else done).0 ≡ done.0
other_outcome true kind t done e = cc
other_outcome false kind t done e = refl

-- an out-of-band call that isn't refused so, or is made in-band
pub silent : (on refused : Bool) (e : Errno) (kind : NoticeKind) (c t : ℕ) (k : Parts) (done : Parts × Outcome) → is_refused e done.1 ≡ refused → (on && refused) ≡ false → Quiet k done.0
    → Quiet k (if on then finish_call c t (notify_refused e kind t done) else ask_oob c t k)
silent true true e kind c t k done is h quiet = cc
silent true false e kind c t k done is h quiet =
    out_of_band true c t k (notify_refused e kind t done) (λ on. ap (λ (x : Parts). x.notices) (other_outcome (is_refused e done.1) kind t done is) ∙ quiet)
silent false refused e kind c t k done is h quiet = out_of_band false c t k (notify_refused e kind t done) (λ on. cc)

same_number : (v n : ℕ) → (v == n) ≡ true → v ≡ n
same_number v n h = grind (arith, nat_tests)

pub refused_is : (e : Errno) (o : Outcome) → is_refused e o ≡ true → o ≡ Returns (refusal_answer e)
refused_is e (Returns value) h = ap Returns (same_number value (refusal_answer e) h)
refused_is e Blocks h = cc
refused_is e Exits h = cc

-- ---- what the calls on mutexes do before
-- .. to the notices, and what they answer whatever the processors
pub record Plain (k : Parts) (ps : List Processor) (done moved : Parts × Outcome) : Type 0 where
  pub quiet : Quiet k done.0
  pub same : moved.1 ≡ done.1

plain_if : (b : Bool) (k : Parts) (ps : List Processor) (x y u v : Parts × Outcome) → Plain k ps x u → Plain k ps y v → Plain k ps (if b then x else y) (if b then u else v)
plain_if true k ps x y u v p q = p
plain_if false k ps x y u v p q = q

module _ (t m : ℕ) (k : Parts) (ps : List Processor) where
  abbrev moved : Parts
  moved = record k { processors = ps }

  waits : (o : Option Errno) (wait : Wait) (deadline : ℕ) → Plain k ps (wait_unless o t wait deadline k) (wait_unless o t wait deadline moved)
  unfolding begin_wait restamp
  waits (Some e) wait deadline = record { quiet = refl; same = refl }
  waits None wait deadline = record { quiet = refl; same = refl }

  again : (mutex : Mutex) → Plain k ps (lock_again t m mutex k) (lock_again t m mutex moved)
  unfolding lock_again
  again mutex = plain_if mutex.recursive k ps _ _ _ _ (record { quiet = refl; same = refl }) (record { quiet = refl; same = refl })

  other : (c u deadline : ℕ) → Plain k ps (lock_other c t m u deadline k) (lock_other c t m u deadline moved)
  unfolding lock_other
  other c u deadline = waits (wait_refusal (is_stalled OutOfBand c k) (cycle_refusal t u k) k.ticks deadline) (For m) deadline

  owned : (o : Option ℕ) (c deadline : ℕ) (mutex : Mutex) → Plain k ps (lock_owned o c t m deadline mutex k) (lock_owned o c t m deadline mutex moved)
  unfolding take_mutex
  owned None c deadline mutex = record { quiet = refl; same = refl }
  owned (Some u) c deadline mutex = plain_if (u == t) k ps _ _ _ _ (again mutex) (other c u deadline)

  pub locks : (o : Option Mutex) (c deadline : ℕ) → Plain k ps (lock_known o c t m deadline k) (lock_known o c t m deadline moved)
  locks None c deadline = record { quiet = refl; same = refl }
  locks (Some mutex) c deadline = owned mutex.owner c deadline mutex

  tried : (o : Option ℕ) (mutex : Mutex) → Plain k ps (try_owned o t m mutex k) (try_owned o t m mutex moved)
  unfolding take_mutex
  tried None mutex = record { quiet = refl; same = refl }
  tried (Some u) mutex = plain_if (u == t) k ps _ _ _ _ (again mutex) (record { quiet = refl; same = refl })

  pub tries : (o : Option Mutex) → Plain k ps (try_known o t m k) (try_known o t m moved)
  tries None = record { quiet = refl; same = refl }
  tries (Some mutex) = tried mutex.owner mutex

  unlocked : (mutex : Mutex) → Quiet k (unlock_once t m mutex k)
  unfolding unlock_once
  unlocked mutex = either _ k (hand_over m k) _ (passed_on m k) refl

  pub unlocks : (o : Option Mutex) → Plain k ps (unlock_known o t m k) (unlock_known o t m moved)
  unlocks None = record { quiet = refl; same = refl }
  unlocks (Some mutex) = plain_if (is_number mutex.owner t) k ps _ _ _ _ (record { quiet = unlocked mutex; same = refl }) (record { quiet = refl; same = refl })
