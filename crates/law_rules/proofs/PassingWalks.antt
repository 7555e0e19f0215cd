-- How a mutex passes on, and how a task ends, is a walk too.
use Rattle.std.proofs.Common.{◌≡◌, ℕ, zero, suc, ◌+◌, ◌≤◌, List, Bool, true, false, Option, Some, None, length, inl, inr, refl, ap, sym, ◌∙◌, arith}
use Rattle.std.specs.Prelude.{slice_get, option_map, not, ◌&&◌, if◌then◌else◌}
use Rattle.evm_model.specs.Boosts.{is_number}
use Rattle.evm_model.proofs.Greatest.{boosts-is}
use Rattle.evm_model.specs.Good.{event_of, is_waiting}
use Rattle.evm_model.specs.Lists.{change}
use Rattle.evm_model.specs.Mutexes.{owner, owner_of, owns_any, held_by, freed}
use Rattle.evm_model.specs.Passing.{hand_over_to, hand_over, hand_over_below, end_task}
use Rattle.evm_model.specs.Pipes.{set_stall}
use Rattle.evm_model.specs.State.{Parts, on_pipe, on_mutex}
use Rattle.evm_model.specs.Tasks.{restamp, set_state, leave_in_band, is_weak}
use Rattle.evm_model.specs.Waits.{first_waiter, kept, ready_on, stage_of_wait, woken_state, woken, wake}
use Rattle.evm_model.specs.declared.mutex.Mutex.{Mutex}
use Rattle.evm_model.specs.declared.stage.Stage.{Stage}
use Rattle.evm_model.specs.declared.stage.Stage.TheVariants.{OutOfBand, InBand}
use Rattle.evm_model.specs.declared.task.Task.{Task}
use Rattle.evm_model.specs.declared.task.TaskState.{TaskState}
use Rattle.evm_model.specs.declared.task.TaskState.TheVariants.{Waits}
use Rattle.evm_model.specs.declared.task.Wait.TheVariants.{Lock, Reacquire}
use Rattle.evm_model.proofs.Lists.{length-change, change-cases, change-here, change-elsewhere}
use Rattle.law_rules.proofs.Tasks.{stalls_stage, leaves}
use Rattle.law_rules.proofs.Twice.{change-twice}
use Rattle.law_rules.proofs.Waiters.{AtLock, locks, reacquires, IsWaiter, first_is, lock_is}
use Rattle.law_rules.proofs.Walk.{Actor, IsPassed, passed, passed_back, task, wakes, gives, holds, Walk, quietly, stamped, slack, walk_if}

-- ---- another mutex, and how many tasks there are
elsewhere_to : (o : Option ℕ) (m i : ℕ) (k : Parts) → (i ≡ m → ⊥) → slice_get (hand_over_to o m k).mutexes i ≡ slice_get k.mutexes i
unfolding wake restamp
elsewhere_to None m i k other = change-elsewhere freed k.mutexes m i other
elsewhere_to (Some u) m i k other = change-elsewhere (held_by u 1) k.mutexes m i other

elsewhere_if : (b : Bool) (m i : ℕ) (k : Parts) → (i ≡ m → ⊥) → slice_get (if b then hand_over m k else k).mutexes i ≡ slice_get k.mutexes i
unfolding hand_over
elsewhere_if true m i k other = elsewhere_to (first_waiter (Lock m) k) m i k other
elsewhere_if false m i k other = refl

-- the mutexes from a number on
pub untouched : (t n i : ℕ) (k : Parts) → n ≤ i → slice_get (hand_over_below t n k).mutexes i ≡ slice_get k.mutexes i
unfolding hand_over_below
untouched t zero i k h = refl
untouched t (suc m) i k h =
    let before : Parts = hand_over_below t m k in
    elsewhere_if (is_number (owner before.mutexes m) t) m i before (λ same. omega arith) ∙ untouched t m i k (omega arith)

tasks_to : (o : Option ℕ) (m : ℕ) (k : Parts) → length (hand_over_to o m k).tasks ≡ length k.tasks
unfolding wake restamp
tasks_to None m k = refl
tasks_to (Some u) m k = length-change _ _ u ∙ length-change _ k.tasks u

tasks_if : (b : Bool) (m : ℕ) (k : Parts) → length (if b then hand_over m k else k).tasks ≡ length k.tasks
unfolding hand_over
tasks_if true m k = tasks_to (first_waiter (Lock m) k) m k
tasks_if false m k = refl

pub tasks_on : (m : ℕ) (k : Parts) → length (hand_over m k).tasks ≡ length k.tasks
tasks_on m k = tasks_if true m k

tasks_below : (t n : ℕ) (k : Parts) → length (hand_over_below t n k).tasks ≡ length k.tasks
unfolding hand_over_below
tasks_below t zero k = refl
tasks_below t (suc m) k = let before : Parts = hand_over_below t m k in tasks_if (is_number (owner before.mutexes m) t) m before ∙ tasks_below t m k

left_tasks : (c : ℕ) (k : Parts) → length (leave_in_band c k).tasks ≡ length k.tasks
unfolding leave_in_band
left_tasks c k = refl

-- ---- the acting task's mutexes
mutex_there : (m t : ℕ) (mutexes : List Mutex) (o : Option Mutex) → slice_get mutexes m ≡ o → owner_of o ≡ Some t → (x : Mutex) × (slice_get mutexes m ≡ Some x)
mutex_there m t mutexes None e h = cc
mutex_there m t mutexes (Some x) e h = (x, e)

-- ---- the tasks that wait
-- one that waits has stayed as it was
pub record Stayed (old k : Parts) : Type 0 where
  pub stays : (u : ℕ) (x : Task) → slice_get k.tasks u ≡ Some x → is_waiting x.state ≡ true → slice_get old.tasks u ≡ Some x

pub stayed_same : (old k : Parts) → k.tasks ≡ old.tasks → Stayed old k
stayed_same old k same = record { stays = λ u x e w. ap (λ xs. slice_get xs u) (sym same) ∙ e }

ready_not : (stage : Stage) (returns : Bool) → is_waiting (ready_on stage returns) ≡ false
ready_not InBand returns = refl
ready_not OutOfBand true = refl
ready_not OutOfBand false = refl

woken_not : (returns : Bool) (state : TaskState) → is_waiting (woken_state returns state) ≡ false
woken_not returns (Waits wait) = ready_not (stage_of_wait wait) returns
woken_not returns _ = refl

stayed_woken : (old k : Parts) (u stamp : ℕ) (owns : Bool) (xs : List Task) → xs ≡ change (λ (x : Task). record x { stamp = stamp }) (change (woken owns) k.tasks u) u → Stayed old k
    → (v : ℕ) (x : Task) → slice_get xs v ≡ Some x → is_waiting x.state ≡ true → slice_get old.tasks v ≡ Some x
stayed_woken old k u stamp owns xs same s v x e w =
    let f : Task → Task = λ y. record (woken owns y) { stamp = stamp } in
    let twice : xs ≡ change f k.tasks u = same ∙ change-twice (λ (y : Task). record y { stamp = stamp }) (woken owns) k.tasks u in
    elim (change-cases f k.tasks u v x (ap (λ ys. slice_get ys v) (sym twice) ∙ e)) [
      | inl g ↦
          let ready : is_waiting x.state ≡ false = ap (λ (y : Task). is_waiting y.state) g.3 ∙ woken_not (is_weak g.1.class && not owns) g.1.state in
          let no : true ≡ false = sym w ∙ ready in cc
      | inr g ↦ s.stays v x g.1 w
    ]

stayed_to : (old : Parts) (o : Option ℕ) (m : ℕ) (k : Parts) → Stayed old k → Stayed old (hand_over_to o m k)
unfolding wake restamp
stayed_to old None m k s = record { stays = s.stays }
stayed_to old (Some u) m k s = record { stays = stayed_woken old k u k.stamps (owns_any u (change (held_by u 1) k.mutexes m)) _ refl s }

stayed_if : (b : Bool) (old : Parts) (m : ℕ) (k : Parts) → Stayed old k → Stayed old (if b then hand_over m k else k)
unfolding hand_over
stayed_if true old m k s = stayed_to old (first_waiter (Lock m) k) m k s
stayed_if false old m k s = s

stayed_below : (old : Parts) (t m : ℕ) (k : Parts) → Stayed old k → Stayed old (hand_over_below t m k)
unfolding hand_over_below
stayed_below old t zero k s = s
stayed_below old t (suc m) k s = let before : Parts = hand_over_below t m k in stayed_if (is_number (owner before.mutexes m) t) old m before (stayed_below old t m k s)

at_lock_waits : (m : ℕ) (state : TaskState) → AtLock m state → is_waiting state ≡ true
at_lock_waits m _ locks = refl
at_lock_waits m _ (reacquires answer) = refl

module _ (a : Actor) (old : Parts) (n t : ℕ) (own : a.task ≡ Some t) where
  wakes_passed : (s u m : ℕ) (x : Task) (state : TaskState) (k : Parts) → slice_get k.tasks u ≡ Some x → x.state ≡ state → AtLock m state → IsPassed a old u m k → Walk a old n s k → Walk a old n (s + 1) (wake u (kept state) k)
  wakes_passed s u m x _ k there on locks its w = stamped a old n s k _ (wakes u 0 x (Lock m) k there on (passed m its)) w
  wakes_passed s u m x _ k there on (reacquires answer) its w = stamped a old n s k _ (wakes u answer x (Reacquire m answer) k there on (passed_back m answer its)) w

  hands_over_to : (s m : ℕ) (o : Option ℕ) (k : Parts) → first_waiter (Lock m) k ≡ o → slice_get k.mutexes m ≡ slice_get old.mutexes m → owner k.mutexes m ≡ Some t → Stayed old k
      → Walk a old n s k → Walk a old n (s + 1) (hand_over_to o m k)
  hands_over_to s m None k first same its stayed w =
      slack a old n n s (s + 1) _ (λ g. omega arith) (λ g. omega arith)
      (quietly a old n s k _ (holds 0 t m freed k own same (λ x e. record { kind = refl; whose = inr (ap owner_of (sym e) ∙ its); count = omega arith })) w)
  hands_over_to s m (Some u) k first same its stayed w =
      let given : Parts = on_mutex m (held_by u 1) k in
      let mutex = mutex_there m t k.mutexes (slice_get k.mutexes m) refl its in
      let waiter : IsWaiter (Lock m) u k = first_is (Lock m) u k first in
      let at : AtLock m waiter.task.state = lock_is m waiter.task.state waiter.on in
      let is : IsPassed a old u m given = record {
        giver = t;
        mutex = mutex.0;
        acts = own;
        had = ap owner_of (sym same) ∙ its;
        its = change-here (held_by u 1) k.mutexes m ∙ ap (option_map (held_by u 1)) mutex.1;
        rests = waiter.there ∙ sym (stayed.stays u waiter.task waiter.there (at_lock_waits m waiter.task.state at));
      } in
      rw waiter.there
      (wakes_passed s u m waiter.task waiter.task.state given waiter.there refl at is (quietly a old n s k given (gives t u m k own same its) w))

  pub passes : (s m : ℕ) (k : Parts) → slice_get k.mutexes m ≡ slice_get old.mutexes m → owner k.mutexes m ≡ Some t → Stayed old k → Walk a old n s k → Walk a old n (s + 1) (hand_over m k)
  unfolding hand_over
  passes s m k same its stayed w = hands_over_to s m (first_waiter (Lock m) k) k refl same its stayed w

  hands_over_below : (s m : ℕ) (k : Parts) → k.mutexes ≡ old.mutexes → Stayed old k → Walk a old n s k → Walk a old n (s + m) (hand_over_below t m k)
  unfolding hand_over_below
  hands_over_below s zero k same stayed w = slack a old n n s (s + 0) k (λ g. omega arith) (λ g. omega arith) w
  hands_over_below s (suc m) k same stayed w =
      let before : Parts = hand_over_below t m k in
      let so_far : Walk a old n (s + m) before = hands_over_below s m k same stayed w in
      let more : s + suc m ≡ s + m + 1 = omega arith in
      rw more (walk_if a old n (s + m + 1) (is_number (owner before.mutexes m) t) (hand_over m before) before
      (λ its. passes (s + m) m before (untouched t m m k (omega arith) ∙ ap (λ xs. slice_get xs m) same) (boosts-is (owner before.mutexes m) t its) (stayed_below old t m k stayed) so_far)
      (λ other. slack a old n n (s + m) (s + m + 1) before (λ g. omega arith) (λ g. omega arith) so_far))

  pub ends : (s : ℕ) (state : TaskState) (k : Parts) → event_of state ≡ None → k.mutexes ≡ old.mutexes → k.tasks ≡ old.tasks → Walk a old n s k → Walk a old n (s + length k.mutexes) (end_task a.cpu t state k)
  unfolding end_task set_state
  ends s state k none same few w =
      let u : ℕ = s + length k.mutexes in
      let passed : Parts = hand_over_below t (length k.mutexes) k in
      let freed : Parts = on_pipe a.cpu (set_stall InBand false) passed in
      let left : Parts = leave_in_band a.cpu freed in
      let gone : Walk a old n u left = leaves a old n u freed (stalls_stage a old n u passed (hands_over_below s (length k.mutexes) k same (stayed_same old k few) w) InBand false) in
      quietly a old n u left _ (task t (λ x. record x { state = state }) left own (λ x. (refl, refl)) (λ x. inl none) (inl (left_tasks a.cpu freed ∙ tasks_below t (length k.mutexes) k ∙ ap length few))) gone
