-- What a call leaves alone of its own task, as it leaves others.
use Rattle.std.proofs.Common.{◌≡◌, ℕ, zero, suc, Bool, true, false, Option, Some, None, refl, ap, sym, ◌∙◌}
use Rattle.std.specs.Prelude.{slice_get, option_map, if◌then◌else◌}
use Rattle.evm_exec.specs.declared.hart.Hart.{Hart}
use Rattle.evm_model.specs.Boosts.{is_number}
use Rattle.evm_model.specs.Good.{is_ready}
use Rattle.evm_model.specs.Harts.{A0, set_register}
use Rattle.evm_model.specs.Lists.{change}
use Rattle.evm_model.specs.Mutexes.{owner, held_by}
use Rattle.evm_model.specs.Passing.{hand_over_to, hand_over, hand_over_below}
use Rattle.evm_model.specs.Stages.{wait_unless}
use Rattle.evm_model.specs.State.{Parts, on_mutex}
use Rattle.evm_model.specs.Tasks.{restamp}
use Rattle.evm_model.specs.Waits.{first_waiter, begin_wait, wake, kept_of}
use Rattle.evm_model.specs.declared.call.Outcome.{Outcome}
use Rattle.evm_model.specs.declared.errno.Errno.{Errno}
use Rattle.evm_model.specs.declared.task.Task.{Task}
use Rattle.evm_model.specs.declared.task.TaskState.TheVariants.{Waits}
use Rattle.evm_model.specs.declared.task.Wait.{Wait}
use Rattle.evm_model.specs.declared.task.Wait.TheVariants.{Lock as Locked}
use Rattle.evm_model.proofs.Lists.{change-here, change-elsewhere}
use Rattle.law_runs.specs.Own.{Fields, waiting, Leaves}
use Rattle.law_runs.proofs.Fares.{WaitsFor, first_waits, waits_not_ready}

-- what a call does of its own task: the stamp and the state stay too where it may not change them, and no register changes
pub record Own (may : Fields) (t : ℕ) (task : Task) (k x : Parts) : Type 0 where
  pub after : Task
  pub there : slice_get x.tasks t ≡ Some after
  pub leaves : Leaves may task after
  pub stamp : may.stamp ≡ false → after.stamp ≡ task.stamp
  pub state : may.state ≡ false → after.state ≡ task.state
  pub hart : (y : Hart) → slice_get k.harts t ≡ Some y → slice_get x.harts t ≡ Some y

-- it is left alone
pub record Apart (t : ℕ) (k x : Parts) : Type 0 where
  pub task : slice_get x.tasks t ≡ slice_get k.tasks t
  pub hart : slice_get x.harts t ≡ slice_get k.harts t

pub leaves_all : (may : Fields) (x : Task) → is_ready x.state ≡ true → Leaves may x x
leaves_all may x ready = record { cpu = λ no. refl; class = λ no. refl; priority = λ no. refl; slice = λ no. refl; mode = λ no. refl; deadline = λ no. refl; stamp = λ no same. refl; state = λ no. ready }

module _ (t : ℕ) (task : Task) (k : Parts) (there : slice_get k.tasks t ≡ Some task) (ready : is_ready task.state ≡ true) where
  -- it changes so
  pub turned : (may : Fields) (f : Task → Task) (x : Parts) → slice_get x.tasks t ≡ Some (f task) → Leaves may task (f task) → (may.stamp ≡ false → (f task).stamp ≡ task.stamp) → (may.state ≡ false → (f task).state ≡ task.state)
      → x.harts ≡ k.harts → Own may t task k x
  turned may f x e leaves stamp state harts = record { after = f task; there = e; leaves = leaves; stamp = stamp; state = state; hart = λ y h. ap (λ all. slice_get all t) harts ∙ h }

  pub alone : (may : Fields) (x : Parts) → Apart t k x → Own may t task k x
  alone may x a = record {
    after = task;
    there = a.task ∙ there;
    leaves = leaves_all may task ready;
    stamp = λ no. refl;
    state = λ no. refl;
    hart = λ y h. a.hart ∙ h;
  }

  pub same : (may : Fields) → Own may t task k k
  same may = alone may k (record { task = refl; hart = refl })

  pub either : (may : Fields) (b : Bool) (x y : Parts × Outcome) → Own may t task k x.0 → Own may t task k y.0 → Own may t task k (if b then x else y).0
  either may true x y p q = p
  either may false x y p q = q

  -- the first that waits for something is another
  pub another : (u : ℕ) (wait : Wait) (x : Parts) → slice_get x.tasks t ≡ slice_get k.tasks t → first_waiter wait x ≡ Some u → t ≡ u → ⊥
  another u wait x same first one =
      let w : WaitsFor u wait x = first_waits u wait x first in
      let two : Some w.task ≡ Some task = sym w.there ∙ ap (slice_get x.tasks) (sym one) ∙ same ∙ there in
      let its : w.task ≡ task = cc in
      let no : false ≡ true = sym (waits_not_ready wait w.task.state w.on) ∙ ap (λ (y : Task). is_ready y.state) its ∙ ready in cc

  pub wakes_another : (u value : ℕ) (x : Parts) → (t ≡ u → ⊥) → Apart t k x → Apart t k (wake u value x)
  unfolding wake restamp
  wakes_another u value x other a = record { task = change-elsewhere _ _ u t other ∙ change-elsewhere _ x.tasks u t other ∙ a.task; hart = change-elsewhere (set_register A0 value) x.harts u t other ∙ a.hart }

  pub waits_another : (u : ℕ) (wait : Wait) (deadline : ℕ) (x : Parts) → (t ≡ u → ⊥) → Apart t k x → Apart t k (begin_wait u wait deadline x)
  unfolding begin_wait restamp
  waits_another u wait deadline x other a = record { task = change-elsewhere _ _ u t other ∙ change-elsewhere _ x.tasks u t other ∙ a.task; hart = a.hart }

  hands_over_to : (o : Option ℕ) (m : ℕ) (x : Parts) → Apart t k x → first_waiter (Locked m) x ≡ o → Apart t k (hand_over_to o m x)
  hands_over_to None m x a first = record { task = a.task; hart = a.hart }
  hands_over_to (Some u) m x a first = wakes_another u (kept_of (slice_get x.tasks u)) (on_mutex m (held_by u 1) x) (another u (Locked m) x a.task first) (record { task = a.task; hart = a.hart })

  pub hands_over : (m : ℕ) (x : Parts) → Apart t k x → Apart t k (hand_over m x)
  unfolding hand_over
  hands_over m x a = hands_over_to (first_waiter (Locked m) x) m x a refl

  hands_over_if : (b : Bool) (m : ℕ) (x : Parts) → Apart t k x → Apart t k (if b then hand_over m x else x)
  hands_over_if true m x a = hands_over m x a
  hands_over_if false m x a = a

  pub hands_over_below : (n : ℕ) → Apart t k (hand_over_below t n k)
  unfolding hand_over_below
  hands_over_below zero = record { task = refl; hart = refl }
  hands_over_below (suc m) = let before : Parts = hand_over_below t m k in hands_over_if (is_number (owner before.mutexes m) t) m before (hands_over_below m)

  pub waits : (x : Parts) (wait : Wait) (deadline : ℕ) → x.tasks ≡ (begin_wait t wait deadline k).tasks → x.harts ≡ k.harts → Own waiting t task k x
  unfolding begin_wait restamp
  waits x wait deadline tasks harts =
      let begun : Task → Task = λ y. record y { state = Waits wait; deadline = deadline } in
      let stamped : Task → Task = λ y. record y { stamp = k.stamps } in
      turned waiting (λ y. stamped (begun y)) x
      (ap (λ all. slice_get all t) tasks ∙ change-here stamped (change begun k.tasks t) t ∙ ap (option_map stamped) (change-here begun k.tasks t ∙ ap (option_map begun) there))
      (record { cpu = λ no. refl; class = λ no. refl; priority = λ no. refl; slice = λ no. refl; mode = λ no. refl; deadline = λ no. cc; stamp = λ no. cc; state = λ no. cc }) (λ no. cc) (λ no. cc) harts

  pub waits_unless : (o : Option Errno) (wait : Wait) (deadline : ℕ) → Own waiting t task k (wait_unless o t wait deadline k).0
  unfolding begin_wait restamp
  waits_unless (Some e) wait deadline = same waiting
  waits_unless None wait deadline = waits (begin_wait t wait deadline k) wait deadline refl refl

  -- .. after others changed
  pub waits_after : (x : Parts) (wait : Wait) (deadline : ℕ) → Apart t k x → Own waiting t task k (begin_wait t wait deadline x)
  unfolding begin_wait restamp
  waits_after x wait deadline a =
      let begun : Task → Task = λ y. record y { state = Waits wait; deadline = deadline } in
      let stamped : Task → Task = λ y. record y { stamp = x.stamps } in
      record {
        after = stamped (begun task);
        there = change-here stamped (change begun x.tasks t) t ∙ ap (option_map stamped) (change-here begun x.tasks t ∙ ap (option_map begun) (a.task ∙ there));
        leaves = record { cpu = λ no. refl; class = λ no. refl; priority = λ no. refl; slice = λ no. refl; mode = λ no. refl; deadline = λ no. cc; stamp = λ no. cc; state = λ no. cc };
        stamp = λ no. cc;
        state = λ no. cc;
        hart = λ y h. a.hart ∙ h;
      }
