-- Who waits for an event, and who doesn't wait, in first words and in the model's.
use Rattle.std.proofs.Common.{◌≡◌, ℕ, ◌<◌, List, true, false, Option, Some, None, length, refl, ap, sym, ◌∙◌, arith}
use Rattle.std.specs.Prelude.{slice_get}
use Rattle.std.proofs.lemmas.Bool.Decides.{nat_tests}
use Rattle.evm_model.specs.Events.{bound_of}
use Rattle.evm_model.specs.Good.{event_of, event_of_task, event_at, is_mutex, is_waiting}
use Rattle.evm_model.specs.declared.mutex.Mutex.{Mutex}
use Rattle.evm_model.specs.declared.task.Task.{Task}
use Rattle.evm_model.specs.declared.task.TaskState.{TaskState}
use Rattle.evm_model.specs.declared.task.TaskState.TheVariants.{Waits}
use Rattle.evm_model.specs.declared.task.Wait.{Wait}
use Rattle.evm_model.specs.declared.task.Wait.TheVariants.{Event}

pub waits_at : (t e : ℕ) (task : Task) (tasks : List Task) → slice_get tasks t ≡ Some task → task.state ≡ Waits (Event e) → event_at tasks t ≡ Some e
waits_at t e task tasks there is = ap event_of_task there ∙ ap event_of is

pub named_is : (o : Option (Option ℕ)) (mutexes : List Mutex) → is_mutex (bound_of o) mutexes ≡ true → (m : ℕ) × ((o ≡ Some (Some m)) × (m < length mutexes))
named_is None mutexes h = cc
named_is (Some None) mutexes h = cc
named_is (Some (Some m)) mutexes h = (m, (refl, grind (arith, nat_tests)))

pub is_named : (o : Option (Option ℕ)) (m : ℕ) (mutexes : List Mutex) → o ≡ Some (Some m) → m < length mutexes → is_mutex (bound_of o) mutexes ≡ true
is_named o m mutexes e low = rw e (there m mutexes low)
  where
    there : (m : ℕ) (mutexes : List Mutex) → m < length mutexes → is_mutex (Some m) mutexes ≡ true
    there m mutexes low = grind (arith, nat_tests)

event_is : (state : TaskState) (e : ℕ) → event_of state ≡ Some e → state ≡ Waits (Event e)
event_is (Waits (Event d)) e h = ap (λ (x : ℕ). Waits (Event x)) (same d e h)
  where
    same : (d e : ℕ) → Some d ≡ Some e → d ≡ e
    same d e h = cc
event_is _ e h = cc

task_of : (t e : ℕ) (tasks : List Task) (o : Option Task) → slice_get tasks t ≡ o → event_of_task o ≡ Some e → (task : Task) × ((slice_get tasks t ≡ Some task) × (task.state ≡ Waits (Event e)))
task_of t e tasks None there h = cc
task_of t e tasks (Some task) there h = (task, (there, event_is task.state e h))

pub waiter_of : (t e : ℕ) (tasks : List Task) → event_at tasks t ≡ Some e → (task : Task) × ((slice_get tasks t ≡ Some task) × (task.state ≡ Waits (Event e)))
waiter_of t e tasks h = task_of t e tasks (slice_get tasks t) refl h

pub not_waiting : (state : TaskState) → ((wait : Wait) → state ≡ Waits wait → ⊥) → is_waiting state ≡ false
not_waiting (Waits wait) h = absurd (h wait refl)
not_waiting _ h = refl

pub waits_not : (state : TaskState) (wait : Wait) → is_waiting state ≡ false → state ≡ Waits wait → ⊥
waits_not state wait e is = let no : true ≡ false = ap is_waiting (sym is) ∙ e in cc
