use Rattle.std.proofs.Common.{◌≡◌, ℕ, List, true, false, Option, Some, None, length, inl, inr, refl, ap, sym, ◌∙◌, arith, eq-eqb}
use Rattle.std.specs.Prelude.{slice_get}
use Rattle.std.proofs.lemmas.Option.{slice_get_within}
use Rattle.evm_model.specs.Events.{bound_of, broadcast, signal_known, signal_rounds}
use Rattle.evm_model.specs.State.{Parts}
use Rattle.evm_model.specs.Waits.{awaits_task, awaits, is_wait_for}
use Rattle.evm_model.specs.declared.task.Task.{Task}
use Rattle.evm_model.specs.declared.task.TaskState.TheVariants.{Waits}
use Rattle.evm_model.specs.declared.task.Wait.TheVariants.{Event}
use Rattle.law_rules.proofs.Waiters.{wait_is}
use Rattle.law_runs.proofs.Sooner.{how_many, none_left}
use Rattle.claims_machine.proofs.Signalling.{Signals, signals}
use Rattle.claims_machine.proofs.order.a_broadcast_leaves_no_waiter.Goals as goal

waiter : (e t : ℕ) (tasks : List Task) (o : Option Task) → slice_get tasks t ≡ o → awaits_task (Event e) o ≡ true → (task : Task) × ((slice_get tasks t ≡ Some task) × (task.state ≡ Waits (Event e)))
waiter e t tasks None at on = cc
waiter e t tasks (Some task) at on = (task, (at, wait_is (Event e) task.state refl on))

waits : (e t : ℕ) (tasks : List Task) (task : Task) → slice_get tasks t ≡ Some task → task.state ≡ Waits (Event e) → awaits (Event e) tasks t ≡ true
waits e t tasks task at is = ap (awaits_task (Event e)) at ∙ ap (is_wait_for (Event e)) is ∙ eq-eqb e e refl

-- nobody waits after so many rounds
nobody : (e t : ℕ) (k x : Parts) → Signals e (length k.tasks) k x → (task : Task) → slice_get x.tasks t ≡ Some task → task.state ≡ Waits (Event e) → ⊥
nobody e t k x w task at is =
    let on : awaits (Event e) x.tasks t ≡ true = waits e t x.tasks task at is in
    let zero_left : how_many (awaits (Event e) x.tasks) (length k.tasks) ≡ 0 = omega (arith, w.left) in
    let off : awaits (Event e) x.tasks t ≡ false = none_left (awaits (Event e) x.tasks) (length k.tasks) t zero_left (rw (← w.size) (slice_get_within x.tasks t task at)) in
    let no : true ≡ false = sym on ∙ off in cc

pub returns : goal.returns
unfolding broadcast
returns g e m k named =
    let x : Parts = signal_rounds e (length k.tasks) k in
    let same : (broadcast e k).0 ≡ x = ap (λ o. (signal_known o e (length k.tasks) k).0) named in
    let w : Signals e (length k.tasks) k x = signals e m (length k.tasks) k (ap bound_of named) in (
      w.tasks,
      (λ t. (
        (λ h. waiter e t k.tasks (slice_get k.tasks t) refl (w.were t h)),
        (λ h. elim (w.which t) [
          | inl before ↦ before
          | inr stays ↦ absurd (nobody e t k x w h.0 (stays ∙ h.1.0) h.1.1)
        ]),
      )),
      rw same w.order,
      (λ t task at is. nobody e t k x w task (ap (λ (y : Parts). slice_get y.tasks t) (sym same) ∙ at) is),
    )
