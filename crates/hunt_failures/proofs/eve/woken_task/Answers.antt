use Rattle.std.proofs.Common.{◌≡◌, ℕ, Bool, List, Option, None, Some, true, subst}
use Rattle.std.specs.Prelude.{MatchOption, slice_get}
use Rattle.arrayvec.specs.ArrayVec.{ArrayVec}
use Rattle.hunt_failures.specs.Eves.{is_listed, noted_waiter, waiter_wanted}
use Rattle.hunt_failures.specs.Failures.{is_late}
use Rattle.hunt_failures.specs.declared.failure.Failure.{Failure}
use Rattle.hunt_failures.specs.declared.failure.Failure.TheVariants as failures
use Rattle.hunt_failures.proofs.Failing.{woken-task}
use Rattle.hunt_failures.proofs.eve.woken_task.Goals as goal

pub returns-in-None : goal.returns-in-None
returns-in-None c before wanted event eve =
    let known : (t : ℕ) → noted_waiter None t ≡ waiter_wanted wanted.overrun t before =
    subst (λ (o : Option (ArrayVec Bool)). (t : ℕ) → noted_waiter o t ≡ waiter_wanted wanted.overrun t before) c.in-None.is eve.waiters in
    woken-task None wanted before c.args.machine.now None known (λ t noted late. cc)

pub returns-in-Some : goal.returns-in-Some
returns-in-Some c before wanted event eve =
    let known : (t : ℕ) → noted_waiter (Some c.in-Some.waiters) t ≡ waiter_wanted wanted.overrun t before =
    subst (λ (o : Option (ArrayVec Bool)). (t : ℕ) → noted_waiter o t ≡ waiter_wanted wanted.overrun t before) c.in-Some.is eve.waiters in
    let P : List Bool → Type 0 = λ waiters. MatchOption c.woken_late.result ((t : ℕ) → is_listed (slice_get waiters t) ≡ true → is_late t c.args.machine.now ≡ true → ⊥)
    (λ (failure : Failure). (t : ℕ) × (failure ≡ failures.Overrun t) × (is_listed (slice_get waiters t) ≡ true) × (is_late t c.args.machine.now ≡ true)) in
    let found : P c.in-Some.waiters.items = subst P c.as_slice.ensures.value c.woken_late.ensures in
    woken-task (Some c.in-Some.waiters) wanted before c.args.machine.now c.woken_late.result known found
