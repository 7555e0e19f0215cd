use Rattle.std.proofs.Common.{◌≡◌, ℕ, List, Option, None, Some, true, subst}
use Rattle.std.specs.Prelude.{MatchOption, slice_get}
use Rattle.arrayvec.specs.ArrayVec.{ArrayVec}
use Rattle.hunt_failures.specs.Eves.{listed_owner, noted_owner, owner_wanted}
use Rattle.hunt_failures.specs.Failures.{is_left}
use Rattle.hunt_failures.specs.declared.failure.Failure.{Failure}
use Rattle.hunt_failures.specs.declared.failure.Failure.TheVariants as failures
use Rattle.hunt_failures.proofs.Failing.{abandoned-mutex}
use Rattle.hunt_failures.proofs.eve.abandoned_mutex.Goals as goal

pub returns-in-None : goal.returns-in-None
returns-in-None c before wanted event eve =
    let known : (m : ℕ) → noted_owner None m ≡ owner_wanted wanted.abandoned m before =
    subst (λ (o : Option (ArrayVec (Option ℕ))). (m : ℕ) → noted_owner o m ≡ owner_wanted wanted.abandoned m before) c.in-None.is eve.owners in
    abandoned-mutex None wanted before c.args.machine.now None known (λ t m noted left. cc)

pub returns-in-Some : goal.returns-in-Some
returns-in-Some c before wanted event eve =
    let known : (m : ℕ) → noted_owner (Some c.in-Some.owners) m ≡ owner_wanted wanted.abandoned m before =
    subst (λ (o : Option (ArrayVec (Option ℕ))). (m : ℕ) → noted_owner o m ≡ owner_wanted wanted.abandoned m before) c.in-Some.is eve.owners in
    let P : List (Option ℕ) → Type 0 = λ owners. MatchOption c.abandoned.result ((t m : ℕ) → listed_owner (slice_get owners m) ≡ Some t → is_left t m c.args.machine.now ≡ true → ⊥)
    (λ (failure : Failure). (t : ℕ) × (m : ℕ) × (failure ≡ failures.Abandoned t m) × (listed_owner (slice_get owners m) ≡ Some t) × (is_left t m c.args.machine.now ≡ true)) in
    let found : P c.in-Some.owners.items = subst P c.as_slice.ensures.value c.abandoned.ensures in
    abandoned-mutex (Some c.in-Some.owners) wanted before c.args.machine.now c.abandoned.result known found
