use Rattle.std.proofs.Common.{◌≡◌, ℕ, Bool, Option, true, arith}
use Rattle.hunt_failures.specs.Eves.{is_listed}
use Rattle.hunt_failures.specs.Failures.{is_late}
use Rattle.hunt_failures.proofs.Lists.{each-place}
use Rattle.hunt_failures.proofs.expiries.woken_late.Goals as goal

pub returns : goal.returns
returns c = λ t known late.
    let P : ℕ → Option Bool → Type 0 = λ k o. is_listed o ≡ true → is_late k c.args.machine.now ≡ true → ⊥ in
    each-place P c.args.waiters.now (λ k less. c.tasks.invariant k (omega arith)) (λ k past none late. cc) t known late
