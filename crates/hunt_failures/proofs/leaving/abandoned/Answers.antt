use Rattle.std.proofs.Common.{◌≡◌, ℕ, Option, Some, true, arith}
use Rattle.hunt_failures.specs.Eves.{listed_owner}
use Rattle.hunt_failures.specs.Failures.{is_left}
use Rattle.hunt_failures.proofs.Lists.{each-place}
use Rattle.hunt_failures.proofs.leaving.abandoned.Goals as goal

pub returns : goal.returns
returns c = λ t m known left.
    let P : ℕ → Option (Option ℕ) → Type 0 = λ k o. (u : ℕ) → listed_owner o ≡ Some u → is_left u k c.args.machine.now ≡ true → ⊥ in
    each-place P c.args.owners.now (λ k less u. c.mutexes.invariant k u (omega arith)) (λ k past u none kept. cc) m t known left
