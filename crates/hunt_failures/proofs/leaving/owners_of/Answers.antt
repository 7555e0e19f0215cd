use Rattle.std.proofs.Common.{◌≡◌, ℕ, Option, ap, sym, arith}
use Rattle.std.proofs.lemmas.Option.{slice_get_past}
use Rattle.evm_model.specs.Mutexes.{owner_of}
use Rattle.hunt_failures.specs.Eves.{listed_owner}
use Rattle.hunt_failures.specs.Failures.{live_of, live_owner}
use Rattle.hunt_failures.proofs.Lists.{each-place}
use Rattle.hunt_failures.proofs.leaving.owners_of.Goals as goal

pub returns : goal.returns
returns c =
    let P : ℕ → Option (Option ℕ) → Type 0 = λ k o. listed_owner o ≡ live_owner k c.args.machine.now in
    each-place P c.mutexes.owners.items
    (λ k less. ap listed_owner (c.mutexes.invariant.owners k (omega arith)))
    (λ k past. sym (ap (λ o. live_of (owner_of o) c.args.machine.now.board.parts.tasks) (slice_get_past c.args.machine.now.board.parts.mutexes k (omega arith))))
