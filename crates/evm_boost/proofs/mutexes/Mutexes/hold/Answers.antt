use Rattle.std.proofs.Common.{◌≡◌, ◌∙◌, None, ap, sym, arith, length}
use Rattle.evm_boost.proofs.Owning.{given-here, owners-held}
use Rattle.evm_boost.specs.Owning.{given}
use Rattle.evm_model.specs.Mutexes.{owner}
use Rattle.evm_boost.proofs.mutexes.Mutexes.hold.Goals as goal

pub invariant_of-self : goal.invariant_of-self
invariant_of-self c =
    let items = c.self.inside.mutexes.items in
    let had : owner items c.args.m ≡ c.owner-before.result = rw c.self.view_is (sym c.owner-before.ensures) in
    let count = c.count.ensures.count ∙ ap length (sym c.self.view_is) in
    rw c.hold_slot.ensures
    (owners-held _ items c.args.m c.args.t c.args.count c.self.invariant.few (omega (arith, count, c.if-m-count.false))
    (c.hold.ensures (given (owner items) c.args.m None) (given-here (owner items) c.args.m None) (c.leave.ensures (owner items) had c.self.invariant.owned)))
