use Rattle.std.proofs.Common.{◌≡◌, ◌∙◌, ap, sym, arith, length}
use Rattle.evm_boost.proofs.Owning.{owners-pushed, past-owner, unowned}
use Rattle.evm_model.specs.Mutexes.{owner}
use Rattle.evm_boost.proofs.mutexes.Mutexes.create.Goals as goal

pub invariant_of-self : goal.invariant_of-self
invariant_of-self c =
    let items = c.self.inside.mutexes.items in
    let count : c.count-m.result ≡ length items = c.count-m.ensures.count ∙ ap length (sym c.self.view_is) in
    let room = ap length c.self.view_is in
    rw (c.push.ensures.items, c.of.ensures)
    (owners-pushed _ items c.args.mutex (omega (arith, c.requires, room))
    (rw (← count, c.in-Some.is) (c.hold.ensures (owner items) (past-owner items c.count-m.result (omega (arith, count))) c.self.invariant.owned)))

pub invariant_of-self-in_default : goal.invariant_of-self-in_default
invariant_of-self-in_default c =
    let items = c.self.inside.mutexes.items in
    let room = ap length c.self.view_is in
    rw (c.push.ensures.items, c.of.ensures)
    (owners-pushed _ items c.args.mutex (omega (arith, c.requires, room))
    (rw c.in_default.is (unowned _ (owner items) (length items) (past-owner items (length items) (omega arith)) c.self.invariant.owned)))
