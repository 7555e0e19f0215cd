use Rattle.std.proofs.Common.{◌≡◌, sym}
use Rattle.evm_boost.proofs.Owning.{owners-freed}
use Rattle.evm_model.specs.Mutexes.{owner}
use Rattle.evm_boost.proofs.mutexes.Mutexes.leave.Goals as goal

pub invariant_of-self : goal.invariant_of-self
invariant_of-self c =
    let items = c.self.inside.mutexes.items in
    let had : owner items c.args.m ≡ c.owner-before.result = rw c.self.view_is (sym c.owner-before.ensures) in
    rw c.leave_slot.ensures (owners-freed _ items c.args.m c.self.invariant.few (c.leave.ensures (owner items) had c.self.invariant.owned))
