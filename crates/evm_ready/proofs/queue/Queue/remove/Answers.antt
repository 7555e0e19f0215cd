use Rattle.std.proofs.Common.{◌≡◌, Some, refl}
use Rattle.std.specs.Prelude.{slice_get}
use Rattle.evm_ready.proofs.Members.{has-remove}
use Rattle.evm_ready.proofs.queue.Queue.remove.Goals as goal

pub returns-then-is_head-clause-members : goal.returns-then-is_head-clause-members
returns-then-is_head-clause-members c =
    let found : slice_get c.args.self.now 0 ≡ Some c.args.t = c.if-is_head.ensures refl in
    λ u. rw c.drop_head.ensures (has-remove c.args.turns.now c.args.self.now 0 c.args.t u c.requires found)
