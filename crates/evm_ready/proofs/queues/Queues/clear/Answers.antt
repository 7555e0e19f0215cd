use Rattle.std.proofs.Common.{◌≤◌, ◌*◌, length, arith}
use Rattle.evm_ready.proofs.Cleared.{bitmap_clear}
use Rattle.evm_ready.proofs.queues.Queues.clear.Goals as goal

pub invariant_of-self : goal.invariant_of-self
invariant_of-self c =
    let enough : length c.clear_all.new.queues.items ≤ 32 * 64 = omega (arith, c.self.invariant.enough, c.clear_all.ensures.count, c.self.told) in
    bitmap_clear c.clear_all.new.queues.items enough c.clear_all.ensures.empty
