use Rattle.std.proofs.Common.{◌<◌, ◌∙◌, length, arith, length-set}
use Rattle.evm_ready.proofs.Shifts.{remove-shift}
use Rattle.evm_ready.proofs.queue.Queue.remove_at.Goals as goal

pub loop-i-preserved : goal.loop-i-preserved
loop-i-preserved c =
    let within : c.loop-i.i < length c.loop-i.self = c.loop-i.invariant.within in
    rw c.put.ensures (record {
      within = omega (arith, length-set c.loop-i.self c.loop-i.i c.get-before.result);
      left = remove-shift c.loop-i.self c.loop-i.i c.get-before.result (omega arith) within c.get-before.ensures ∙ c.loop-i.invariant.left;
    })
