use Rattle.std.proofs.Common.{◌*◌, replicate, arith}
use Rattle.evm_ready.proofs.Filing.{bitmap-empty, bit_of-zero}
use Rattle.evm_ready.proofs.queues.Queues.new.Goals as goal

pub invariant_of-result : goal.invariant_of-result
invariant_of-result c =
    rw c.in_ok-queues.ensures.empty
    (bitmap-empty (replicate 32 0) (c.args.words * 64) (omega (arith, c.requires)) (bit_of-zero 32))
