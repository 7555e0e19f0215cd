use Rattle.std.proofs.Common.{◌*◌, ◌/◌, length, rules, arith}
use Rattle.evm_ram.proofs.SameBytes.{block_more, blocks_and_rest}
use Rattle.evm_ram.proofs.same.same_bytes.Goals as goal

pub vectors-preserved : goal.vectors-preserved
vectors-preserved c = block_more c.args.a.now c.args.b.now c.vectors.vector c.vectors.invariant (c.same_lanes.ensures (search rules))

pub returns : goal.returns
returns c same =
    blocks_and_rest c.args.a.now c.args.b.now (length c.args.a.now / 64 * 64) (search rules) (λ k less. c.vectors.invariant k (omega (arith, less, c.vectors-test.false))) (c.same_rest.ensures same)
