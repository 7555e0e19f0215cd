use Rattle.std.proofs.Common.{rules}
use Rattle.evm_ram.proofs.Written.{block_bounds, part_same}
use Rattle.evm_ram.proofs.same.same_block.Goals as goal

pub returns : goal.returns
returns c all i inside same =
    let bounds = block_bounds i c.args.block c.args.shift same in
    part_same c.args.a.now c.args.b.now c.min-start.result c.min-end.result i (c.same_bytes.ensures all) (search rules) (search rules)
