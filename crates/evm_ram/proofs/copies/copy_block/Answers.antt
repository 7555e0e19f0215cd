use Rattle.std.proofs.Common.{◌≡◌, ◌+◌, ◌*◌, ◌^◌, ◌≤◌, ◌<◌, ◌⊎◌, inl, inr, length, ap, sym, ◌∙◌, rules, arith}
use Rattle.evm_ram.proofs.Written.{block_bounds, outside_block, part_copied, part_left}
use Rattle.evm_ram.proofs.copies.copy_block.Goals as goal

pub returns-clause-these : goal.returns-clause-these
returns-clause-these c i inside same =
    let bounds = block_bounds i c.args.block c.args.shift same in
    rw c.copy_from_slice.ensures.after
    (part_copied c.args.bytes.now c.args.other.now c.min-start.result c.min-end.result i c.requires.size (search rules) (search rules) (search rules) (search rules))

pub returns-clause-others : goal.returns-clause-others
returns-clause-others c i other =
    let away = outside_block i c.args.block c.args.shift other in
    rw c.copy_from_slice.ensures.after
    (part_left c.args.bytes.now c.args.other.now c.min-start.result c.min-end.result i c.requires.size (search rules) (search rules) (search rules))
