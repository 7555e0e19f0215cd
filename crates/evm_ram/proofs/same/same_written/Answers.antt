use Rattle.std.proofs.Common.{length, rules, arith}
use Rattle.evm_ram.proofs.Written.{same_more, both_zero, all_same}
use Rattle.evm_ram.proofs.same.same_written.Goals as goal
use Rattle.evm_ram.proofs.same.same_written.Goals.{else-is_written-via-then-is_written+else-not-same_block, else-is_written-via-else-is_written}

pub blocks-2-preserved : goal.blocks-2-preserved
blocks-2-preserved c =
    let more = same_more c.args.a.now c.args.b.now c.blocks-2.block c.args.blocks.now.shift c.blocks-2.invariant in
    elim c.else-is_written.branch [
      | else-is_written-via-then-is_written+else-not-same_block w ↦ more (w.same_block.ensures (search rules))
      | else-is_written-via-else-is_written w ↦
          more (λ i inside same. both_zero c.args.a.now c.args.b.now c.args.blocks.now.written c.args.others.now.written c.blocks-2.block c.args.blocks.now.shift
          c.requires.zero c.requires.zeros (c.is_written.ensures.one (search rules)) (c.is_written.ensures.other (search rules)) i same)
    ]

pub returns : goal.returns
returns c _ = all_same c.args.a.now c.args.b.now c.blocks-2.block c.args.blocks.now.shift c.requires.size c.requires.cover (search rules) c.blocks-2.invariant
