use Rattle.std.proofs.Common.{length, rules, arith}
use Rattle.evm_ram.proofs.Written.{copied_more, left_more, all_same}
use Rattle.evm_ram.proofs.copies.copy_written.Goals as goal
use Rattle.evm_ram.proofs.copies.copy_written.Goals.{then-is_written, else-is_written}

pub blocks-2-preserved : goal.blocks-2-preserved
blocks-2-preserved c =
    let shift = c.args.blocks.now.shift in
    let so_far = c.blocks-2.invariant in
    elim c.if-is_written.branch [
      | then-is_written w ↦
          rw w.bytes-is
          (copied_more c.args.bytes.now c.blocks-2.bytes w.copy_block.new.bytes c.args.other.now c.blocks-2.block shift so_far.0 so_far.1 so_far.2
          w.copy_block.ensures.size w.copy_block.ensures.these w.copy_block.ensures.others)
      | else-is_written w ↦
          rw w.bytes-is
          (left_more c.args.bytes.now c.blocks-2.bytes c.args.other.now c.args.blocks.now.written c.args.others.now.written c.blocks-2.block shift so_far.0 so_far.1 so_far.2
          c.requires.zero c.requires.zeros (c.is_written.ensures.one (search rules)) (c.is_written.ensures.other (search rules)))
    ]

pub returns : goal.returns
returns c =
    let so_far = c.blocks-2.invariant in
    all_same c.blocks-2.bytes c.args.other.now c.blocks-2.block c.args.blocks.now.shift so_far.0 (search rules) (search rules) so_far.1
