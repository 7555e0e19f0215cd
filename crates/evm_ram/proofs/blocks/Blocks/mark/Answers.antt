use Rattle.std.proofs.Common.{◌≡◌, ◌+◌, ◌-◌, ◌/◌, ◌^◌, ◌<◌, true, refl, arith, rules}
use Rattle.evm_ram.proofs.Written.{block_is_below, blocks_between, one_or_next, one_of_two, set_marks, set_keeps}
use Rattle.evm_ram.proofs.blocks.Blocks.mark.Goals as goal

pub returns-then-count-gt8-clause-these : goal.returns-then-count-gt8-clause-these
returns-then-count-gt8-clause-these c i low high =
    let between = blocks_between c.args.start c.args.count i c.args.self.now.shift low high in
    c.mark_between.ensures.these (i / 2 ^ c.args.self.now.shift) between.0 between.1

pub returns-else-count-gt8-clause-these : goal.returns-else-count-gt8-clause-these
returns-else-count-gt8-clause-these c i low high =
    let shift = c.args.self.now.shift in
    let first = c.args.start / 2 ^ shift in
    let last = (c.args.start + c.args.count - 1) / 2 ^ shift in
    let between = blocks_between c.args.start c.args.count i shift low high in
    let near = one_or_next c.args.start c.args.count shift (omega (arith, c.if-count-gt8.false)) c.requires.covered.0 in
    let one = block_is_below c.args.start (c.args.start + c.args.count) shift (omega (arith, c.requires.some)) c.requires.covered in
    let other = block_is_below (c.args.start + c.args.count - 1) (c.args.start + c.args.count) shift (omega (arith, c.requires.some)) c.requires.covered in
    one_of_two _ (i / 2 ^ shift) first last between.0 between.1 near (set_keeps _ last first (search rules) (set_marks _ first first (search rules) refl)) (set_marks _ last last (search rules) refl)
