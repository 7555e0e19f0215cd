use Rattle.std.proofs.Common.{◌≡◌, ◌+◌, ◌∙◌, suc, ap, arith}
use Rattle.evm_core.specs.evm_history.Runs.{runs}
use Rattle.hunt_space.specs.Raises.{raises_in}
use Rattle.hunt_space.proofs.Raising.{first-all, first-more, first_raise, runs-raise}
use Rattle.hunt_space.proofs.bounds.raise_count.Goals as goal

pub lines-preserved : goal.lines-preserved
lines-preserved c =
    let more = first-more (runs c.args.machine.now.journal) c.lines.i in
    let here = c.raises_in-count.ensures.raises ∙ ap raises_in c.journal_line.ensures in
    let next : suc c.lines.i ≡ c.lines.i + 1 = omega arith in
    let all = ap (first_raise (runs c.args.machine.now.journal)) next in
    (omega (arith, c.lines.invariant.0, here, more, all), omega (arith, c.lines.invariant.1, c.raises_in-count.ensures.most))

pub returns : goal.returns
returns c =
    c.lines.invariant.0 ∙ first-all (runs c.args.machine.now.journal) c.lines.i (omega (arith, c.journal_line_count-i-end.ensures, c.lines-test.false)) ∙ runs-raise c.args.machine.now.journal
