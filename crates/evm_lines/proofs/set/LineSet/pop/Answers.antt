use Rattle.std.proofs.Common.{◌≡◌, ◌∷◌}
use Rattle.evm_lines.specs.Lines.{without_line}
use Rattle.evm_lines.specs.Laws.{without_line-popped}
use Rattle.evm_lines.proofs.set.LineSet.pop.Goals as goal

pub returns-clause-least : goal.returns-clause-least
returns-clause-least c =
    let popped : c.args.self.now ≡ c.in_ok-line.line ∷ without_line c.args.self.now c.in_ok-line.line =
    without_line-popped c.args.self.now c.in_ok-line.line c.in_ok-line.ensures.set c.in_ok-line.ensures.least in
    cc
