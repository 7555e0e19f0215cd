use Rattle.evm_lines.proofs.Words.{lines_of-clear}
use Rattle.evm_lines.proofs.set.LineSet.remove.Goals as goal

pub returns : goal.returns
returns c = rw (← c.self.view_is) (lines_of-clear c.self.inside.word c.args.line c.requires)
