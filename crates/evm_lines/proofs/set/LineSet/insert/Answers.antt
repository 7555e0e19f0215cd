use Rattle.evm_lines.proofs.Words.{set_below, lines_of-set}
use Rattle.evm_lines.proofs.set.LineSet.insert.Goals as goal

pub invariant_of-self : goal.invariant_of-self
invariant_of-self c = set_below _ _ c.requires c.self.invariant

pub returns : goal.returns
returns c = rw (← c.self.view_is) (lines_of-set c.self.inside.word c.args.line c.requires)
