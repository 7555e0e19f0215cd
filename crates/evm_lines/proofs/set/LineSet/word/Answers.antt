use Rattle.std.proofs.Common.{sym}
use Rattle.evm_lines.specs.Laws.{word_of-lines_of, IsLineSet-lines_of}
use Rattle.evm_lines.proofs.set.LineSet.word.Goals as goal

pub returns-clause-value : goal.returns-clause-value
returns-clause-value c = rw (← c.self.view_is) (sym (word_of-lines_of c.self.inside.word c.self.invariant))

pub returns-clause-set : goal.returns-clause-set
returns-clause-set c = rw (← c.self.view_is) (IsLineSet-lines_of c.self.inside.word)
