use Rattle.std.proofs.Common.{ap, ◌∙◌}
use Rattle.evm_lines.specs.Laws.{length-lines_of}
use Rattle.evm_lines.specs.Lines.{has_none}
use Rattle.evm_lines.proofs.Words.{has_none-lines_of, has_none-tells}
use Rattle.evm_lines.proofs.set.LineSet.is_empty.Goals as goal

pub returns-clause-test : goal.returns-clause-test
returns-clause-test c = rw (← c.self.view_is) (has_none-lines_of c.self.inside.word c.self.invariant)

pub returns-clause-empty : goal.returns-clause-empty
returns-clause-empty c = has_none-tells _ _ (has_none-lines_of c.self.inside.word c.self.invariant ∙ ap has_none c.self.view_is)

pub returns-clause-few : goal.returns-clause-few
returns-clause-few c = rw (← c.self.view_is) (length-lines_of c.self.inside.word)
