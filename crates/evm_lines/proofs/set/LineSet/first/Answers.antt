use Rattle.std.proofs.Common.{◌<◌, sym, ap, ◌∙◌, arith}
use Rattle.evm_lines.specs.Lines.{least_line, lines_of}
use Rattle.evm_lines.specs.Laws.{lines_of-zero, IsLineSet-lines_of, least_line-below}
use Rattle.evm_lines.proofs.Words.{first_line}
use Rattle.evm_lines.proofs.set.LineSet.first.Goals as goal

pub returns-then-self-eq0-clause-least : goal.returns-then-self-eq0-clause-least
returns-then-self-eq0-clause-least c =
    let none = ap lines_of c.if-self-eq0.true ∙ lines_of-zero in
    ap least_line (sym none ∙ c.self.view_is)

pub returns-else-self-eq0-clause-least : goal.returns-else-self-eq0-clause-least
returns-else-self-eq0-clause-least c =
    let some : 0 < c.self.inside.word = omega arith in
    rw (← c.self.view_is) (sym (first_line c.self.inside.word some c.self.invariant))

pub returns-then-self-eq0-clause-set : goal.returns-then-self-eq0-clause-set
returns-then-self-eq0-clause-set c = rw (← c.self.view_is) (IsLineSet-lines_of c.self.inside.word)

pub returns-else-self-eq0-clause-set : goal.returns-else-self-eq0-clause-set
returns-else-self-eq0-clause-set c = rw (← c.self.view_is) (IsLineSet-lines_of c.self.inside.word)

pub returns-else-self-eq0-clause-in_range : goal.returns-else-self-eq0-clause-in_range
returns-else-self-eq0-clause-in_range c =
    let some : 0 < c.self.inside.word = omega arith in
    least_line-below (lines_of c.self.inside.word) _ (IsLineSet-lines_of c.self.inside.word) (sym (first_line c.self.inside.word some c.self.invariant))
