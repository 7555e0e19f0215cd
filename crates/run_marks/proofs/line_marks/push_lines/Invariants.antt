use Rattle.std.proofs.Common.{◌≡◌, ◌++◌, slice_get}
use Rattle.run_marks.specs.Lists.{below}
use Rattle.run_marks.specs.Marks.{line_marks}
use Rattle.run_marks.proofs.line_marks.push_lines.Given as goal

-- the marks of those below line were appended
abbrev pub invariant-loop-line : goal.invariant-loop-line
invariant-loop-line l = l.marks.items ≡ l.fn.marks.items ++ below (λ line. line_marks l.cpu line (slice_get l.before line) (slice_get l.after line)) l.line
