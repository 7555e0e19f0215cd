use Rattle.std.proofs.Common.{◌≡◌, ◌++◌}
use Rattle.run_marks.specs.Lists.{below}
use Rattle.run_marks.specs.Marks.{owner_marks}
use Rattle.run_marks.proofs.marking.push_owners.Given as goal

-- the marks of those below mutex were appended
abbrev pub invariant-loop-mutex : goal.invariant-loop-mutex
invariant-loop-mutex l = l.marks.items ≡ l.fn.marks.items ++ below (owner_marks l.before l.after) l.mutex
