use Rattle.std.proofs.Common.{◌≡◌, ◌++◌}
use Rattle.evm_model.specs.State.{Parts}
use Rattle.run_marks.specs.Lists.{below}
use Rattle.run_marks.specs.Marks.{processor_marks}
use Rattle.run_marks.specs.Tallies.{IsTallyOf, IsTallyUpTo, IsWithinReach}
use Rattle.run_marks.proofs.marking.push_processors.Given as goal

-- the marks of those below cpu were appended, and their counts kept
abbrev pub invariant-loop-cpu : goal.invariant-loop-cpu
invariant-loop-cpu g l =
    (was : Parts) → IsTallyOf l.fn.tally.rows was → IsWithinReach l.reach was l.machine.board.parts
    → (l.marks.items ≡ l.fn.marks.items ++ below (processor_marks l.before l.after was l.machine.board.parts) l.cpu) × IsTallyUpTo l.cpu l.tally.rows was l.machine.board.parts
