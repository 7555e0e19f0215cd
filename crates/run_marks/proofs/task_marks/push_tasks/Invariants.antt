use Rattle.std.proofs.Common.{◌≡◌, ◌++◌}
use Rattle.run_marks.specs.Lists.{below}
use Rattle.run_marks.specs.Marks.{one_task_marks}
use Rattle.run_marks.proofs.task_marks.push_tasks.Given as goal

-- the marks of those below task were appended
abbrev pub invariant-loop-task : goal.invariant-loop-task
invariant-loop-task l = l.marks.items ≡ l.fn.marks.items ++ below (one_task_marks l.before l.after) l.task
