use Rattle.std.proofs.Common.{◌≡◌}
use Rattle.trace_command.specs.Instants.{instants_in}
use Rattle.trace_command.proofs.showing.end_tasks.Given as goal

abbrev pub invariant-loop-task : goal.invariant-loop-task
invariant-loop-task l = instants_in l.list.items ≡ instants_in l.fn.list.items
