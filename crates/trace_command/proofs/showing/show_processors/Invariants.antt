use Rattle.std.proofs.Common.{◌≡◌}
use Rattle.trace_command.specs.Instants.{instants_in}
use Rattle.trace_command.proofs.showing.show_processors.Given as goal

abbrev pub invariant-loop-cpu : goal.invariant-loop-cpu
invariant-loop-cpu l = instants_in l.list.items ≡ instants_in l.fn.list.items
