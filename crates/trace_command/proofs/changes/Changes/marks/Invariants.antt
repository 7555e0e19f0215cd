use Rattle.std.proofs.Common.{◌≡◌, ◌++◌, take}
use Rattle.std.specs.Prelude.{flat_map}
use Rattle.trace_command.specs.Instants.{instants_of, instants_in}
use Rattle.trace_command.proofs.changes.Changes.marks.Given as goal

abbrev pub invariant-loop-mark : goal.invariant-loop-mark
invariant-loop-mark l = instants_in l.list.items ≡ instants_in l.fn.list.items ++ flat_map (instants_of l.moment.wakes l.moment.span.at) (take l.mark-index l.marks)
