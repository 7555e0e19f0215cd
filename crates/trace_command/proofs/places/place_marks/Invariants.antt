use Rattle.std.proofs.Common.{◌≡◌, ◌++◌, take}
use Rattle.std.specs.Prelude.{flat_map}
use Rattle.trace_command.specs.Spots.{spots_of}
use Rattle.trace_command.proofs.places.place_marks.Given as goal

abbrev pub invariant-loop-mark : goal.invariant-loop-mark
invariant-loop-mark l = l.list.items ≡ l.fn.list.items ++ flat_map (spots_of l.machine.board.parts.harts l.at) (take l.mark-index l.marks)
