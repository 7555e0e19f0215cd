use Rattle.std.proofs.Common.{Ok}
use Rattle.evm_journal.specs.evm_text.Appending.{Appends}
use Rattle.evm_debug.specs.Views.{tasks_below}
use Rattle.evm_debug.proofs.views.push_tasks.Given as goal

-- the tasks below t were appended
abbrev pub invariant-loop-t : goal.invariant-loop-t
invariant-loop-t g l = Appends (tasks_below l.t l.machine.board.parts) l.fn.out l.out (Ok tt)
