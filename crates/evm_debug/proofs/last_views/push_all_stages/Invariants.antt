use Rattle.std.proofs.Common.{Ok}
use Rattle.evm_journal.specs.evm_text.Appending.{Appends}
use Rattle.evm_debug.specs.Summary.{stages_below}
use Rattle.evm_debug.proofs.last_views.push_all_stages.Given as goal

-- the processors below c were appended
abbrev pub invariant-loop-c : goal.invariant-loop-c
invariant-loop-c g l = Appends (stages_below l.c l.machine.board.parts) l.fn.out l.out (Ok tt)
