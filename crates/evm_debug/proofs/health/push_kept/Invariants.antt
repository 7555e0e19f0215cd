use Rattle.std.proofs.Common.{Ok}
use Rattle.evm_journal.specs.evm_text.Appending.{Appends}
use Rattle.evm_debug.specs.Views.{notices_below}
use Rattle.evm_debug.proofs.health.push_kept.Given as goal

-- the notices below i were appended
abbrev pub invariant-loop-i : goal.invariant-loop-i
invariant-loop-i g l = Appends (notices_below l.i l.machine.board.parts.notices.kept) l.fn.out l.out (Ok tt)
