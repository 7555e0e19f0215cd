use Rattle.std.proofs.Common.{Ok}
use Rattle.evm_journal.specs.evm_text.Appending.{Appends}
use Rattle.evm_debug.specs.Views.{owners_below}
use Rattle.evm_debug.proofs.views.push_owners.Given as goal

-- the mutexes below m were appended
abbrev pub invariant-loop-m : goal.invariant-loop-m
invariant-loop-m g l = Appends (owners_below l.m l.machine.board.parts.mutexes) l.fn.out l.out (Ok tt)
