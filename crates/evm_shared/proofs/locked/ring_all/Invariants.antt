use Rattle.evm_shared.proofs.Locks.{AreRung}
use Rattle.evm_shared.proofs.locked.ring_all.Given as goal

abbrev pub invariant-loop-line : goal.invariant-loop-line
invariant-loop-line g l = AreRung l.cpu l.word l.line l.count l.initial.machine l.machine
