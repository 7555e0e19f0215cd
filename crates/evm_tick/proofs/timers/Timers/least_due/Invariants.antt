use Rattle.evm_tick.proofs.Spans.{AreFromBelow}
use Rattle.evm_tick.proofs.timers.Timers.least_due.Given as goal

-- none of the timers so far is due before the least
abbrev pub invariant-loop-n : goal.invariant-loop-n
invariant-loop-n l = AreFromBelow l.least l.n l.self
