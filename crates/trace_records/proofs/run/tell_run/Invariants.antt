use Rattle.trace_records.specs.Telling.{IsTelling}
use Rattle.trace_records.proofs.run.tell_run.Given as goal

-- what was told so far is the trace of some changes
abbrev pub invariant-loop : goal.invariant-loop
invariant-loop g l = (start : g.row.W.Denot) → IsTelling g.W.Sink.takes start l.fn.sink l.fn.trace → IsTelling g.W.Sink.takes start l.sink l.trace
