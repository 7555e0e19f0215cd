use Rattle.std.specs.Prelude.{List, []}
use Rattle.trace_records.specs.Runs.{IsRun}
use Rattle.trace_records.specs.Telling.{Tells}
use Rattle.trace_records.specs.declared.change.Change.{Change}
use Rattle.trace_records.proofs.place_run.tell_run.Given as goal

-- what was told so far is what the trace tells
abbrev pub invariant-loop : goal.invariant-loop
invariant-loop g l =
    (start : g.row.W.Denot) → Tells g.W.Sink.takes start [] l.fn.sink l.fn.trace
    → (changes : List Change) × (IsRun g.T.Teller.tells l.fn.teller changes l.teller × Tells g.W.Sink.takes start changes l.sink l.trace)
