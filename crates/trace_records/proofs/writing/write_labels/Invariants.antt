use Rattle.std.proofs.Common.{ℕ, List, ◌++◌, take}
use Rattle.trace_records.specs.Labels.{label_lines}
use Rattle.trace_records.specs.Placed.{IsPending}
use Rattle.trace_records.proofs.writing.write_labels.Given as goal

-- the lines of the labels so far are held
abbrev pub invariant-loop-label : goal.invariant-loop-label
invariant-loop-label g l =
    (start : g.row.W.Denot) (whole : List ℕ) → IsPending g.W.Sink.takes start whole l.fn.sink l.fn.text → IsPending g.W.Sink.takes start (whole ++ label_lines (take l.label-index l.labels)) l.sink l.text
