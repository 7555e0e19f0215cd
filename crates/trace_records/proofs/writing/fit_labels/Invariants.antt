use Rattle.std.proofs.Common.{take}
use Rattle.std.specs.Prelude.{All}
use Rattle.trace_records.specs.Placed.{FitsLabel}
use Rattle.trace_records.proofs.writing.fit_labels.Given as goal

-- the labels so far fit
abbrev pub invariant-loop-label : goal.invariant-loop-label
invariant-loop-label l = All FitsLabel (take l.label-index l.labels)
