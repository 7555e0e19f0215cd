use Rattle.std.proofs.Common.{take}
use Rattle.std.specs.Prelude.{All}
use Rattle.trace_records.specs.Placed.{FitsPlace}
use Rattle.trace_records.proofs.writing.fit_places.Given as goal

-- the places so far fit
abbrev pub invariant-loop-place : goal.invariant-loop-place
invariant-loop-place l = All FitsPlace (take l.place-index l.places)
