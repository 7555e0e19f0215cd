use Rattle.std.proofs.Common.{ℕ, List, ◌++◌, take}
use Rattle.trace_records.specs.Places.{place_lines}
use Rattle.trace_records.specs.Placed.{IsPending}
use Rattle.trace_records.proofs.writing.write_places.Given as goal

-- the lines of the places so far are held
abbrev pub invariant-loop-place : goal.invariant-loop-place
invariant-loop-place g l =
    (start : g.row.W.Denot) (whole : List ℕ) → IsPending g.W.Sink.takes start whole l.fn.sink l.fn.text → IsPending g.W.Sink.takes start (whole ++ place_lines l.symbols.symbols (take l.place-index l.places)) l.sink l.text
