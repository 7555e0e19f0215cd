use Rattle.std.proofs.Common.{◌++◌, [], refl, subst}
use Rattle.trace_records.specs.Runs.IsRun.{begins, goes_on}
use Rattle.trace_records.specs.Telling.{Tells}
use Rattle.trace_records.proofs.place_run.tell_run.Goals as goal

pub loop-init : goal.loop-init
loop-init g c = λ start tells. ([], (begins, tells))

pub returns-in-End : goal.returns-in-End
returns-in-End g c =
    λ start tells.
    let h = c.loop.invariant start tells in
    record { changes = h.0; to = c.loop.teller; run = h.1.0; ends = c.in-End.ensures.end refl; told = h.1.1 }

pub loop-preserved : goal.loop-preserved
loop-preserved g c =
    λ start tells.
    let h = c.loop.invariant start tells in
    let more = c.next.new.changes.items in (
      h.0 ++ more,
      (
        goes_on h.0 more c.loop.teller c.next.new.self h.1.0 (c.in-Changes.ensures.changes c.clear.ensures.items refl),
        subst (λ xs. Tells g.W.Sink.takes start (h.0 ++ xs) c.tell.new.sink c.tell.new.self) c.as_slice.ensures.value (c.in-Ok.ensures start h.0 h.1.1),
      ),
    )
