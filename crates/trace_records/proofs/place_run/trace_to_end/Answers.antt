use Rattle.trace_records.proofs.place_run.trace_to_end.Goals as goal

pub returns-in-Ok-finish-clause-placed : goal.returns-in-Ok-finish-clause-placed
returns-in-Ok-finish-clause-placed g c =
    λ start tells. let r = c.in-Ok.ensures start tells in (c.labels.result.now, c.places.result.now, c.in-Ok-finish.ensures.placed start (r.changes, r.told))

pub returns-in-Ok-finish-clause-run : goal.returns-in-Ok-finish-clause-run
returns-in-Ok-finish-clause-run g c =
    λ start tells.
    let r = c.in-Ok.ensures start tells in
    record {
      changes = r.changes;
      labels = c.labels.result.now;
      places = c.places.result.now;
      to = r.to;
      run = r.run;
      ends = r.ends;
      took = c.in-Ok-finish.ensures.took start r.changes r.told;
    }
