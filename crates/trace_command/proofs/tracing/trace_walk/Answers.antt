use Rattle.std.proofs.Common.{◌≡◌, refl, subst}
use Rattle.trace_command.proofs.Tellings.{run_tells, AtEnd}
use Rattle.trace_command.proofs.tracing.trace_walk.Goals as goal

pub returns-in-Ok-clause-trace : goal.returns-in-Ok-clause-trace
returns-in-Ok-clause-trace g c =
    let r = c.in-Ok.ensures.run in
    let t = run_tells (λ a. a.clock) (λ a. a.phase) (λ a. a.walk) (λ a. a.at) _ _ _ r.run refl tt in
    record {
      changes = r.changes;
      labels = r.labels;
      places = r.places;
      to = r.to.walk;
      time = r.to.at;
      items = t.0;
      ends = subst (λ phase. AtEnd phase r.to.walk) r.ends t.1;
      took = r.took;
    }
