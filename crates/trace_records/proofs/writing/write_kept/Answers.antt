use Rattle.trace_records.proofs.Placing.{held_on}
use Rattle.trace_records.proofs.writing.write_kept.Goals as goal

pub returns-in-Ok : goal.returns-in-Ok
returns-in-Ok g c start whole held =
    held_on g.W.Sink.takes start c.args.sink.now c.flush.new.sink whole c.args.text.now c.flush.new.text held c.in-Ok.ensures.took c.in-Ok.ensures.text
