use Rattle.std.specs.String.{string_bytes}
use Rattle.trace_records.proofs.Placing.{held_to_end}
use Rattle.trace_records.proofs.writing.write_end.Goals as goal

pub returns-in-Ok : goal.returns-in-Ok
returns-in-Ok g c start whole held =
    held_to_end g.W.Sink.takes c.write_rest.result start c.args.sink.now c.write_rest.new.sink whole (string_bytes c.push_text.new.out) c.args.text.now held c.in-Ok.ensures.ok c.write_rest.ensures
