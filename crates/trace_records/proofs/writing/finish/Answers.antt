use Rattle.std.proofs.Common.{◌++◌}
use Rattle.trace_records.specs.Entries.{start_text, record_lines}
use Rattle.trace_records.specs.Changes.{no_spans, records_of, in_order}
use Rattle.trace_records.proofs.Placing.{held_of, placed, took_of}
use Rattle.trace_records.proofs.writing.finish.Goals as goal

pub returns-clause-placed : goal.returns-clause-placed
returns-clause-placed g c start telling =
    let told = telling.0 in
    placed g.W.Sink.takes c.write_to_end.result start c.write_to_end.new.sink told c.args.tail.now.labels.now c.args.tail.now.symbols.now.symbols c.args.tail.now.places.now telling.1.fits c.fit_labels.ensures c.fit_places.ensures
    (c.write_to_end.ensures start (start_text ++ record_lines (records_of no_spans (in_order 0 told))) (held_of g.W.Sink.takes start c.args.sink.now c.args.trace.now told telling.1))

pub returns-clause-took : goal.returns-clause-took
returns-clause-took g c start told tells =
    took_of g.W.Sink.takes c.write_to_end.result start c.write_to_end.new.sink told c.args.tail.now.labels.now c.args.tail.now.symbols.now.symbols c.args.tail.now.places.now
    (c.write_to_end.ensures start (start_text ++ record_lines (records_of no_spans (in_order 0 told))) (held_of g.W.Sink.takes start c.args.sink.now c.args.trace.now told tells))
