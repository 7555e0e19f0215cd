use Rattle.std.proofs.Common.{◌++◌}
use Rattle.trace_records.specs.Labels.{label_line}
use Rattle.trace_records.proofs.Placing.{held_more}
use Rattle.trace_records.proofs.writing.write_label.Goals as goal

pub returns-in-Ok : goal.returns-in-Ok
returns-in-Ok g c start whole held =
    let line = label_line c.args.label.now in
    c.write_kept.ensures start (whole ++ line) (held_more g.W.Sink.takes start c.args.sink.now whole line c.args.text.now c.push_label.new.out held c.in-Ok.ensures)
