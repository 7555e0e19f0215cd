use Rattle.std.proofs.Common.{◌++◌}
use Rattle.trace_records.specs.Places.{place_line}
use Rattle.trace_records.proofs.Placing.{held_more}
use Rattle.trace_records.proofs.writing.write_place.Goals as goal

pub returns-in-Ok : goal.returns-in-Ok
returns-in-Ok g c start whole held =
    let line = place_line c.args.symbols.now.symbols c.args.place.now in
    c.write_kept.ensures start (whole ++ line) (held_more g.W.Sink.takes start c.args.sink.now whole line c.args.text.now c.push_place.new.out held c.in-Ok.ensures)
