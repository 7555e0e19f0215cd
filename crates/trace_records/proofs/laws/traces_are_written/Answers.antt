use Rattle.trace_records.proofs.Traces.{written}
use Rattle.trace_records.proofs.laws.traces_are_written.Goals as goal

pub returns : goal.returns
returns c = written
