use Rattle.trace_records.proofs.Traces.{traces}
use Rattle.trace_records.proofs.laws.traces_are_json.Goals as goal

pub returns : goal.returns
returns c = traces
