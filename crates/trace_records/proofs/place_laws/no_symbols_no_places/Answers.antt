use Rattle.trace_records.proofs.Placing.{nothing_added}
use Rattle.trace_records.proofs.place_laws.no_symbols_no_places.Goals as goal

pub returns : goal.returns
returns c = nothing_added
