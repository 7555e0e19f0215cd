use Rattle.trace_records.proofs.Follows.{notes_kept}
use Rattle.trace_records.proofs.laws.notes_are_kept.Goals as goal

pub returns : goal.returns
returns c = notes_kept
