use Rattle.claims_texts.proofs.Data_there.{alignments_are_filled}
use Rattle.claims_texts.proofs.places.alignments_are_filled.Goals as goal

pub returns : goal.returns
returns c = alignments_are_filled
