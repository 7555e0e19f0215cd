use Rattle.claims_texts.proofs.Sparing.{a_line_stays}
use Rattle.claims_texts.proofs.staying.a_line_stays.Goals as goal

pub returns : goal.returns
returns c = a_line_stays
