use Rattle.claims_texts.proofs.Each.{operands_are_in_range}
use Rattle.claims_texts.proofs.pseudo.operands_are_in_range.Goals as goal

pub returns : goal.returns
returns c = operands_are_in_range
