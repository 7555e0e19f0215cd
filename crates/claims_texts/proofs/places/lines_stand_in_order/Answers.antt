use Rattle.claims_texts.proofs.Source_order.{lines_stand_in_order}
use Rattle.claims_texts.proofs.places.lines_stand_in_order.Goals as goal

pub returns : goal.returns
returns c = lines_stand_in_order
