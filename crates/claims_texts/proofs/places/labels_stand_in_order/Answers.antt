use Rattle.claims_texts.proofs.Source_order.{labels_stand_in_order}
use Rattle.claims_texts.proofs.places.labels_stand_in_order.Goals as goal

pub returns : goal.returns
returns c = labels_stand_in_order
