use Rattle.claims_texts.proofs.Source_order.{labels_stand}
use Rattle.claims_texts.proofs.places.labels_stand_where_their_lines_do.Goals as goal

pub returns : goal.returns
returns c = labels_stand
