use Rattle.claims_texts.proofs.Labels_found.{labels_found}
use Rattle.claims_texts.proofs.places.all_labels_are_found.Goals as goal

pub returns : goal.returns
returns c = labels_found
