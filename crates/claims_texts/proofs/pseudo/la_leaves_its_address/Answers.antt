use Rattle.claims_texts.proofs.Loaded.{la_leaves_its_address}
use Rattle.claims_texts.proofs.pseudo.la_leaves_its_address.Goals as goal

pub returns : goal.returns
returns c = la_leaves_its_address c.la_loads.ensures
