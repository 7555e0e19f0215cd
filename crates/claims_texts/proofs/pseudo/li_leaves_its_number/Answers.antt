use Rattle.claims_texts.proofs.Loaded.{li_leaves_its_number}
use Rattle.claims_texts.proofs.pseudo.li_leaves_its_number.Goals as goal

pub returns : goal.returns
returns c = li_leaves_its_number c.li_loads.ensures
