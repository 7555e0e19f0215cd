use Rattle.claims_texts.proofs.Each.{each_la_loads}
use Rattle.claims_texts.proofs.pseudo.each_la_loads.Goals as goal

pub returns : goal.returns
returns c = each_la_loads c.la_loads.ensures
