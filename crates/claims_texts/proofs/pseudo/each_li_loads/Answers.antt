use Rattle.claims_texts.proofs.Each.{each_li_loads}
use Rattle.claims_texts.proofs.pseudo.each_li_loads.Goals as goal

pub returns : goal.returns
returns c = each_li_loads c.li_loads.ensures
