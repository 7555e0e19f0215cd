use Rattle.claims_texts.proofs.Data_at_its_base.{lines_stand}
use Rattle.claims_texts.proofs.places.lines_stand_where_they_are_meant.Goals as goal

pub returns : goal.returns
returns c = lines_stand
