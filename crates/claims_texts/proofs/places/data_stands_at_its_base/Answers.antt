use Rattle.claims_texts.proofs.Data_at_its_base.{data_at_base}
use Rattle.claims_texts.proofs.places.data_stands_at_its_base.Goals as goal

pub returns : goal.returns
returns c = data_at_base
