use Rattle.claims_texts.proofs.Data_there.{number_there}
use Rattle.claims_texts.proofs.places.numbers_stand_where_they_are_meant.Goals as goal

pub returns : goal.returns
returns c = λ source p h n k width value has. number_there source n k width value has p h
