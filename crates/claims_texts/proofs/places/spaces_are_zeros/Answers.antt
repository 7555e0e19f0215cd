use Rattle.claims_texts.proofs.Data_there.{spaces_are_zeros}
use Rattle.claims_texts.proofs.places.spaces_are_zeros.Goals as goal

pub returns : goal.returns
returns c = spaces_are_zeros
