use Rattle.evm_isa.proofs.Trips.{decode_encoded}
use Rattle.evm_isa.proofs.laws.decode_of_encode.Goals as goal

pub returns : goal.returns
returns c = decode_encoded
