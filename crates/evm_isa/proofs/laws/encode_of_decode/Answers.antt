use Rattle.evm_isa.proofs.Trips.{encode_decoded}
use Rattle.evm_isa.proofs.laws.encode_of_decode.Goals as goal

pub returns : goal.returns
returns c = encode_decoded
