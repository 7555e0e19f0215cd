use Rattle.evm_text.proofs.RoundTrips.{pads_with_zeros}
use Rattle.evm_text.proofs.laws.pads_with_zeros.Goals as goal

pub returns : goal.returns
returns c = pads_with_zeros
