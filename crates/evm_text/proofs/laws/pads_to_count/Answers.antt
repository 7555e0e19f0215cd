use Rattle.evm_text.proofs.RoundTrips.{pads_to_count}
use Rattle.evm_text.proofs.laws.pads_to_count.Goals as goal

pub returns : goal.returns
returns c = pads_to_count
