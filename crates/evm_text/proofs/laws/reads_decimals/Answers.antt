use Rattle.evm_text.proofs.RoundTrips.{reads_decimals}
use Rattle.evm_text.proofs.laws.reads_decimals.Goals as goal

pub returns : goal.returns
returns c = reads_decimals
