use Rattle.evm_text.proofs.RoundTrips.{reads_hexadecimals}
use Rattle.evm_text.proofs.laws.reads_hexadecimals.Goals as goal

pub returns : goal.returns
returns c = reads_hexadecimals
