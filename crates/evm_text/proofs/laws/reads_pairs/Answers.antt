use Rattle.evm_text.proofs.RoundTrips.{reads_pairs}
use Rattle.evm_text.proofs.laws.reads_pairs.Goals as goal

pub returns : goal.returns
returns c = reads_pairs
