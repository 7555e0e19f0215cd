use Rattle.evm_text.proofs.RoundTrips.{reads_words}
use Rattle.evm_text.proofs.laws.reads_words.Goals as goal

pub returns : goal.returns
returns c = reads_words
