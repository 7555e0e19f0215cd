use Rattle.evm_text.proofs.Parts.{reads_pairs_last}
use Rattle.evm_text.proofs.laws.reads_pairs_last.Goals as goal

pub returns : goal.returns
returns c = reads_pairs_last
