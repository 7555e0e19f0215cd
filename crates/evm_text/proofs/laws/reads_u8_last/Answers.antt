use Rattle.evm_text.proofs.Parts.{reads_u8_last}
use Rattle.evm_text.proofs.laws.reads_u8_last.Goals as goal

pub returns : goal.returns
returns c = reads_u8_last
