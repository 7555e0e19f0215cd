use Rattle.evm_text.proofs.Parts.{reads_u8_then}
use Rattle.evm_text.proofs.laws.reads_u8_then.Goals as goal

pub returns : goal.returns
returns c = reads_u8_then
