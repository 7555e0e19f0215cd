use Rattle.evm_text.proofs.Parts.{reads_hexadecimal_then}
use Rattle.evm_text.proofs.laws.reads_hexadecimal_then.Goals as goal

pub returns : goal.returns
returns c = reads_hexadecimal_then
