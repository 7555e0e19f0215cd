use Rattle.evm_text.proofs.Parts.{reads_hexadecimal_last}
use Rattle.evm_text.proofs.laws.reads_hexadecimal_last.Goals as goal

pub returns : goal.returns
returns c = reads_hexadecimal_last
