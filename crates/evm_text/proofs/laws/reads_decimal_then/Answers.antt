use Rattle.evm_text.proofs.Parts.{reads_decimal_then}
use Rattle.evm_text.proofs.laws.reads_decimal_then.Goals as goal

pub returns : goal.returns
returns c = reads_decimal_then
