use Rattle.evm_text.proofs.Rows.{reads_values}
use Rattle.evm_text.proofs.laws.reads_values.Goals as goal

pub returns : goal.returns
returns c = reads_values
