use Rattle.evm_debug.proofs.Lines.{reads_lines}
use Rattle.evm_debug.proofs.laws.reads_lines.Goals as goal

pub returns : goal.returns
returns c = reads_lines
