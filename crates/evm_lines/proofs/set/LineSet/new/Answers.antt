use Rattle.evm_lines.specs.Laws.{lines_of-zero}
use Rattle.evm_lines.proofs.set.LineSet.new.Goals as goal

pub returns : goal.returns
returns c = lines_of-zero
