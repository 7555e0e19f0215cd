use Rattle.evm_asm.proofs.Lines_worded.{program_worded}
use Rattle.evm_asm.proofs.laws.lines_are_worded.Goals as goal

pub returns : goal.returns
returns c = program_worded (λ i w h. (c.encoded_by_table.ensures i w).0 h)
