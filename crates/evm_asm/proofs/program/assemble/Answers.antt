use Rattle.evm_asm.proofs.Lines_worded.{program_worded, program_stands}
use Rattle.evm_asm.proofs.program.assemble.Goals as goal

pub returns-in-Ok-clause-words : goal.returns-in-Ok-clause-words
returns-in-Ok-clause-words c = program_worded (λ i w h. (c.encoded_by_table.ensures i w).0 h) c.args.source.now c.in-Ok.program c.in-Ok.ensures

pub returns-in-Ok-clause-placed : goal.returns-in-Ok-clause-placed
returns-in-Ok-clause-placed c = program_stands c.args.source.now c.in-Ok.program c.in-Ok.ensures
