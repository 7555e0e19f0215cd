use Rattle.evm_asm.proofs.Lines_worded.{program_stands}
use Rattle.evm_asm.proofs.laws.words_stand.Goals as goal

pub returns : goal.returns
returns c = program_stands
