use Rattle.evm_asm.proofs.Programs_as_meant.{program_fits}
use Rattle.evm_asm.proofs.laws.programs_fit.Goals as goal

pub returns : goal.returns
returns c = program_fits
