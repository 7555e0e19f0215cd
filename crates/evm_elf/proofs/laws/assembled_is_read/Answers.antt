use Rattle.evm_elf.proofs.Loaded.{assembled_read}
use Rattle.evm_elf.proofs.laws.assembled_is_read.Goals as goal

pub returns : goal.returns
returns c = assembled_read c.programs_fit.ensures
