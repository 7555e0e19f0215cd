use Rattle.evm_elf.proofs.Loaded.{words_loaded}
use Rattle.evm_elf.proofs.laws.words_are_loaded.Goals as goal

pub returns : goal.returns
returns c = words_loaded c.programs_fit.ensures c.words_stand.ensures
