use Rattle.evm_asm.proofs.Programs_as_meant.{all_there}
use Rattle.evm_asm.proofs.laws.all_that_is_meant_stands.Goals as goal

pub returns : goal.returns
returns c = λ source p h n address i m. all_there source n address i m p h
