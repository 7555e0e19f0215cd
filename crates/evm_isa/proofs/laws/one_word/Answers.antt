use Rattle.evm_isa.proofs.Trips.{same_word}
use Rattle.evm_isa.proofs.laws.one_word.Goals as goal

pub returns : goal.returns
returns c = same_word
