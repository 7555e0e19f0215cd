use Rattle.evm_dev.proofs.ByKind.{stay-touched}
use Rattle.evm_dev.proofs.laws.words_stay_of_their_kind.Goals as goal

pub returns-clause-touched : goal.returns-clause-touched
returns-clause-touched c = stay-touched
