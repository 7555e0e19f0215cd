use Rattle.evm_dev.proofs.ByKind.{raised}
use Rattle.evm_dev.proofs.laws.what_raises.Goals as goal

pub returns-clause-touched : goal.returns-clause-touched
returns-clause-touched c = raised
