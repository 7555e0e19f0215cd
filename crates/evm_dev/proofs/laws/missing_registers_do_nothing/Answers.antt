use Rattle.evm_dev.proofs.ByKind.{missing, there}
use Rattle.evm_dev.proofs.laws.missing_registers_do_nothing.Goals as goal

pub returns-clause-missing : goal.returns-clause-missing
returns-clause-missing c = missing

pub returns-clause-there : goal.returns-clause-there
returns-clause-there c = there
