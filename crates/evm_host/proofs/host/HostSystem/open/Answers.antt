use Rattle.evm_host.specs.Trusted.{trusted_open}
use Rattle.evm_host.proofs.host.HostSystem.open.Goals as goal

pub returns : goal.returns
returns c = trusted_open _ _ _ _
