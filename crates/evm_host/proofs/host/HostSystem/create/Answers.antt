use Rattle.evm_host.specs.Trusted.{trusted_create}
use Rattle.evm_host.proofs.host.HostSystem.create.Goals as goal

pub returns : goal.returns
returns c = trusted_create _ _ _ _
