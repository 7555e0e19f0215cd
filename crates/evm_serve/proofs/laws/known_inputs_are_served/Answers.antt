use Rattle.evm_serve.proofs.Known.{serves_known}
use Rattle.evm_serve.proofs.laws.known_inputs_are_served.Goals as goal

pub returns : goal.returns
returns g c = serves_known g.R.Read.remaining g.W.Write.contents
