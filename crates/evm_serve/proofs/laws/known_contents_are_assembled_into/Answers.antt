use Rattle.evm_serve.proofs.Known.{assembles_known}
use Rattle.evm_serve.proofs.laws.known_contents_are_assembled_into.Goals as goal

pub returns : goal.returns
returns g c = assembles_known g.W.Write.contents g.T.Write.contents
