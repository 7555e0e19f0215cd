use Rattle.evm_serve.proofs.Known.{serves_known_text}
use Rattle.evm_serve.proofs.laws.known_texts_are_served.Goals as goal

pub returns : goal.returns
returns g c = serves_known_text g.R.Read.remaining g.W.Write.contents
