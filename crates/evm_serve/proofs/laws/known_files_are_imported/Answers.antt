use Rattle.evm_serve.proofs.Known.{imports_known}
use Rattle.evm_serve.proofs.laws.known_files_are_imported.Goals as goal

pub returns : goal.returns
returns g c = imports_known g.R.Read.remaining g.W.Write.contents
