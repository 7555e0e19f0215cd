use Rattle.evm_streams.proofs.Messages.{told}
use Rattle.evm_streams.proofs.diagnostic.report.Goals as goal

pub returns : goal.returns
returns g c = told _ _ _ c.args.name.now _ c.write_about-written.ensures
