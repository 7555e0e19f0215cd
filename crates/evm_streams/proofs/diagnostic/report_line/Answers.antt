use Rattle.evm_streams.proofs.Messages.{told_line}
use Rattle.evm_streams.proofs.diagnostic.report_line.Goals as goal

pub returns : goal.returns
returns g c = told_line _ _ _ c.args.name.now c.args.line _ c.write_about_line-written.ensures
