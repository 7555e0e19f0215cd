use Rattle.std.proofs.Common.{rules}
use Rattle.std.proofs.lemmas.Result.{err_from_is_err_and}
use Rattle.evm_streams.specs.Diagnostic.{TookWords, TookPart}
use Rattle.evm_streams.proofs.Messages.{line_then, line_failed, written}
use Rattle.evm_streams.proofs.diagnostic.write_diagnostic_line.Goals as goal

pub returns : goal.returns
returns g c =
    let took : TookWords g.E.Sink.takes c.args.errors.now c.write_diagnostic.new.errors = search rules in
    line_then _ _ _ _ _ took (written _ _ _ _ _ c.write_all.ensures)

pub returns-in_err-write_diagnostic : goal.returns-in_err-write_diagnostic
returns-in_err-write_diagnostic g c =
    let failed : TookPart g.E.Sink.takes c.args.errors.now c.write_diagnostic.new.errors = search rules in
    let p = err_from_is_err_and c.from_residual.result c.from_residual.ensures.1 in
    rw p.1 (line_failed _ _ _ failed)
