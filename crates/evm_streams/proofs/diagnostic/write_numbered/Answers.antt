use Rattle.std.proofs.Common.{rules, List, ℕ}
use Rattle.std.proofs.lemmas.Result.{err_from_is_err_and}
use Rattle.evm_streams.specs.Writes.{Took, TookPrefix}
use Rattle.evm_text.specs.Written.{decimal}
use Rattle.evm_streams.specs.Diagnostic.{behind_place}
use Rattle.evm_streams.proofs.Messages.{some_then, some_failed}
use Rattle.evm_streams.proofs.diagnostic.write_numbered.Goals as goal

pub returns : goal.returns
returns g c =
    let took : Took g.E.Sink.takes c.args.errors.now (decimal c.args.line) c.write_decimal.new.errors = search rules in
    some_then _ _ _ _ (decimal c.args.line) (λ (words : List ℕ). behind_place words) _ took c.write_behind.ensures

pub returns-in_err-write_decimal : goal.returns-in_err-write_decimal
returns-in_err-write_decimal g c =
    let failed : TookPrefix g.E.Sink.takes c.args.errors.now (decimal c.args.line) c.write_decimal.new.errors = search rules in
    let p = err_from_is_err_and c.from_residual.result c.from_residual.ensures.1 in
    rw p.1 (some_failed _ _ _ (decimal c.args.line) (λ (words : List ℕ). behind_place words) failed)
