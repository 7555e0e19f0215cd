use Rattle.std.proofs.Common.{rules, List, ℕ, ◌++◌, codes}
use Rattle.std.proofs.lemmas.Result.{err_from_is_err_and}
use Rattle.evm_streams.specs.Writes.{Took, TookPrefix}
use Rattle.evm_text.specs.Written.{decimal}
use Rattle.evm_streams.specs.Diagnostic.{behind_place}
use Rattle.evm_streams.proofs.Messages.{some_then, some_failed}
use Rattle.evm_streams.proofs.diagnostic.write_about_line.Goals as goal

pub returns : goal.returns
returns g c =
    let took : Took g.E.Sink.takes c.args.errors.now c.args.name.now c.write_all.new.sink = search rules in
    some_then _ _ _ _ c.args.name.now (λ (words : List ℕ). codes ":" ++ (decimal c.args.line ++ behind_place words)) _ took c.write_line.ensures

pub returns-in_err-write_all : goal.returns-in_err-write_all
returns-in_err-write_all g c =
    let failed : TookPrefix g.E.Sink.takes c.args.errors.now c.args.name.now c.write_all.new.sink = search rules in
    let p = err_from_is_err_and c.from_residual.result c.from_residual.ensures.1 in
    rw p.1 (some_failed _ _ _ c.args.name.now (λ (words : List ℕ). codes ":" ++ (decimal c.args.line ++ behind_place words)) failed)
