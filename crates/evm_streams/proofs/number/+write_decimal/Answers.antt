use Rattle.std.proofs.Common.{rules, [], ◌∷◌, ◌+◌, ◌-◌, ◌/◌, ◌%◌, ◌≤◌, arith}
use Rattle.std.proofs.lemmas.Result.{err_from_is_err_and}
use Rattle.evm_streams.specs.Writes.{Took, TookPrefix}
use Rattle.evm_text.specs.Written.{numeral}
use Rattle.evm_streams.proofs.Messages.{writes_then, writes_failed, written, numeral_small, numeral_large}
use Rattle.evm_streams.proofs.number.+write_decimal.Goals as goal

pub returns-then-number-lt10 : goal.returns-then-number-lt10
returns-then-number-lt10 g t c = rw (numeral_small c.args.behind c.args.number c.if-number-lt10.true) (written _ _ _ _ _ c.write_all.ensures)

pub returns : goal.returns
returns g t c =
    let large : 10 ≤ c.args.number = omega (arith, c.if-number-lt10.false) in
    let took : Took g.E.Sink.takes c.args.errors.now (numeral 10 (c.args.behind - 1) (c.args.number / 10)) c.write_decimal.new.errors = search rules in
    rw (numeral_large c.args.behind c.args.number c.requires large) (writes_then _ _ _ _ _ ((48 + c.args.number % 10) ∷ []) _ took (written _ _ _ _ _ c.write_all-2.ensures))

pub returns-in_err-write_decimal : goal.returns-in_err-write_decimal
returns-in_err-write_decimal g t c =
    let large : 10 ≤ c.args.number = omega (arith, c.if-number-lt10.false) in
    let failed : TookPrefix g.E.Sink.takes c.args.errors.now (numeral 10 (c.args.behind - 1) (c.args.number / 10)) c.write_decimal.new.errors = search rules in
    let p = err_from_is_err_and c.from_residual.result c.from_residual.ensures.1 in
    rw (numeral_large c.args.behind c.args.number c.requires large, p.1) (writes_failed _ _ _ _ ((48 + c.args.number % 10) ∷ []) failed)
