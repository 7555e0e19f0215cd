use Rattle.std.proofs.Common.{rules}
use Rattle.evm_streams.specs.Diagnostic.{TookWords}
use Rattle.evm_streams.proofs.Messages.{words_none, words_then}
use Rattle.evm_streams.proofs.excerpt.+write_escaped.Goals as goal

pub returns-in_default : goal.returns-in_default
returns-in_default g t c = words_none _ _

pub returns : goal.returns
returns g t c =
    let took : TookWords g.E.Sink.takes c.args.errors.now c.write_byte.new.errors = search rules in
    words_then _ _ _ _ _ took c.write_escaped.ensures
