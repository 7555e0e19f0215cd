use Rattle.std.proofs.Common.{rules}
use Rattle.evm_streams.specs.Diagnostic.{TookWords}
use Rattle.evm_streams.proofs.Messages.{words_then}
use Rattle.evm_streams.proofs.words.write_with_one.Goals as goal

pub returns : goal.returns
returns g c =
    let took : TookWords g.E.Sink.takes c.args.errors.now c.write_counted.new.errors = search rules in
    words_then _ _ _ _ _ took c.write_words.ensures
