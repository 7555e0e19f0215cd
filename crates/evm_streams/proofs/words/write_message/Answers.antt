use Rattle.std.proofs.Common.{rules}
use Rattle.evm_streams.specs.Diagnostic.{TookWords}
use Rattle.evm_streams.proofs.Messages.{words_then}
use Rattle.evm_streams.proofs.words.write_message.Goals as goal

pub returns-in_ok-write_counted-in-WithTwo : goal.returns-in_ok-write_counted-in-WithTwo
returns-in_ok-write_counted-in-WithTwo g c =
    let took : TookWords g.E.Sink.takes c.args.errors.now c.write_counted.new.errors = search rules in
    words_then _ _ _ _ _ took c.write_with_one-in-WithTwo.ensures
