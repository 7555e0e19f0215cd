use Rattle.evm_streams.proofs.Messages.{words_written}
use Rattle.evm_streams.proofs.words.write_words.Goals as goal

pub returns : goal.returns
returns g c = words_written _ _ _ c.args.words.now _ c.write_all.ensures
