use Rattle.evm_text.proofs.Words.{after_word-tested}
use Rattle.evm_text.proofs.reading.after_word.Goals as goal

pub returns : goal.returns
returns c = after_word-tested c.strip_prefix.result c.args.word.now c.args.bytes.now c.strip_prefix.ensures.cases
