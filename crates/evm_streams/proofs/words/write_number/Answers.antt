use Rattle.evm_streams.proofs.Messages.{words_of}
use Rattle.evm_text.specs.Written.{decimal}
use Rattle.evm_streams.proofs.words.write_number.Goals as goal

pub returns-in-Decimal : goal.returns-in-Decimal
returns-in-Decimal g c = words_of _ _ _ (decimal c.in-Decimal.number) _ c.write_decimal.ensures
