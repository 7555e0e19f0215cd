use Rattle.claims_texts.proofs.Items_worded.{every_item_has_its_word}
use Rattle.claims_texts.proofs.words.every_item_has_its_word.Goals as goal

pub returns : goal.returns
returns c = every_item_has_its_word
