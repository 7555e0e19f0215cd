use Rattle.claims_texts.proofs.Items_worded.{spelling_never_fails}
use Rattle.claims_texts.proofs.words.spelling_never_fails.Goals as goal

pub returns : goal.returns
returns c = spelling_never_fails
