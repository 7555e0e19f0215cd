use Rattle.claims_texts.proofs.Again.{writes_it_again}
use Rattle.claims_texts.proofs.replays.a_replayed_journal_is_written_again.Goals as goal

pub returns : goal.returns
returns c = writes_it_again
