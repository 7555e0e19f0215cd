use Rattle.claims_texts.proofs.Printing.{prints_its_journal}
use Rattle.claims_texts.proofs.Scripts.{shows_its_machine}
use Rattle.claims_texts.proofs.replays.a_printed_journal_shows_its_machine.Goals as goal

pub returns : goal.returns
returns c = record { prints = prints_its_journal; shows = shows_its_machine }
