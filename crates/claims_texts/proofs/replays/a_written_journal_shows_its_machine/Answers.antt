use Rattle.std.specs.String.{string_bytes}
use Rattle.claims_texts.proofs.Written.{shows_again}
use Rattle.claims_texts.proofs.replays.a_written_journal_shows_its_machine.Goals as goal

pub returns-in-Ok-clause-again : goal.returns-in-Ok-clause-again
returns-in-Ok-clause-again g c = shows_again (string_bytes c.in-Ok.text) c.args.machine.now c.in-Ok.ensures.written c.replays_saved.ensures
