use Rattle.evm_shared.specs.EventCounts.{kind_counts}
use Rattle.test_threads.proofs.tests.outcome_of.Given as goal

abbrev pub ghosts-play_on-O-Origin : goal.ghosts-play_on-O-Origin
ghosts-play_on-O-Origin g a = record { start = a.machine; base = kind_counts a.machine.journal; machine = a.machine; book = a.blanks.history }

abbrev pub ghosts-play_on-S-Ledger : goal.ghosts-play_on-S-Ledger
ghosts-play_on-S-Ledger g a = record { name = a.blanks.steps.name; parts = a.blanks.steps.parts }

abbrev pub ghosts-play_on-B-Ledger : goal.ghosts-play_on-B-Ledger
ghosts-play_on-B-Ledger g a = record { name = a.blanks.bells.name; parts = a.blanks.bells.parts }

abbrev pub ghosts-play_on-T-Ledger : goal.ghosts-play_on-T-Ledger
ghosts-play_on-T-Ledger g a = record { name = a.blanks.others.name; parts = a.blanks.others.parts }
