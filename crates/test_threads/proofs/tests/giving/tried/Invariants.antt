use Rattle.evm_shared.specs.EventCounts.{kind_counts}
use Rattle.test_threads.proofs.tests.giving.tried.Given as goal

abbrev pub ghosts-shared_once-O-Origin : goal.ghosts-shared_once-O-Origin
ghosts-shared_once-O-Origin g a = record { start = a.machine; base = kind_counts a.machine.journal; machine = a.machine; book = a.blanks.history }

abbrev pub ghosts-shared_once-S-Ledger : goal.ghosts-shared_once-S-Ledger
ghosts-shared_once-S-Ledger g a = record { name = a.blanks.steps.name; parts = a.blanks.steps.parts }

abbrev pub ghosts-shared_once-B-Ledger : goal.ghosts-shared_once-B-Ledger
ghosts-shared_once-B-Ledger g a = record { name = a.blanks.bells.name; parts = a.blanks.bells.parts }

abbrev pub ghosts-shared_once-T-Ledger : goal.ghosts-shared_once-T-Ledger
ghosts-shared_once-T-Ledger g a = record { name = a.blanks.others.name; parts = a.blanks.others.parts }
