use Rattle.evm_shared.specs.EventCounts.{kind_counts}
use Rattle.test_threads.proofs.shared.refuses_sharing.Given as goal

abbrev pub ghosts-comes_back-O-Origin : goal.ghosts-comes_back-O-Origin
ghosts-comes_back-O-Origin a = record { start = a.machine; base = kind_counts a.machine.journal; machine = a.machine; book = a.blanks.history }

abbrev pub ghosts-comes_back-S-Ledger : goal.ghosts-comes_back-S-Ledger
ghosts-comes_back-S-Ledger a = record { name = a.blanks.steps.name; parts = a.blanks.steps.parts }

abbrev pub ghosts-comes_back-B-Ledger : goal.ghosts-comes_back-B-Ledger
ghosts-comes_back-B-Ledger a = record { name = a.blanks.bells.name; parts = a.blanks.bells.parts }

abbrev pub ghosts-comes_back-T-Ledger : goal.ghosts-comes_back-T-Ledger
ghosts-comes_back-T-Ledger a = record { name = a.blanks.others.name; parts = a.blanks.others.parts }
