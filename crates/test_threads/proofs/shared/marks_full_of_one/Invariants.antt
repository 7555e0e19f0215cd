use Rattle.evm_shared.specs.EventCounts.{kind_counts}
use Rattle.test_threads.proofs.shared.marks_full_of_one.Given as goal

abbrev pub ghosts-marks_full-O-Origin : goal.ghosts-marks_full-O-Origin
ghosts-marks_full-O-Origin g a = record { start = a.machine; base = kind_counts a.machine.journal; machine = a.machine; book = a.blanks.history }

abbrev pub ghosts-marks_full-S-Ledger : goal.ghosts-marks_full-S-Ledger
ghosts-marks_full-S-Ledger g a = record { name = a.blanks.steps.name; parts = a.blanks.steps.parts }

abbrev pub ghosts-marks_full-B-Ledger : goal.ghosts-marks_full-B-Ledger
ghosts-marks_full-B-Ledger g a = record { name = a.blanks.bells.name; parts = a.blanks.bells.parts }

abbrev pub ghosts-marks_full-T-Ledger : goal.ghosts-marks_full-T-Ledger
ghosts-marks_full-T-Ledger g a = record { name = a.blanks.others.name; parts = a.blanks.others.parts }
