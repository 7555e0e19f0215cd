use Rattle.evm_shared.specs.EventCounts.{kind_counts}
use Rattle.test_workers.proofs.rings.run_rings.Given as goal

abbrev pub ghosts-seen-O-Origin : goal.ghosts-seen-O-Origin
ghosts-seen-O-Origin g a = record { start = a.machine; base = kind_counts a.machine.journal; machine = a.machine; book = a.blanks.history }

abbrev pub ghosts-seen-S-Ledger : goal.ghosts-seen-S-Ledger
ghosts-seen-S-Ledger g a = record { name = a.blanks.steps.name; parts = a.blanks.steps.parts }

abbrev pub ghosts-seen-B-Ledger : goal.ghosts-seen-B-Ledger
ghosts-seen-B-Ledger g a = record { name = a.blanks.bells.name; parts = a.blanks.bells.parts }

abbrev pub ghosts-seen-T-Ledger : goal.ghosts-seen-T-Ledger
ghosts-seen-T-Ledger g a = record { name = a.blanks.others.name; parts = a.blanks.others.parts }
