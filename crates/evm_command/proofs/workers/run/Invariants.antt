use Rattle.evm_shared.specs.EventCounts.{kind_counts}
use Rattle.evm_command.proofs.workers.run.Given as goal

abbrev pub ghosts-share-O-Origin : goal.ghosts-share-O-Origin
ghosts-share-O-Origin g a = record { start = a.machine; base = kind_counts a.machine.journal; machine = a.machine; book = a.blanks.history }

abbrev pub ghosts-share-S-Ledger : goal.ghosts-share-S-Ledger
ghosts-share-S-Ledger g a = record { name = a.blanks.steps.name; parts = a.blanks.steps.parts }

abbrev pub ghosts-share-B-Ledger : goal.ghosts-share-B-Ledger
ghosts-share-B-Ledger g a = record { name = a.blanks.bells.name; parts = a.blanks.bells.parts }

abbrev pub ghosts-share-T-Ledger : goal.ghosts-share-T-Ledger
ghosts-share-T-Ledger g a = record { name = a.blanks.others.name; parts = a.blanks.others.parts }
