use Rattle.evm_shared.specs.EventCounts.{kind_counts}
use Rattle.bench_machine.proofs.workers.turns.Given as goal

abbrev pub ghosts-turns_by-O-Origin : goal.ghosts-turns_by-O-Origin
ghosts-turns_by-O-Origin g a = record { start = a.machine; base = kind_counts a.machine.journal; machine = a.machine; book = a.blanks.history }

abbrev pub ghosts-turns_by-S-Ledger : goal.ghosts-turns_by-S-Ledger
ghosts-turns_by-S-Ledger g a = record { name = a.blanks.steps.name; parts = a.blanks.steps.parts }

abbrev pub ghosts-turns_by-B-Ledger : goal.ghosts-turns_by-B-Ledger
ghosts-turns_by-B-Ledger g a = record { name = a.blanks.bells.name; parts = a.blanks.bells.parts }

abbrev pub ghosts-turns_by-T-Ledger : goal.ghosts-turns_by-T-Ledger
ghosts-turns_by-T-Ledger g a = record { name = a.blanks.others.name; parts = a.blanks.others.parts }
