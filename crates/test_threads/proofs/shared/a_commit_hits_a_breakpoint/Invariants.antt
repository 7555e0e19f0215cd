use Rattle.evm_shared.specs.EventCounts.{kind_counts}
use Rattle.test_threads.proofs.shared.a_commit_hits_a_breakpoint.Given as goal

abbrev pub ghosts-hits_a_breakpoint-O-Origin : goal.ghosts-hits_a_breakpoint-O-Origin
ghosts-hits_a_breakpoint-O-Origin g a = record { start = a.machine; base = kind_counts a.machine.journal; machine = a.machine; book = a.blanks.history }

abbrev pub ghosts-hits_a_breakpoint-S-Ledger : goal.ghosts-hits_a_breakpoint-S-Ledger
ghosts-hits_a_breakpoint-S-Ledger g a = record { name = a.blanks.steps.name; parts = a.blanks.steps.parts }

abbrev pub ghosts-hits_a_breakpoint-B-Ledger : goal.ghosts-hits_a_breakpoint-B-Ledger
ghosts-hits_a_breakpoint-B-Ledger g a = record { name = a.blanks.bells.name; parts = a.blanks.bells.parts }

abbrev pub ghosts-hits_a_breakpoint-T-Ledger : goal.ghosts-hits_a_breakpoint-T-Ledger
ghosts-hits_a_breakpoint-T-Ledger g a = record { name = a.blanks.others.name; parts = a.blanks.others.parts }
