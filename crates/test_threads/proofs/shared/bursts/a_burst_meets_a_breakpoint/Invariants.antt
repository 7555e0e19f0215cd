use Rattle.evm_shared.specs.EventCounts.{kind_counts}
use Rattle.test_threads.proofs.shared.bursts.a_burst_meets_a_breakpoint.Given as goal

abbrev pub ghosts-breaks_a_burst_of-O-Origin : goal.ghosts-breaks_a_burst_of-O-Origin
ghosts-breaks_a_burst_of-O-Origin g a = record { start = a.machine; base = kind_counts a.machine.journal; machine = a.machine; book = a.blanks.history }

abbrev pub ghosts-breaks_a_burst_of-S-Ledger : goal.ghosts-breaks_a_burst_of-S-Ledger
ghosts-breaks_a_burst_of-S-Ledger g a = record { name = a.blanks.steps.name; parts = a.blanks.steps.parts }

abbrev pub ghosts-breaks_a_burst_of-B-Ledger : goal.ghosts-breaks_a_burst_of-B-Ledger
ghosts-breaks_a_burst_of-B-Ledger g a = record { name = a.blanks.bells.name; parts = a.blanks.bells.parts }

abbrev pub ghosts-breaks_a_burst_of-T-Ledger : goal.ghosts-breaks_a_burst_of-T-Ledger
ghosts-breaks_a_burst_of-T-Ledger g a = record { name = a.blanks.others.name; parts = a.blanks.others.parts }
