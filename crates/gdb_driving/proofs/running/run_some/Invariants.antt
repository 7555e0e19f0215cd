use Rattle.gdb_driving.specs.Kept.{KeepsJournal}
use Rattle.gdb_driving.proofs.running.run_some.Given as goal

abbrev pub invariant-steps : goal.invariant-steps
invariant-steps g l = KeepsJournal l.fn.machine l.machine
