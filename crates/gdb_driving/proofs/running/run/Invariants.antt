use Rattle.std.proofs.Common.{ℕ}
use Rattle.gdb_driving.specs.Kept.{KeepsJournal}
use Rattle.gdb_driving.proofs.running.run.Given as goal

abbrev pub invariant-parts : goal.invariant-parts
invariant-parts g l = KeepsJournal l.fn.machine l.machine

abbrev pub decreases-parts : goal.decreases-parts
decreases-parts g l = l.left
