use Rattle.std.proofs.Common.{◌≡◌}
use Rattle.std.specs.Prelude.{◌⊎◌}
use Rattle.gdb_driving.specs.Driving.{EndsWithStep}
use Rattle.gdb_driving.specs.Kept.{KeepsJournal}
use Rattle.gdb_driving.proofs.stepping.step.Given as goal

abbrev pub invariant-lines : goal.invariant-lines
invariant-lines g l = record {
  kept : KeepsJournal l.fn.machine l.machine;
  stepped : (l._line ≡ 0) ⊎ EndsWithStep l.cpu l.machine;
}
