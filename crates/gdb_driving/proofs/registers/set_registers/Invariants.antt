use Rattle.std.proofs.Common.{◌≡◌, ◌*◌, drop}
use Rattle.std.specs.Prelude.{Ok}
use Rattle.gdb_driving.specs.Kept.{KeepsJournal}
use Rattle.gdb_driving.specs.Setting.{MakesEach, register_changes}
use Rattle.gdb_driving.proofs.registers.set_registers.Given as goal

abbrev pub invariant-loop-r : goal.invariant-loop-r
invariant-loop-r g l = record {
  kept : KeepsJournal l.fn.machine l.machine;
  behind : l.rest ≡ drop (8 * l.r) l.bytes;
  made : MakesEach (register_changes l.r l.c l.hart l.bytes) (Ok tt) l.fn.machine l.machine;
}
