use Rattle.std.proofs.Common.{◌≡◌, ◌<◌, ℕ, Some, true, length}
use Rattle.gdb_driving.specs.Driving.{stop_bit}
use Rattle.gdb_driving.specs.Kept.{KeepsJournal}
use Rattle.gdb_driving.proofs.driving.stop_all.Given as goal

abbrev pub invariant-loop-c : goal.invariant-loop-c
invariant-loop-c g l = record {
  kept : KeepsJournal l.fn.machine l.machine;
  count : length l.machine.board.parts.processors ≡ length l.fn.machine.board.parts.processors;
  below : (k : ℕ) → k < l.c → stop_bit k l.machine ≡ Some true;
}
