use Rattle.std.proofs.Common.{◌≡◌, ◌++◌}
use Rattle.gdb_driving.specs.Shown.{register_texts}
use Rattle.gdb_driving.proofs.registers.push_registers.Given as goal

abbrev pub invariant-loop-r : goal.invariant-loop-r
invariant-loop-r l = l.out.items ≡ l.fn.out.items ++ register_texts l.r l.hart
