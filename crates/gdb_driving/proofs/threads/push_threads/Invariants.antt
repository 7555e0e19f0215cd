use Rattle.std.proofs.Common.{◌≡◌, ◌++◌}
use Rattle.gdb_driving.specs.Shown.{thread_texts}
use Rattle.gdb_driving.proofs.threads.push_threads.Given as goal

abbrev pub invariant-loop-t : goal.invariant-loop-t
invariant-loop-t l = l.out.items ≡ l.initial.out.items ++ thread_texts l.t
