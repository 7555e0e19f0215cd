use Rattle.std.proofs.Common.{◌≡◌}
use Rattle.std.specs.Prelude.{replicate}
use Rattle.evm_model.specs.Pipes.{idle_pipe}
use Rattle.evm_core.proofs.booting.pipes_of.Given as goal

abbrev pub invariant-loop-c : goal.invariant-loop-c
invariant-loop-c l = l.pipes.items ≡ replicate l.c idle_pipe
