use Rattle.std.proofs.Common.{◌≡◌, None}
use Rattle.std.specs.Prelude.{replicate}
use Rattle.evm_model.specs.State.{first_processor}
use Rattle.evm_core.proofs.booting.processors_of.Given as goal

abbrev pub invariant-loop-c : goal.invariant-loop-c
invariant-loop-c l = l.processors.items ≡ replicate l.c (first_processor None)
