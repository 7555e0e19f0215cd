use Rattle.std.proofs.Common.{◌≡◌, length}
use Rattle.evm_asm.specs.Views.{view}
use Rattle.evm_asm.specs.Programs.{spelled, nothing_spelled}
use Rattle.evm_asm.proofs.output.spell.Given as goal

abbrev pub invariant-loop-rest : goal.invariant-loop-rest
invariant-loop-rest l = spelled l.rest (view l.out) ≡ spelled l.items nothing_spelled

abbrev pub decreases-loop-rest : goal.decreases-loop-rest
decreases-loop-rest l = length l.rest
