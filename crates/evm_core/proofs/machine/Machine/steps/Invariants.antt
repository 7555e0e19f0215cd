use Rattle.std.proofs.Common.{◌≡◌}
use Rattle.evm_core.specs.Steps.{steps}
use Rattle.evm_core.proofs.machine.Machine.steps.Given as goal

abbrev pub invariant-loop-left : goal.invariant-loop-left
invariant-loop-left g l = record {
  others : steps l.c l.count l.fn.self ≡ steps l.c l.left l.self;
  booted : l.self.boot ≡ l.fn.self.boot;
}

abbrev pub decreases-loop-left : goal.decreases-loop-left
decreases-loop-left g l = l.left
