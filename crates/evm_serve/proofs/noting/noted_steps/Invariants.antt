use Rattle.std.proofs.Common.{◌≡◌, ◌+◌, ◌≤◌}
use Rattle.evm_diagnostics.specs.evm_core.Steps.{steps}
use Rattle.evm_serve.specs.Noting.{noted_steps}
use Rattle.evm_serve.proofs.noting.noted_steps.Given as goal

abbrev pub invariant-loop-left : goal.invariant-loop-left
invariant-loop-left g l = record {
  others : steps l.c l.count l.fn.machine ≡ steps l.c l.left l.machine;
  noted : noted_steps l.c l.count l.fn.machine l.fn.notes ≡ noted_steps l.c l.left l.machine l.notes;
  few : l.notes.swallowed + l.left ≤ l.count;
}

abbrev pub decreases-loop-left : goal.decreases-loop-left
decreases-loop-left g l = l.left
