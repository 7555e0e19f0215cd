use Rattle.std.proofs.Common.{◌≡◌, ◌+◌, ◌-◌}
use Rattle.evm_model.specs.Bounds.{COUNT_LIMIT, PipesUpTo}
use Rattle.evm_model.specs.Settle.{nudge_pipe}
use Rattle.evm_model.specs.declared.limits.TheConstants.{PROCESSOR_LIMIT}
use Rattle.evm_settle.proofs.Nudges.{changed_below}
use Rattle.evm_settle.proofs.nudging.nudge_others.Given as goal

-- the processors below d are told
abbrev pub invariant-loop-d : goal.invariant-loop-d
invariant-loop-d l = record {
  told : l.parts ≡ record l.fn.parts { pipes = changed_below (nudge_pipe l.c l.fn.parts) l.d l.fn.parts.pipes };
  room : PipesUpTo (COUNT_LIMIT - PROCESSOR_LIMIT + l.d) l.parts.pipes;
}
