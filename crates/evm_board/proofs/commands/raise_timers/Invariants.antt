use Rattle.std.proofs.Common.{◌≡◌, ◌+◌, ◌-◌}
use Rattle.evm_model.specs.Bounds.{COUNT_LIMIT, PipesUpTo}
use Rattle.evm_model.specs.declared.limits.TheConstants.{PROCESSOR_LIMIT}
use Rattle.evm_settle.proofs.Nudges.{changed_below}
use Rattle.evm_board.proofs.Ticks.{raise_timer}
use Rattle.evm_board.proofs.commands.raise_timers.Given as goal

-- line 0 of the processors below c is raised
abbrev pub invariant-loop-c : goal.invariant-loop-c
invariant-loop-c l = record {
  raised : l.parts ≡ record l.fn.parts { pipes = changed_below raise_timer l.c l.fn.parts.pipes };
  room : PipesUpTo (COUNT_LIMIT - PROCESSOR_LIMIT + l.c) l.parts.pipes;
}
