use Rattle.std.proofs.Common.{◌≡◌, ◌≤◌, ◌-◌, ◌*◌, length}
use Rattle.evm_lines.specs.declared.TheConstants.{LINES}
use Rattle.evm_model.specs.Bounds.{COUNT_LIMIT, HasStamps, PipesUpTo}
use Rattle.evm_model.specs.Settle.{play_in_band_lines}
use Rattle.evm_model.specs.declared.limits.TheConstants.{TASK_LIMIT}
use Rattle.evm_settle.proofs.playing.play_in_band_lines.Given as goal

-- what is left to play does what all the lines do at the start
abbrev pub invariant-playing : goal.invariant-playing
invariant-playing l = record {
  rest : play_in_band_lines l.c l.left l.parts ≡ play_in_band_lines l.c l.fn.lines l.fn.parts;
  few : length l.left ≤ LINES;
  room : PipesUpTo (COUNT_LIMIT - length l.left) l.parts.pipes;
  stamps : HasStamps (TASK_LIMIT * length l.left) l.parts;
}

abbrev pub decreases-playing : goal.decreases-playing
decreases-playing l = length l.left
