use Rattle.std.proofs.Common.{◌≡◌, ◌≤◌, ◌+◌, ◌-◌, ◌*◌, length}
use Rattle.evm_lines.specs.declared.TheConstants.{LINES}
use Rattle.evm_model.specs.Bounds.{COUNT_LIMIT, PER_OOB_LINE, PER_OOB_LOG, PipesUpTo}
use Rattle.evm_model.specs.Settle.{play_oob_lines}
use Rattle.evm_settle.proofs.playing.play_oob_lines.Given as goal

-- what is left to play does what all the lines do at the start
abbrev pub invariant-playing : goal.invariant-playing
invariant-playing l = record {
  rest : play_oob_lines l.was l.c l.left l.parts ≡ play_oob_lines l.was l.c l.fn.lines l.fn.parts;
  few : length l.left ≤ LINES;
  room : PipesUpTo (COUNT_LIMIT - 2 * length l.left) l.parts.pipes;
  stamps : l.parts.stamps + PER_OOB_LINE * length l.left ≤ l.fn.parts.stamps + PER_OOB_LOG;
  clock : l.parts.ticks ≤ COUNT_LIMIT;
  notices : l.parts.notices.total + length l.left ≤ COUNT_LIMIT;
}

abbrev pub decreases-playing : goal.decreases-playing
decreases-playing l = length l.left
