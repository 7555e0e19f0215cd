use Rattle.std.proofs.Common.{◌≡◌, ◌≤◌, ◌-◌, false, length}
use Rattle.evm_boost.specs.Scatter.{next_ranks, ranks_after}
use Rattle.evm_model.specs.declared.limits.TheConstants.{TASK_LIMIT}
use Rattle.evm_boost.proofs.mutexes.Mutexes.ranks.Given as goal

-- so many rounds are made, or the last one changed nothing
abbrev pub invariant-loop-moves : goal.invariant-loop-moves
invariant-loop-moves l = record {
  after : l.now ≡ ranks_after l.self l.tasks l.own l.rounds;
  few : l.rounds ≤ TASK_LIMIT;
  ended : l.moves ≡ false → next_ranks l.self l.tasks l.own l.now ≡ l.now;
  long : length l.now ≡ TASK_LIMIT;
}

abbrev pub decreases-loop-moves : goal.decreases-loop-moves
decreases-loop-moves l = TASK_LIMIT - l.rounds
