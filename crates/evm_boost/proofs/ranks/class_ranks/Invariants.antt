use Rattle.std.proofs.Common.{◌≡◌}
use Rattle.evm_boost.specs.Scatter.{filled, class_rank_at}
use Rattle.evm_boost.proofs.ranks.class_ranks.Given as goal

-- those below t are filled
abbrev pub invariant-loop-t : goal.invariant-loop-t
invariant-loop-t l = l.ranks ≡ filled (class_rank_at l.tasks) l.fn.ranks l.t
