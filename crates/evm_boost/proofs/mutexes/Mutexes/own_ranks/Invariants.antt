use Rattle.std.proofs.Common.{◌≡◌, length}
use Rattle.evm_model.specs.Mutexes.{ceiling_owner, ceiling}
use Rattle.evm_boost.specs.Scatter.{filled, scatter, class_rank_at}
use Rattle.evm_boost.proofs.mutexes.Mutexes.own_ranks.Given as goal

-- the mutexes below m have raised their owners
abbrev pub invariant-loop-m : goal.invariant-loop-m
invariant-loop-m l = l.ranks ≡ scatter (ceiling_owner l.self) (ceiling l.self) (filled (class_rank_at l.tasks) l.fn.ranks (length l.tasks)) l.m
