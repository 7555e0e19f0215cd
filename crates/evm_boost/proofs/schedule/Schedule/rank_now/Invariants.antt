use Rattle.std.proofs.Common.{◌≡◌, length}
use Rattle.evm_boost.specs.Lent.{lent_rank}
use Rattle.evm_boost.specs.Owning.{greatest_of, owned_by}
use Rattle.evm_boost.specs.Scatter.{class_rank_at}
use Rattle.evm_model.specs.Mutexes.{owner}
use Rattle.evm_boost.proofs.schedule.Schedule.rank_now.Given as goal

-- the rank and those that are left make what the class and all of them make
abbrev pub invariant-lending : goal.invariant-lending
invariant-lending l = greatest_of (lent_rank l.self l.mutexes) l.rank l.left ≡ greatest_of (lent_rank l.self l.mutexes) (class_rank_at l.tasks l.t) (owned_by (owner l.mutexes) l.t)

abbrev pub decreases-lending : goal.decreases-lending
decreases-lending l = length l.left
