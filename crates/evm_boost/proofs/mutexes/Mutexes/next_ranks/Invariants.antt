use Rattle.std.proofs.Common.{◌≡◌}
use Rattle.evm_model.specs.Mutexes.{boosts}
use Rattle.evm_ready.specs.ListedRanks.{listed_rank}
use Rattle.evm_boost.specs.Scatter.{scatter}
use Rattle.evm_boost.proofs.mutexes.Mutexes.next_ranks.Given as goal

-- the tasks below u have raised those that they boost
abbrev pub invariant-loop-u : goal.invariant-loop-u
invariant-loop-u l = l.ranks ≡ scatter (boosts l.self l.tasks) (listed_rank l.now) l.fn.ranks l.u
