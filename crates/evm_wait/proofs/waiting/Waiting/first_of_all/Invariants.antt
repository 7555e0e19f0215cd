use Rattle.std.proofs.Common.{◌≡◌}
use Rattle.evm_model.specs.Ranks.{first}
use Rattle.evm_ready.specs.Places.{entry}
use Rattle.evm_ready.specs.ListedRanks.{listed_rank}
use Rattle.evm_wait.specs.Waiters.{waiter_stamp, waits_for}
use Rattle.evm_wait.proofs.waiting.Waiting.first_of_all.Given as goal

-- the one that leads is the first of those so far
abbrev pub invariant-loop-t : goal.invariant-loop-t
invariant-loop-t l = l.leading ≡ first (λ t. waits_for l.wait (entry l.self.waiters t)) (listed_rank l.self.ranks) (λ t. waiter_stamp (entry l.self.waiters t)) l.t
