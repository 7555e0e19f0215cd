use Rattle.std.proofs.Common.{◌≡◌, ℕ, ◌<◌, List, length}
use Rattle.law_rules.specs.Ranking.{RoundsSettle, SettledIsOne}
use Rattle.evm_model.specs.Boosts.{IsSettledRank}
use Rattle.evm_model.specs.Good.{AreLocks}
use Rattle.evm_model.specs.Mutexes.{boosts}
use Rattle.evm_model.specs.Ranks.{own_rank, rank}
use Rattle.evm_model.specs.declared.limits.TheConstants.{TASK_LIMIT}
use Rattle.evm_model.specs.declared.mutex.Mutex.{Mutex}
use Rattle.evm_model.specs.declared.task.Task.{Task}
use Rattle.claims_machine.proofs.Ranking.{boosts_fall}
use Rattle.claims_machine.proofs.Reached.{good}
use Rattle.claims_machine.proofs.mutexes.ranks_are_the_only_settled_ones.Goals as goal

settles : RoundsSettle → (mutexes : List Mutex) (tasks : List Task) → AreLocks mutexes tasks → IsSettledRank (boosts mutexes tasks) (own_rank mutexes tasks) (length tasks) (rank mutexes tasks)
unfolding rank
settles law mutexes tasks l = law (boosts mutexes tasks) (own_rank mutexes tasks) (length tasks) TASK_LIMIT (boosts_fall mutexes tasks l)

only : SettledIsOne → (mutexes : List Mutex) (tasks : List Task) (other : ℕ → ℕ) (t : ℕ) → AreLocks mutexes tasks → IsSettledRank (boosts mutexes tasks) (own_rank mutexes tasks) (length tasks) other → t < length tasks → other t ≡ rank mutexes tasks t
unfolding rank
only law mutexes tasks other t l s below =
    law (boosts mutexes tasks) (own_rank mutexes tasks) (length tasks) TASK_LIMIT other (boosts_fall mutexes tasks l) s t below

pub returns-clause-settled : goal.returns-clause-settled
returns-clause-settled g boot s t reached below =
    settles g.ranks_settle.ensures.settle s.board.parts.mutexes s.board.parts.tasks (good g.rules_hold.ensures.booted g.rules_hold.ensures.loaded boot s reached).good.locks t below

pub returns-clause-only : goal.returns-clause-only
returns-clause-only g boot s other t reached same below =
    only g.ranks_settle.ensures.one s.board.parts.mutexes s.board.parts.tasks other t (good g.rules_hold.ensures.booted g.rules_hold.ensures.loaded boot s reached).good.locks same below
