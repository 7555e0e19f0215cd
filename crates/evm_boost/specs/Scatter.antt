-- Lists of ranks: how they are filled, and raised by boosters.
use Rattle.std.specs.Prelude.{◌≡◌, ℕ, zero, suc, ◌<◌, List, Option, Some, None, slice_get, slice_set, length}
use Rattle.evm_model.specs.Boosts.{greater}
use Rattle.evm_model.specs.Lists.{change}
use Rattle.evm_model.specs.Mutexes.{ceiling_owner, ceiling, boosts}
use Rattle.evm_model.specs.Ranks.{class_rank_of, rank}
use Rattle.evm_model.specs.declared.mutex.Mutex.{Mutex}
use Rattle.evm_model.specs.declared.task.Task.{Task}
use Rattle.evm_ready.specs.ListedRanks.{listed_rank}

-- the ranks of those below a count are these
unfoldable pub filled : (ℕ → ℕ) → List ℕ → ℕ → List ℕ
filled rank ranks zero = ranks
filled rank ranks (suc t) = slice_set (filled rank ranks t) t (rank t)

-- one task's rank is at least this
abbrev pub raise_to : Option ℕ → ℕ → List ℕ → List ℕ
raise_to None least ranks = ranks
raise_to (Some t) least ranks = change (λ rank. greater rank least) ranks t

-- those below a count have raised those that they boost, by number
unfoldable pub scatter : (ℕ → Option ℕ) → (ℕ → ℕ) → List ℕ → ℕ → List ℕ
scatter boosts rank ranks zero = ranks
scatter boosts rank ranks (suc u) = raise_to (boosts u) (rank u) (scatter boosts rank ranks u)

-- the rank of task t's class
abbrev pub class_rank_at : List Task → ℕ → ℕ
class_rank_at tasks t = class_rank_of (slice_get tasks t)

-- the own ranks of the tasks
unfoldable pub own_ranks : List Mutex → List Task → List ℕ → List ℕ
own_ranks mutexes tasks ranks =
    scatter (ceiling_owner mutexes) (ceiling mutexes) (filled (class_rank_at tasks) ranks (length tasks)) (length mutexes)

-- their ranks after one more round
unfoldable pub next_ranks : List Mutex → List Task → List ℕ → List ℕ → List ℕ
next_ranks mutexes tasks own now = scatter (boosts mutexes tasks) (listed_rank now) own (length tasks)

-- their ranks after n
unfoldable pub ranks_after : List Mutex → List Task → List ℕ → ℕ → List ℕ
ranks_after mutexes tasks own zero = own
ranks_after mutexes tasks own (suc rounds) = next_ranks mutexes tasks own (ranks_after mutexes tasks own rounds)

-- these are the ranks of the tasks
abbrev pub AreRanks : List ℕ → List Mutex → List Task → Type 0
AreRanks ranks mutexes tasks = (t : ℕ) → t < length tasks → listed_rank ranks t ≡ rank mutexes tasks t
