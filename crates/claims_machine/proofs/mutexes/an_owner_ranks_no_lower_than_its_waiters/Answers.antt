use Rattle.std.proofs.Common.{◌≡◌, ℕ, ◌<◌, ◌≤◌, List, Some, length, ◌⊎◌, inl, inr, ◌∙◌}
use Rattle.law_rules.specs.Ranking.{RoundsBoost, RoundsSettle}
use Rattle.evm_model.specs.Boosts.{rank_after}
use Rattle.evm_model.specs.Good.{AreLocks}
use Rattle.evm_model.specs.Mutexes.{boosts}
use Rattle.evm_model.specs.Ranks.{own_rank, rank}
use Rattle.evm_model.specs.declared.limits.TheConstants.{TASK_LIMIT}
use Rattle.evm_model.specs.declared.mutex.Mutex.{Mutex}
use Rattle.evm_model.specs.declared.task.Task.{Task}
use Rattle.claims_machine.proofs.Ranking.{greatest-one, locks, locked, booster, boosts_by, boosts_fall, booster_below, boosted_below}
use Rattle.claims_machine.proofs.Reached.{good}
use Rattle.claims_machine.proofs.mutexes.an_owner_ranks_no_lower_than_its_waiters.Goals as goal

boosted : RoundsBoost → (mutexes : List Mutex) (tasks : List Task) (u t : ℕ) → AreLocks mutexes tasks → boosts mutexes tasks u ≡ Some t → rank mutexes tasks u ≤ rank mutexes tasks t
unfolding rank
boosted law mutexes tasks u t l e =
    law (boosts mutexes tasks) (own_rank mutexes tasks) (length tasks) TASK_LIMIT u t (boosts_fall mutexes tasks l) (booster_below mutexes tasks u t e) (boosted_below mutexes tasks u t l e) e

one_of : RoundsSettle → (mutexes : List Mutex) (tasks : List Task) (t : ℕ) → AreLocks mutexes tasks → t < length tasks
    → (rank mutexes tasks t ≡ own_rank mutexes tasks t) ⊎ ((u : ℕ) × ((u < length tasks) × (boosts mutexes tasks u ≡ Some t) × (rank mutexes tasks t ≡ rank mutexes tasks u)))
unfolding rank
one_of law mutexes tasks t l below =
    let after : ℕ → ℕ = rank_after (boosts mutexes tasks) (own_rank mutexes tasks) (length tasks) TASK_LIMIT in
    let same = law (boosts mutexes tasks) (own_rank mutexes tasks) (length tasks) TASK_LIMIT (boosts_fall mutexes tasks l) t below in
    elim (greatest-one (boosts mutexes tasks) after t (own_rank mutexes tasks t) (length tasks)) [
      | inl own ↦ inl (same ∙ own)
      | inr b ↦ inr (b.0, (b.1, b.2, same ∙ b.3))
    ]

pub returns-clause-inherits : goal.returns-clause-inherits
returns-clause-inherits g boot s u t m task mutex reached e on there inherits its =
    boosted g.ranks_settle.ensures.boost s.board.parts.mutexes s.board.parts.tasks u t (good g.rules_hold.ensures.booted g.rules_hold.ensures.loaded boot s reached).good.locks
    (boosts_by s.board.parts.mutexes s.board.parts.tasks u m t mutex (locks s.board.parts.tasks u m task e on) there inherits its)

pub returns-clause-one_of_them : goal.returns-clause-one_of_them
returns-clause-one_of_them g boot s t reached below =
    one_of g.ranks_settle.ensures.settle s.board.parts.mutexes s.board.parts.tasks t (good g.rules_hold.ensures.booted g.rules_hold.ensures.loaded boot s reached).good.locks below

pub returns-clause-boosters : goal.returns-clause-boosters
returns-clause-boosters g mutexes tasks u t e =
    let b = booster mutexes tasks u t e in
    let l = locked tasks u b.m b.waits in
    (b.m, (l.task, (b.heir.mutex, (l.there, l.on, b.heir.there, b.heir.inherits, b.heir.its))))
