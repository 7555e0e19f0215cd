use Rattle.std.proofs.Common.{◌≡◌, ◌≢◌, ℕ, List, Some, slice_get, length, inl, inr, ap, ◌∙◌}
use Rattle.evm_model.proofs.Greatest.{greatest-first, greatest-booster, greatest-none}
use Rattle.evm_model.specs.Boosts.{rank_after}
use Rattle.evm_model.specs.Mutexes.{owner, owner_of, boosts, ceiling_owner, ceiling}
use Rattle.evm_model.specs.Ranks.{class_rank_of, own_rank, rank}
use Rattle.evm_model.specs.declared.limits.TheConstants.{TASK_LIMIT}
use Rattle.evm_model.specs.declared.mutex.Mutex.{Mutex}
use Rattle.evm_model.specs.declared.task.Task.{Task}
use Rattle.evm_model.proofs.Lists.{slice_get-below}
use Rattle.claims_machine.proofs.Ranking.{greatest-one, booster, is_raised, ceiling_is, raised_is}
use Rattle.claims_machine.proofs.mutexes.a_rank_is_never_below_its_own.Goals as goal

pub returns-clause-own : goal.returns-clause-own
unfolding rank
returns-clause-own g mutexes tasks t = g.ranks_settle.ensures.own (boosts mutexes tasks) (own_rank mutexes tasks) (length tasks) TASK_LIMIT t

pub returns-clause-class : goal.returns-clause-class
unfolding own_rank
returns-clause-class g mutexes tasks t task e = rw (← ap class_rank_of e) (greatest-first (ceiling_owner mutexes) (ceiling mutexes) t (class_rank_of (slice_get tasks t)) (length mutexes))

pub returns-clause-ceiling : goal.returns-clause-ceiling
unfolding own_rank
returns-clause-ceiling g mutexes tasks t m priority mutex e p its =
    rw (← ceiling_is mutexes m priority mutex e p)
    (greatest-booster (ceiling_owner mutexes) (ceiling mutexes) t (class_rank_of (slice_get tasks t)) (length mutexes) m (slice_get-below mutexes m mutex e) (raised_is mutexes m t priority mutex e p its))

pub returns-clause-one_of_them : goal.returns-clause-one_of_them
unfolding own_rank
returns-clause-one_of_them g mutexes tasks t task e =
    elim (greatest-one (ceiling_owner mutexes) (ceiling mutexes) t (class_rank_of (slice_get tasks t)) (length mutexes)) [
      | inl own ↦ inl (own ∙ ap class_rank_of e)
      | inr r ↦
          let h = is_raised mutexes r.0 t r.2 in
          inr (r.0, (h.mutex, (h.priority, (h.there, h.ceils, h.its, r.3 ∙ ceiling_is mutexes r.0 h.priority h.mutex h.there h.ceils))))
    ]

-- a task that owns no mutex is boosted by none, and raised by none
none_boosts : (mutexes : List Mutex) (tasks : List Task) (t : ℕ) → ((m : ℕ) → owner mutexes m ≢ Some t) → (u : ℕ) → boosts mutexes tasks u ≡ Some t → ⊥
none_boosts mutexes tasks t none u e = let b = booster mutexes tasks u t e in none b.m (ap owner_of b.heir.there ∙ b.heir.its)

none_raises : (mutexes : List Mutex) (t : ℕ) → ((m : ℕ) → owner mutexes m ≢ Some t) → (m : ℕ) → ceiling_owner mutexes m ≡ Some t → ⊥
none_raises mutexes t none m e = let r = is_raised mutexes m t e in none m (ap owner_of r.there ∙ r.its)

its_own : (mutexes : List Mutex) (tasks : List Task) (t : ℕ) → ((m : ℕ) → owner mutexes m ≢ Some t) → rank mutexes tasks t ≡ own_rank mutexes tasks t
unfolding rank rank_after
its_own mutexes tasks t none =
    greatest-none (boosts mutexes tasks) (rank_after (boosts mutexes tasks) (own_rank mutexes tasks) (length tasks) 63) t (own_rank mutexes tasks t) (length tasks) (none_boosts mutexes tasks t none)

its_class : (mutexes : List Mutex) (tasks : List Task) (t : ℕ) → ((m : ℕ) → owner mutexes m ≢ Some t) → own_rank mutexes tasks t ≡ class_rank_of (slice_get tasks t)
unfolding own_rank
its_class mutexes tasks t none = greatest-none (ceiling_owner mutexes) (ceiling mutexes) t (class_rank_of (slice_get tasks t)) (length mutexes) (none_raises mutexes t none)

pub returns-clause-alone : goal.returns-clause-alone
returns-clause-alone g mutexes tasks t task e none = its_own mutexes tasks t none ∙ its_class mutexes tasks t none ∙ ap class_rank_of e
