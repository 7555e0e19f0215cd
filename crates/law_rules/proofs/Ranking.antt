-- Ranks are told by the mutexes, and of each task by its class, its priority and the mutex for which it waits.
use Rattle.std.proofs.Common.{◌≡◌, ℕ, zero, suc, List, Option, Some, None, length, refl, ap, ◌∙◌, inl, inr}
use Rattle.std.specs.Prelude.{slice_get, option_map, if◌then◌else◌}
use Rattle.std.proofs.lemmas.Bool.{cases_eq}
use Rattle.evm_model.specs.Boosts.{greater, is_number, greatest, rank_after}
use Rattle.evm_model.proofs.Lists.{change-here, change-elsewhere, length-change}
use Rattle.evm_model.specs.Lists.{change}
use Rattle.evm_model.specs.Mutexes.{lock_of_task, lock_at, heir_for, boosts, ceiling_owner, ceiling}
use Rattle.evm_model.specs.Ranks.{class_rank_of, own_rank, rank}
use Rattle.evm_model.specs.State.{Parts}
use Rattle.evm_model.specs.declared.limits.TheConstants.{TASK_LIMIT}
use Rattle.evm_model.specs.declared.mutex.Mutex.{Mutex}
use Rattle.evm_model.specs.declared.task.Task.{Task}

-- ---- the same boosts and own ranks give the same ranks
one-same : (o p : Option ℕ) (t x y z w : ℕ) → o ≡ p → x ≡ z → y ≡ w → (if is_number o t then greater x y else x) ≡ (if is_number p t then greater z w else z)
one-same o p t x y z w e f h = rw (e, f, h) refl

greatest-alike : (b d : ℕ → Option ℕ) (r s : ℕ → ℕ) (t first n : ℕ) → ((u : ℕ) → b u ≡ d u) → ((u : ℕ) → r u ≡ s u) → greatest b r t first n ≡ greatest d s t first n
unfolding greatest
greatest-alike b d r s t first zero e f = refl
greatest-alike b d r s t first (suc n) e f = one-same (b n) (d n) t (greatest b r t first n) (r n) (greatest d s t first n) (s n) (e n) (greatest-alike b d r s t first n e f) (f n)

first-alike : (b : ℕ → Option ℕ) (r : ℕ → ℕ) (t first other n : ℕ) → first ≡ other → greatest b r t first n ≡ greatest b r t other n
first-alike b r t first other n e = ap (λ (x : ℕ). greatest b r t x n) e

rank_after-alike : (b d : ℕ → Option ℕ) (o p : ℕ → ℕ) (count rounds : ℕ) → ((u : ℕ) → b u ≡ d u) → ((u : ℕ) → o u ≡ p u) → (t : ℕ) → rank_after b o count rounds t ≡ rank_after d p count rounds t
unfolding rank_after
rank_after-alike b d o p count zero e f t = f t
rank_after-alike b d o p count (suc r) e f t =
    greatest-alike b d (rank_after b o count r) (rank_after d p count r) t (o t) count e (λ u. rank_after-alike b d o p count r e f u)
    ∙ first-alike d (rank_after d p count r) t (o t) (p t) count (f t)

-- ---- tasks whose ranks are told alike
pub record AreRanked (k x : Parts) : Type 0 where
  pub mutexes : x.mutexes ≡ k.mutexes
  pub size : length x.tasks ≡ length k.tasks
  pub locks : (u : ℕ) → lock_at x.tasks u ≡ lock_at k.tasks u
  pub classes : (u : ℕ) → class_rank_of (slice_get x.tasks u) ≡ class_rank_of (slice_get k.tasks u)

pub ranked-none : (k : Parts) → AreRanked k k
ranked-none k = record { mutexes = refl; size = refl; locks = λ u. refl; classes = λ u. refl }

pub ranked-then : (x y z : Parts) → AreRanked x y → AreRanked y z → AreRanked x z
ranked-then x y z p q = record {
  mutexes = q.mutexes ∙ p.mutexes;
  size = q.size ∙ p.size;
  locks = λ u. q.locks u ∙ p.locks u;
  classes = λ u. q.classes u ∙ p.classes u;
}

own-alike : (mutexes : List Mutex) (tasks new : List Task) (u : ℕ) → class_rank_of (slice_get new u) ≡ class_rank_of (slice_get tasks u) → own_rank mutexes new u ≡ own_rank mutexes tasks u
unfolding own_rank
own-alike mutexes tasks new u e = first-alike (ceiling_owner mutexes) (ceiling mutexes) u _ _ (length mutexes) e

rank-tasks : (mutexes : List Mutex) (tasks new : List Task) → length new ≡ length tasks → ((u : ℕ) → lock_at new u ≡ lock_at tasks u) → ((u : ℕ) → class_rank_of (slice_get new u) ≡ class_rank_of (slice_get tasks u))
    → (t : ℕ) → rank mutexes new t ≡ rank mutexes tasks t
unfolding rank
rank-tasks mutexes tasks new size locks classes t =
    ap (λ (n : ℕ). rank_after (boosts mutexes new) (own_rank mutexes new) n TASK_LIMIT t) size
    ∙ rank_after-alike (boosts mutexes new) (boosts mutexes tasks) (own_rank mutexes new) (own_rank mutexes tasks) (length tasks) TASK_LIMIT
    (λ u. ap (heir_for mutexes) (locks u)) (λ u. own-alike mutexes tasks new u (classes u)) t

pub ranked-same : (k x : Parts) → AreRanked k x → (t : ℕ) → rank x.mutexes x.tasks t ≡ rank k.mutexes k.tasks t
ranked-same k x r t = ap (λ (mutexes : List Mutex). rank mutexes x.tasks t) r.mutexes ∙ rank-tasks k.mutexes k.tasks x.tasks r.size r.locks r.classes t

-- ---- one task changes, but not what its rank is told by
option-told : {X : Type 0} (told : Option Task → X) (f : Task → Task) (o : Option Task) → ((task : Task) → o ≡ Some task → told (Some (f task)) ≡ told (Some task)) → told (option_map f o) ≡ told o
option-told told f None h = refl
option-told told f (Some task) h = h task refl

told-change : {X : Type 0} (told : Option Task → X) (f : Task → Task) (tasks : List Task) (t u : ℕ) → ((task : Task) → slice_get tasks t ≡ Some task → told (Some (f task)) ≡ told (Some task))
    → told (slice_get (change f tasks t) u) ≡ told (slice_get tasks u)
told-change told f tasks t u h = elim (cases_eq u t) [
  | inl same ↦ rw same (ap told (change-here f tasks t) ∙ option-told told f (slice_get tasks t) h)
  | inr other ↦ ap told (change-elsewhere f tasks t u other)
]

pub ranked-task : (t : ℕ) (f : Task → Task) (k x : Parts) → x.mutexes ≡ k.mutexes → x.tasks ≡ change f k.tasks t
    → ((task : Task) → slice_get k.tasks t ≡ Some task → lock_of_task (Some (f task)) ≡ lock_of_task (Some task))
    → ((task : Task) → slice_get k.tasks t ≡ Some task → class_rank_of (Some (f task)) ≡ class_rank_of (Some task)) → AreRanked k x
ranked-task t f k x mutexes tasks lock class = record {
  mutexes = mutexes;
  size = ap length tasks ∙ length-change f k.tasks t;
  locks = λ u. ap (λ (ts : List Task). lock_at ts u) tasks ∙ told-change lock_of_task f k.tasks t u lock;
  classes = λ u. ap (λ (ts : List Task). class_rank_of (slice_get ts u)) tasks ∙ told-change class_rank_of f k.tasks t u class;
}
