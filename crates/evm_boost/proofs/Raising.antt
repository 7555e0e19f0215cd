-- The lists of ranks hold, below the count of tasks, the ranks of the definitions.
use Rattle.std.proofs.Common.{◌≡◌, ℕ, zero, suc, ◌+◌, ◌<◌, ◌≤◌, List, [], ◌∷◌, Option, Some, None, Bool, true, false, length, refl, ap, sym, ◌∙◌, inl, inr, arith, add-one}
use Rattle.std.specs.Prelude.{nat_lt, not, if◌then◌else◌, slice_set}
use Rattle.std.proofs.Math.Nat.{eq-or-lt_of_le}
use Rattle.std.proofs.lemmas.Bool.Decides.{eqb_tells, nat_tests}
use Rattle.std.proofs.lemmas.List.{length-set}
use Rattle.evm_model.specs.Boosts.{greater, is_number, greatest, rank_after}
use Rattle.evm_model.proofs.Greatest.{greatest-same}
use Rattle.evm_model.specs.Mutexes.{ceiling_owner, ceiling, boosts, heir_for, lock_at}
use Rattle.evm_model.specs.Ranks.{own_rank, rank}
use Rattle.evm_model.specs.declared.limits.TheConstants.{TASK_LIMIT}
use Rattle.evm_model.specs.declared.mutex.Mutex.{Mutex}
use Rattle.evm_model.specs.declared.task.Task.{Task}
use Rattle.evm_model.proofs.Lists.{change-here, change-elsewhere, length-change, slice_get-within, slice_get-set_same, slice_get-set_other}
use Rattle.evm_ready.specs.ListedRanks.{listed_rank, rank_or_0}
use Rattle.evm_boost.specs.Scatter.{filled, raise_to, scatter, class_rank_at, own_ranks, next_ranks, ranks_after, AreRanks}

-- ---- filled
pub length-filled : (rank : ℕ → ℕ) (ranks : List ℕ) (n : ℕ) → length (filled rank ranks n) ≡ length ranks
unfolding filled
length-filled rank ranks zero = refl
length-filled rank ranks (suc n) = length-set (filled rank ranks n) n (rank n) ∙ length-filled rank ranks n

set-here : (xs : List ℕ) (t r : ℕ) → t < length xs → listed_rank (slice_set xs t r) t ≡ r
set-here xs t r less = let there = slice_get-within xs t less in ap rank_or_0 (slice_get-set_same xs t there.0 r there.1)

told-filled : (rank : ℕ → ℕ) (ranks : List ℕ) (n t : ℕ) → t < n → n ≤ length ranks → listed_rank (filled rank ranks n) t ≡ rank t
unfolding filled
told-filled rank ranks zero t less room = absurd (omega (arith, less))
told-filled rank ranks (suc n) t less room =
    let long : length (filled rank ranks n) ≡ length ranks = length-filled rank ranks n in
    elim (eq-or-lt_of_le {n = t} {m = n} (omega (arith, less))) [
      | inl at ↦ rw at (set-here (filled rank ranks n) n (rank n) (omega (arith, long, room)))
      | inr below ↦
          ap rank_or_0 (slice_get-set_other (filled rank ranks n) n t (rank n) (λ same. omega (arith, same, below)))
          ∙ told-filled rank ranks n t below (omega (arith, room))
    ]

-- ---- raised
length-raise : (o : Option ℕ) (least : ℕ) (ranks : List ℕ) → length (raise_to o least ranks) ≡ length ranks
length-raise None least ranks = refl
length-raise (Some t) least ranks = length-change (λ rank. greater rank least) ranks t

length-scatter : (boosts : ℕ → Option ℕ) (rank : ℕ → ℕ) (ranks : List ℕ) (n : ℕ) → length (scatter boosts rank ranks n) ≡ length ranks
unfolding scatter
length-scatter boosts rank ranks zero = refl
length-scatter boosts rank ranks (suc u) = length-raise (boosts u) (rank u) (scatter boosts rank ranks u) ∙ length-scatter boosts rank ranks u

raise-here : (ranks : List ℕ) (least t : ℕ) → t < length ranks → listed_rank (raise_to (Some t) least ranks) t ≡ greater (listed_rank ranks t) least
raise-here ranks least t less =
    let there = slice_get-within ranks t less in
    ap rank_or_0 (change-here (λ rank. greater rank least) ranks t) ∙ rw there.1 refl

told-raise : (o : Option ℕ) (ranks : List ℕ) (least t : ℕ) → t < length ranks
    → listed_rank (raise_to o least ranks) t ≡ (if is_number o t then greater (listed_rank ranks t) least else listed_rank ranks t)
told-raise None ranks least t less = refl
told-raise (Some u) ranks least t less = elim (eqb_tells u t) [
  | inl g ↦ rw (g.0, g.1) (raise-here ranks least t less)
  | inr g ↦ rw g.0 (ap rank_or_0 (change-elsewhere (λ rank. greater rank least) ranks u t (λ same. g.1 (sym same))))
]

told-scatter : (boosts : ℕ → Option ℕ) (rank : ℕ → ℕ) (ranks : List ℕ) (n t : ℕ) → t < length ranks
    → listed_rank (scatter boosts rank ranks n) t ≡ greatest boosts rank t (listed_rank ranks t) n
unfolding scatter greatest
told-scatter boosts rank ranks zero t less = refl
told-scatter boosts rank ranks (suc u) t less =
    let long : length (scatter boosts rank ranks u) ≡ length ranks = length-scatter boosts rank ranks u in
    told-raise (boosts u) (scatter boosts rank ranks u) (rank u) t (omega (arith, less, long))
    ∙ ap (λ (r : ℕ). if is_number (boosts u) t then greater r (rank u) else r) (told-scatter boosts rank ranks u t less)

-- ---- the own ranks
pub length-own : (mutexes : List Mutex) (tasks : List Task) (ranks : List ℕ) → length (own_ranks mutexes tasks ranks) ≡ length ranks
unfolding own_ranks
length-own mutexes tasks ranks =
    length-scatter (ceiling_owner mutexes) (ceiling mutexes) (filled (class_rank_at tasks) ranks (length tasks)) (length mutexes)
    ∙ length-filled (class_rank_at tasks) ranks (length tasks)

told-own : (mutexes : List Mutex) (tasks : List Task) (ranks : List ℕ) (t : ℕ) → length tasks ≤ length ranks → t < length tasks
    → listed_rank (own_ranks mutexes tasks ranks) t ≡ own_rank mutexes tasks t
unfolding own_ranks own_rank
told-own mutexes tasks ranks t room less =
    let long : length (filled (class_rank_at tasks) ranks (length tasks)) ≡ length ranks = length-filled (class_rank_at tasks) ranks (length tasks) in
    told-scatter (ceiling_owner mutexes) (ceiling mutexes) (filled (class_rank_at tasks) ranks (length tasks)) (length mutexes) t (omega (arith, long, room, less))
    ∙ ap (λ (r : ℕ). greatest (ceiling_owner mutexes) (ceiling mutexes) t r (length mutexes)) (told-filled (class_rank_at tasks) ranks (length tasks) t less room)

-- ---- the rounds
told-after : (mutexes : List Mutex) (tasks : List Task) (own : List ℕ) (r t : ℕ) → length tasks ≤ length own
    → ((u : ℕ) → u < length tasks → listed_rank own u ≡ own_rank mutexes tasks u) → t < length tasks
    → listed_rank (ranks_after mutexes tasks own r) t ≡ rank_after (boosts mutexes tasks) (own_rank mutexes tasks) (length tasks) r t
unfolding ranks_after next_ranks rank_after
told-after mutexes tasks own zero t room h less = h t less
told-after mutexes tasks own (suc r) t room h less =
    told-scatter (boosts mutexes tasks) (listed_rank (ranks_after mutexes tasks own r)) own (length tasks) t (omega (arith, room, less))
    ∙ ap (λ (first : ℕ). greatest (boosts mutexes tasks) (listed_rank (ranks_after mutexes tasks own r)) t first (length tasks)) (h t less)
    ∙ greatest-same (boosts mutexes tasks) (listed_rank (ranks_after mutexes tasks own r)) (rank_after (boosts mutexes tasks) (own_rank mutexes tasks) (length tasks) r) t
    (own_rank mutexes tasks t) (length tasks) (λ u below e. told-after mutexes tasks own r u room h below)

-- after all rounds they are the ranks
pub ranks_after-are : (mutexes : List Mutex) (tasks : List Task) (ranks : List ℕ) → length tasks ≤ length ranks
    → AreRanks (ranks_after mutexes tasks (own_ranks mutexes tasks ranks) TASK_LIMIT) mutexes tasks
unfolding rank
ranks_after-are mutexes tasks ranks room t less =
    let long : length (own_ranks mutexes tasks ranks) ≡ length ranks = length-own mutexes tasks ranks in
    told-after mutexes tasks (own_ranks mutexes tasks ranks) TASK_LIMIT t (omega (arith, room, long)) (λ u below. told-own mutexes tasks ranks u room below) less

-- ---- one round more
pub ranks_after-none : (mutexes : List Mutex) (tasks : List Task) (own : List ℕ) → ranks_after mutexes tasks own 0 ≡ own
unfolding ranks_after
ranks_after-none mutexes tasks own = refl

pub ranks_after-more : (mutexes : List Mutex) (tasks : List Task) (own : List ℕ) (r : ℕ)
    → ranks_after mutexes tasks own (r + 1) ≡ next_ranks mutexes tasks own (ranks_after mutexes tasks own r)
unfolding ranks_after
ranks_after-more mutexes tasks own r = rw add-one refl

pub length-next : (mutexes : List Mutex) (tasks : List Task) (own now : List ℕ) → length (next_ranks mutexes tasks own now) ≡ length own
unfolding next_ranks
length-next mutexes tasks own now = length-scatter (boosts mutexes tasks) (listed_rank now) own (length tasks)

-- a round more is made
pub round-made : (mutexes : List Mutex) (tasks : List Task) (own now next : List ℕ) (r : ℕ) → now ≡ ranks_after mutexes tasks own r
    → next ≡ next_ranks mutexes tasks own now → next ≡ ranks_after mutexes tasks own (r + 1)
round-made mutexes tasks own now next r so_far e = e ∙ ap (next_ranks mutexes tasks own) so_far ∙ sym (ranks_after-more mutexes tasks own r)

-- a round that changed nothing changes nothing again
pub round-still : (mutexes : List Mutex) (tasks : List Task) (own now next : List ℕ) → next ≡ next_ranks mutexes tasks own now → now ≡ next
    → next_ranks mutexes tasks own next ≡ next
round-still mutexes tasks own now next e same = ap (next_ranks mutexes tasks own) (sym same) ∙ sym e

-- so that all rounds are made where some are, and the last of them changed nothing
pub all-made : (mutexes : List Mutex) (tasks : List Task) (own now : List ℕ) (r k n : ℕ) → n ≡ r + k → now ≡ ranks_after mutexes tasks own r
    → next_ranks mutexes tasks own now ≡ now → now ≡ ranks_after mutexes tasks own n
all-made mutexes tasks own now r zero n e so_far still = so_far ∙ ap (ranks_after mutexes tasks own) (omega (arith, e))
all-made mutexes tasks own now r (suc k) n e so_far still =
    sym still
    ∙ ap (next_ranks mutexes tasks own) (all-made mutexes tasks own now r k (r + k) refl so_far still)
    ∙ sym (ranks_after-more mutexes tasks own (r + k))
    ∙ ap (ranks_after mutexes tasks own) (omega (arith, e))

pub was-same : (b : Bool) → not b ≡ false → b ≡ true
was-same true e = refl
was-same false e = cc

-- where there is no mutex nobody boosts
pub no-mutex : (mutexes : List Mutex) → length mutexes ≡ 0 → mutexes ≡ []
no-mutex [] e = refl
no-mutex (mutex ∷ mutexes) e = absurd (omega (arith, e))

pub not-more : (n : ℕ) → nat_lt 0 n ≡ false → n ≡ 0
not-more n e = grind (arith, nat_tests)

no-heir : (o : Option ℕ) → heir_for [] o ≡ None
no-heir None = refl
no-heir (Some m) = refl

nobody-raises : (boosts : ℕ → Option ℕ) (rank : ℕ → ℕ) (ranks : List ℕ) (n : ℕ) → ((u : ℕ) → boosts u ≡ None) → scatter boosts rank ranks n ≡ ranks
unfolding scatter
nobody-raises boosts rank ranks zero h = refl
nobody-raises boosts rank ranks (suc u) h = rw (h u) (nobody-raises boosts rank ranks u h)

pub next-none : (mutexes : List Mutex) (tasks : List Task) (own now : List ℕ) → mutexes ≡ [] → next_ranks mutexes tasks own now ≡ own
unfolding next_ranks
next-none mutexes tasks own now e = rw e (nobody-raises (boosts [] tasks) (listed_rank now) own (length tasks) (λ u. no-heir (lock_at tasks u)))

-- the ranks, set one after another
pub filled-are : (mutexes : List Mutex) (tasks : List Task) (ranks were now : List ℕ) (t : ℕ) → length were ≡ length tasks → now ≡ filled (listed_rank ranks) were t → t ≡ length tasks
    → AreRanks ranks mutexes tasks → AreRanks now mutexes tasks
filled-are mutexes tasks ranks were now t count e all are u less =
    ap (λ (xs : List ℕ). listed_rank xs u) e ∙ told-filled (listed_rank ranks) were t u (omega (arith, all, less)) (omega (arith, all, count)) ∙ are u less
