-- What its mutexes lend to a task is what its own rank and its boosters say.
use Rattle.std.proofs.Common.{◌≡◌, ℕ, zero, suc, ◌<◌, ◌≤◌, List, [], ◌∷◌, Option, Some, None, Bool, true, false, length, refl, ap, sym, ◌∙◌, inl, inr, arith, eq-eqb}
use Rattle.std.specs.Prelude.{nat_lt, if◌then◌else◌, slice_get}
use Rattle.std.proofs.lemmas.Bool.{cases_lt}
use Rattle.std.proofs.lemmas.Bool.Decides.{nat_tests, eqb_tells}
use Rattle.std.proofs.Math.Nat.{eq-or-lt_of_le}
use Rattle.evm_boost.specs.Lent.{first_waiting, rank_of, lent_rank, lent_of, lent_by}
use Rattle.evm_boost.specs.Scheduled.{Scheduled, AreEntered}
use Rattle.evm_model.specs.Mutexes.{owner, boosts, heir_for, heir_of, lock_at, lock_of, lock_of_task, owner_of, ceiling_owner, ceiling_owner_of, ceiling, ceiling_of, ceiling_by}
use Rattle.evm_model.specs.Ranks.{class_rank_of, first, leader, goes_before, own_rank, stamp}
use Rattle.evm_model.specs.Waits.{awaits, awaits_task, is_wait_for}
use Rattle.evm_model.specs.declared.mutex.Mutex.{Mutex}
use Rattle.evm_model.specs.declared.mutex.Protocol.{Protocol}
use Rattle.evm_model.specs.declared.mutex.Protocol.TheVariants.{Inheritance, Ceiling}
use Rattle.evm_model.specs.declared.task.Task.{Task}
use Rattle.evm_model.specs.declared.task.TaskState.{TaskState}
use Rattle.evm_model.specs.declared.task.TaskState.TheVariants.{InReady, OobReady, Waits, Exit, Faulted}
use Rattle.evm_model.specs.declared.task.Wait.{Wait}
use Rattle.evm_model.specs.declared.task.Wait.TheVariants.{Line, Lock, Reacquire, Semaphore, Event, Flags, Sleep, Timer}
use Rattle.evm_model.proofs.Greatest.{greatest-first, greatest-booster}
use Rattle.evm_model.proofs.Least.{greatest-least}
use Rattle.evm_model.specs.Boosts.{greatest}
use Rattle.evm_ready.proofs.Firsts.{first-below, first-member}
use Rattle.evm_ready.specs.ListedRanks.{listed_rank}
use Rattle.evm_wait.proofs.Awaited.{first-awaited}

-- ---- the first has the greatest rank of the members
rank-if : (rank : ℕ → ℕ) (t u : ℕ) (b : Bool) → (b ≡ true → rank u ≤ rank t) → (b ≡ false → rank t ≤ rank u) → (rank t ≤ rank (if b then t else u)) × (rank u ≤ rank (if b then t else u))
rank-if rank t u true p q = (omega arith, p refl)
rank-if rank t u false p q = (q refl, omega arith)

-- who goes before has no lesser rank
before-most : (r s r' s' : ℕ) → (if nat_lt r' r then true else (if nat_lt r r' then false else nat_lt s s')) ≡ true → r' ≤ r
before-most r s r' s' e = elim (cases_lt r r') [
  | inl h ↦ let one : nat_lt r' r ≡ false = grind (arith, nat_tests) in let two : nat_lt r r' ≡ true = grind (arith, nat_tests) in
      let no : false ≡ true = rw (one, two) at e in cc
  | inr h ↦ omega (arith, h)
]

behind-most : (r s r' s' : ℕ) → (if nat_lt r' r then true else (if nat_lt r r' then false else nat_lt s s')) ≡ false → r ≤ r'
behind-most r s r' s' e = elim (cases_lt r' r) [
  | inl h ↦ let one : nat_lt r' r ≡ true = grind (arith, nat_tests) in let no : true ≡ false = rw one at e in cc
  | inr h ↦ omega (arith, h)
]

-- a rank is at most that of the one that was found
abbrev IsMost : (ℕ → ℕ) → ℕ → Option ℕ → Type 0
IsMost rank r None = ⊥
IsMost rank r (Some u) = r ≤ rank u

leader-most : (rank stamp : ℕ → ℕ) (o : Option ℕ) (t : ℕ) → (rank t ≤ rank (leader rank stamp o t)) × ((u : ℕ) → o ≡ Some u → rank u ≤ rank (leader rank stamp o t))
leader-most rank stamp None t = (omega arith, λ u e. cc)
leader-most rank stamp (Some x) t =
    let both = rank-if rank t x (goes_before rank stamp t x) (before-most (rank t) (stamp t) (rank x) (stamp x)) (behind-most (rank t) (stamp t) (rank x) (stamp x)) in
    (both.0, λ u e. let is : x ≡ u = cc in rw (← is) both.1)

most-on : (rank : ℕ → ℕ) (r : ℕ) (o : Option ℕ) (l : ℕ) → ((u : ℕ) → o ≡ Some u → rank u ≤ rank l) → IsMost rank r o → r ≤ rank l
most-on rank r None l lead most = absurd most
most-on rank r (Some u) l lead most = let up = lead u refl in omega (arith, up, most)

most-step : (rank : ℕ → ℕ) (r : ℕ) (b : Bool) (o : Option ℕ) (l : ℕ) → ((u : ℕ) → o ≡ Some u → rank u ≤ rank l) → IsMost rank r o → IsMost rank r (if b then Some l else o)
most-step rank r true o l lead most = most-on rank r o l lead most
most-step rank r false o l lead most = most

most-here : (rank : ℕ → ℕ) (r : ℕ) (b : Bool) (o : Option ℕ) (l : ℕ) → b ≡ true → r ≤ rank l → IsMost rank r (if b then Some l else o)
most-here rank r true o l e most = most
most-here rank r false o l e most = cc

first-most : (member : ℕ → Bool) (rank stamp : ℕ → ℕ) (n u : ℕ) → u < n → member u ≡ true → IsMost rank (rank u) (first member rank stamp n)
unfolding first
first-most member rank stamp zero u less is = absurd (omega (arith, less))
first-most member rank stamp (suc t) u less is = elim (eq-or-lt_of_le {n = u} {m = t} (omega (arith, less))) [
  | inl at ↦
      most-here rank (rank u) (member t) (first member rank stamp t) (leader rank stamp (first member rank stamp t) t) (ap member (sym at) ∙ is)
      (let lead = (leader-most rank stamp (first member rank stamp t) t).0 in rw at lead)
  | inr below ↦
      most-step rank (rank u) (member t) (first member rank stamp t) (leader rank stamp (first member rank stamp t) t) (leader-most rank stamp (first member rank stamp t) t).1
      (first-most member rank stamp t u below is)
]

-- ---- who waits for a mutex
waits-lock : (state : TaskState) (m : ℕ) → is_wait_for (Lock m) state ≡ true → lock_of state ≡ Some m
waits-lock InReady m e = cc
waits-lock OobReady m e = cc
waits-lock (Waits (Line l)) m e = cc
waits-lock (Waits (Lock n)) m e = elim (eqb_tells n m) [ inl g ↦ ap (λ (n : ℕ). Some n) g.1 | inr g ↦ let no : true ≡ false = sym e ∙ g.0 in cc ]
waits-lock (Waits (Reacquire n answer)) m e = elim (eqb_tells n m) [ inl g ↦ ap (λ (n : ℕ). Some n) g.1 | inr g ↦ let no : true ≡ false = sym e ∙ g.0 in cc ]
waits-lock (Waits (Semaphore s)) m e = cc
waits-lock (Waits (Event n)) m e = cc
waits-lock (Waits (Flags f)) m e = cc
waits-lock (Waits Sleep) m e = cc
waits-lock (Waits (Timer n)) m e = cc
waits-lock Exit m e = cc
waits-lock (Faulted fault) m e = cc

lock-waits : (state : TaskState) (m : ℕ) → lock_of state ≡ Some m → is_wait_for (Lock m) state ≡ true
lock-waits InReady m e = cc
lock-waits OobReady m e = cc
lock-waits (Waits (Line l)) m e = cc
lock-waits (Waits (Lock n)) m e = let is : n ≡ m = cc in rw is (eq-eqb m m refl)
lock-waits (Waits (Reacquire n answer)) m e = let is : n ≡ m = cc in rw is (eq-eqb m m refl)
lock-waits (Waits (Semaphore s)) m e = cc
lock-waits (Waits (Event n)) m e = cc
lock-waits (Waits (Flags f)) m e = cc
lock-waits (Waits Sleep) m e = cc
lock-waits (Waits (Timer n)) m e = cc
lock-waits Exit m e = cc
lock-waits (Faulted fault) m e = cc

awaits-of : (o : Option Task) (m : ℕ) → awaits_task (Lock m) o ≡ true → lock_of_task o ≡ Some m
awaits-of None m e = cc
awaits-of (Some task) m e = waits-lock task.state m e

lock-of : (o : Option Task) (m : ℕ) → lock_of_task o ≡ Some m → awaits_task (Lock m) o ≡ true
lock-of None m e = cc
lock-of (Some task) m e = lock-waits task.state m e

pub awaits-lock : (tasks : List Task) (m u : ℕ) → awaits (Lock m) tasks u ≡ true → lock_at tasks u ≡ Some m
awaits-lock tasks m u e = awaits-of (slice_get tasks u) m e

pub lock-awaits : (tasks : List Task) (m u : ℕ) → lock_at tasks u ≡ Some m → awaits (Lock m) tasks u ≡ true
lock-awaits tasks m u e = lock-of (slice_get tasks u) m e

-- ---- the first waiter
pub first-waiting-is : (s : Scheduled) (tasks : List Task) (wait : Wait) → AreEntered s tasks
    → first_waiting s wait ≡ first (awaits wait tasks) (listed_rank s.ranks) (stamp tasks) (length tasks)
first-waiting-is s tasks wait are = rw are.waiters (first-awaited wait (listed_rank s.ranks) tasks)

most-of : (ranks : List ℕ) (r : ℕ) (o : Option ℕ) → IsMost (listed_rank ranks) r o → r ≤ rank_of ranks o
most-of ranks r None most = absurd most
most-of ranks r (Some u) most = most

-- each waiter's rank is at most that of the first
waiter-most : (s : Scheduled) (tasks : List Task) (m u : ℕ) → AreEntered s tasks → u < length tasks → lock_at tasks u ≡ Some m
    → listed_rank s.ranks u ≤ rank_of s.ranks (first_waiting s (Lock m))
waiter-most s tasks m u are less e =
    rw (first-waiting-is s tasks (Lock m) are)
    (most-of s.ranks (listed_rank s.ranks u) (first (awaits (Lock m) tasks) (listed_rank s.ranks) (stamp tasks) (length tasks))
    (first-most (awaits (Lock m) tasks) (listed_rank s.ranks) (stamp tasks) (length tasks) u less (lock-awaits tasks m u e)))

-- the rank of the first is that of one that waits
rank-least : (ranks : List ℕ) (o : Option ℕ) (bound : ℕ) → ((u : ℕ) → o ≡ Some u → listed_rank ranks u ≤ bound) → rank_of ranks o ≤ bound
rank-least ranks None bound h = omega arith
rank-least ranks (Some u) bound h = h u refl

first-least : (s : Scheduled) (tasks : List Task) (m bound : ℕ) → AreEntered s tasks
    → ((u : ℕ) → u < length tasks → lock_at tasks u ≡ Some m → listed_rank s.ranks u ≤ bound) → rank_of s.ranks (first_waiting s (Lock m)) ≤ bound
first-least s tasks m bound are h =
    rw (first-waiting-is s tasks (Lock m) are)
    (rank-least s.ranks (first (awaits (Lock m) tasks) (listed_rank s.ranks) (stamp tasks) (length tasks)) bound
    (λ u e. h u (first-below (awaits (Lock m) tasks) (listed_rank s.ranks) (stamp tasks) (length tasks) u e)
    (awaits-lock tasks m u (first-member (awaits (Lock m) tasks) (listed_rank s.ranks) (stamp tasks) (length tasks) u e))))

-- nobody waits where none is first
pub first-nobody : (s : Scheduled) (tasks : List Task) (m u : ℕ) → AreEntered s tasks → first_waiting s (Lock m) ≡ None → lock_at tasks u ≡ Some m → ⊥
first-nobody s tasks m u are none e =
    let less : u < length tasks = lock-there tasks m u e in
    let most = first-most (awaits (Lock m) tasks) (listed_rank s.ranks) (stamp tasks) (length tasks) u less (lock-awaits tasks m u e) in
    let is : first (awaits (Lock m) tasks) (listed_rank s.ranks) (stamp tasks) (length tasks) ≡ None = sym (first-waiting-is s tasks (Lock m) are) ∙ none in
    rw is at most
  where
    lock-there : (tasks : List Task) (m u : ℕ) → lock_at tasks u ≡ Some m → u < length tasks
    lock-there [] m u e = cc
    lock-there (task ∷ tasks) m zero e = omega arith
    lock-there (task ∷ tasks) m (suc u) e = omega (arith, lock-there tasks m u e)

-- ---- what a mutex lends is at most what its owner has
-- of ceilings
ceiling-case : (s : Scheduled) (tasks : List Task) (m t bound : ℕ) (o : Option Mutex) → AreEntered s tasks → owner_of o ≡ Some t
    → (ceiling_owner_of o ≡ Some t → ceiling_of o ≤ bound)
    → ((u : ℕ) → u < length tasks → lock_at tasks u ≡ Some m → heir_of o ≡ Some t → listed_rank s.ranks u ≤ bound)
    → lent_of s m o ≤ bound
ceiling-case s tasks m t bound None are e top each = omega arith
ceiling-case s tasks m t bound (Some mutex) are e top each = by mutex.protocol refl
  where
    by : (p : Protocol) → mutex.protocol ≡ p → lent_by s m mutex.protocol ≤ bound
    by Inheritance is = rw is (first-least s tasks m bound are (λ u less lock. each u less lock (rw is e)))
    by (Ceiling priority) is = rw is (let high = top (rw is e) in rw is at high)

-- a ceiling is lent
lent-ceiling : (s : Scheduled) (m t : ℕ) (o : Option Mutex) → ceiling_owner_of o ≡ Some t → (owner_of o ≡ Some t) × (lent_of s m o ≡ ceiling_of o)
lent-ceiling s m t None e = cc
lent-ceiling s m t (Some mutex) e = by mutex.protocol refl
  where
    by : (p : Protocol) → mutex.protocol ≡ p → (mutex.owner ≡ Some t) × (lent_by s m mutex.protocol ≡ ceiling_by mutex.protocol)
    by Inheritance is = let no : None ≡ Some t = rw is at e in cc
    by (Ceiling priority) is = let owns : mutex.owner ≡ Some t = rw is at e in (owns, rw is refl)

-- the rank of the first waiter is lent
lent-heir : (s : Scheduled) (m t : ℕ) (o : Option Mutex) → heir_of o ≡ Some t → (owner_of o ≡ Some t) × (lent_of s m o ≡ rank_of s.ranks (first_waiting s (Lock m)))
lent-heir s m t None e = cc
lent-heir s m t (Some mutex) e = by mutex.protocol refl
  where
    by : (p : Protocol) → mutex.protocol ≡ p → (mutex.owner ≡ Some t) × (lent_by s m mutex.protocol ≡ rank_of s.ranks (first_waiting s (Lock m)))
    by Inheritance is = let owns : mutex.owner ≡ Some t = rw is at e in (owns, rw is refl)
    by (Ceiling priority) is = let no : None ≡ Some t = rw is at e in cc

owner-below : (mutexes : List Mutex) (m t : ℕ) → owner mutexes m ≡ Some t → m < length mutexes
owner-below [] m t e = cc
owner-below (mutex ∷ mutexes) zero t e = omega arith
owner-below (mutex ∷ mutexes) (suc m) t e = omega (arith, owner-below mutexes m t e)

heir-some : (mutexes : List Mutex) (o : Option ℕ) (t : ℕ) → heir_for mutexes o ≡ Some t → (m : ℕ) × (o ≡ Some m) × (heir_of (slice_get mutexes m) ≡ Some t)
heir-some mutexes None t e = cc
heir-some mutexes (Some m) t e = (m, refl, e)

-- ---- so the rank that a task has by its mutexes is the one that follows from its own and its boosters'
pub lent-is : (s : Scheduled) (mutexes : List Mutex) (tasks : List Task) (t : ℕ) → AreEntered s tasks
    → greatest (owner mutexes) (lent_rank s mutexes) t (class_rank_of (slice_get tasks t)) (length mutexes)
    ≡ greatest (boosts mutexes tasks) (listed_rank s.ranks) t (own_rank mutexes tasks t) (length tasks)
unfolding own_rank
lent-is s mutexes tasks t are =
    let class = class_rank_of (slice_get tasks t) in
    let own = greatest (ceiling_owner mutexes) (ceiling mutexes) t class (length mutexes) in
    let by_mutex = greatest (owner mutexes) (lent_rank s mutexes) t class (length mutexes) in
    let by_task = greatest (boosts mutexes tasks) (listed_rank s.ranks) t own (length tasks) in
    let own-low : own ≤ by_task = greatest-first (boosts mutexes tasks) (listed_rank s.ranks) t own (length tasks) in
    let class-low : class ≤ own = greatest-first (ceiling_owner mutexes) (ceiling mutexes) t class (length mutexes) in
    let most : by_mutex ≤ by_task =
    greatest-least (owner mutexes) (lent_rank s mutexes) t class (length mutexes) by_task (omega (arith, own-low, class-low))
    (λ m less owns. ceiling-case s tasks m t by_task (slice_get mutexes m) are owns
    (λ e. let high = greatest-booster (ceiling_owner mutexes) (ceiling mutexes) t class (length mutexes) m less e in omega (arith, high, own-low))
    (λ u below lock heir. greatest-booster (boosts mutexes tasks) (listed_rank s.ranks) t own (length tasks) u below (rw lock heir))) in
    let own-most : own ≤ by_mutex =
    greatest-least (ceiling_owner mutexes) (ceiling mutexes) t class (length mutexes) by_mutex (greatest-first (owner mutexes) (lent_rank s mutexes) t class (length mutexes))
    (λ m less e. let lends = lent-ceiling s m t (slice_get mutexes m) e in rw (← lends.1) (greatest-booster (owner mutexes) (lent_rank s mutexes) t class (length mutexes) m less lends.0)) in
    let least : by_task ≤ by_mutex =
    greatest-least (boosts mutexes tasks) (listed_rank s.ranks) t own (length tasks) by_mutex own-most
    (λ u below e.
    let found = heir-some mutexes (lock_at tasks u) t e in
    let lends = lent-heir s found.0 t (slice_get mutexes found.0) found.2 in
    let less : found.0 < length mutexes = owner-below mutexes found.0 t lends.0 in
    let waits = waiter-most s tasks found.0 u are below found.1 in
    let high : lent_rank s mutexes found.0 ≤ by_mutex = greatest-booster (owner mutexes) (lent_rank s mutexes) t class (length mutexes) found.0 less lends.0 in
    let lent-by : lent_rank s mutexes found.0 ≡ rank_of s.ranks (first_waiting s (Lock found.0)) = lends.1 in
    omega (arith, waits, high, lent-by)) in
    omega (arith, most, least)
