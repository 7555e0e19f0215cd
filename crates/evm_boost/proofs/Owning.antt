-- The sets of owned mutexes follow their owners.
use Rattle.std.proofs.Common.{◌≡◌, ℕ, zero, suc, ◌+◌, ◌-◌, ◌<◌, ◌≤◌, List, [], ◌∷◌, ◌++◌, Option, Some, None, Bool, true, false, length, refl, ap, sym, ◌∙◌, inl, inr, arith, eq-eqb}
use Rattle.std.specs.Prelude.{◌==◌, ◌&&◌, ◌||◌, not, nat_eq, cond, filter, replicate, slice_get}
use Rattle.std.specs.List.{range_with_len}
use Rattle.std.proofs.lemmas.Bool.{cases_eq, ne_eqb}
use Rattle.std.proofs.Math.Bool.{and-false, and-true, or-false, or-true}
use Rattle.std.proofs.lemmas.List.{length-append}
use Rattle.std.proofs.lemmas.Option.{slice_get_past, slice_get_within}
use Rattle.evm_boost.proofs.Lends.{greatest-more, greatest-none}
use Rattle.evm_boost.proofs.Moves.{slice_get-other}
use Rattle.evm_boost.proofs.Owners.{freed-here, freed-owner, owns-one}
use Rattle.evm_boost.specs.Owning.{AreOwned, AreOwners, given, greatest_of, owned_by}
use Rattle.evm_lines.specs.Laws.{filter-same, has_line-among, has_line-among_below}
use Rattle.evm_lines.specs.Lines.{all_lines, has_line, has_none, with_line, without_line}
use Rattle.evm_lines.specs.declared.TheConstants.{LINES}
use Rattle.evm_model.proofs.Lists.{change-cases, change-elsewhere, change-here, length-change, slice_get-replicate, slice_get-within}
use Rattle.evm_model.specs.Lists.{change}
use Rattle.evm_model.specs.Mutexes.{freed, held_by, owner, owner_of, owns_any, owns_below}
use Rattle.evm_model.specs.declared.mutex.Mutex.{Mutex}
use Rattle.evm_model.specs.Boosts.{greater, greatest, is_number}

-- ---- the sets
pub owned-same : (sets : List (List ℕ)) (owner other : ℕ → Option ℕ) → ((m : ℕ) → owner m ≡ other m) → AreOwned sets owner → AreOwned sets other
owned-same sets owner other same are t set e =
    are t set e ∙ filter-same (λ m. is_number (owner m) t) (λ m. is_number (other m) t) (λ m less. ap (λ (o : Option ℕ). is_number o t) (same m))

none-owned : (t n a : ℕ) → filter (λ (m : ℕ). false) (range_with_len a n) ≡ []
none-owned t zero a = refl
none-owned t (suc n) a = none-owned t n (a + 1)

pub owned-none : (n : ℕ) (empty : List ℕ) → empty ≡ [] → AreOwned (replicate n empty) (λ _. None)
unfolding all_lines
owned-none n empty is t set e = slice_get-replicate n empty t set e ∙ is ∙ sym (none-owned t LINES 0)

number-self : (t : ℕ) → is_number (Some t) t ≡ true
number-self t = eq-eqb t t refl

-- who has mutex m at place l
pub given-here : (owner : ℕ → Option ℕ) (m : ℕ) (task : Option ℕ) → given owner m task m ≡ task
given-here owner m task = let same : (m == m) ≡ true = eq-eqb m m refl in rw same refl

given-elsewhere : (owner : ℕ → Option ℕ) (m : ℕ) (task : Option ℕ) (l : ℕ) → (l ≡ m → ⊥) → given owner m task l ≡ owner l
given-elsewhere owner m task l other = let no : (l == m) ≡ false = ne_eqb l m other in rw no refl

-- the set of another task stays
other-stays : (owner : ℕ → Option ℕ) (m u : ℕ) (task : Option ℕ) → is_number (owner m) u ≡ false → is_number task u ≡ false → owned_by owner u ≡ owned_by (given owner m task) u
other-stays owner m u task was is = filter-same (λ l. is_number (owner l) u) (λ l. is_number (given owner m task l) u) (λ l less. elim (cases_eq l m) [
  | inl e ↦ rw e (was ∙ sym is ∙ ap (λ (o : Option ℕ). is_number o u) (sym (given-here owner m task)))
  | inr h ↦ ap (λ (o : Option ℕ). is_number o u) (sym (given-elsewhere owner m task l h))
])

with-given : (owner : ℕ → Option ℕ) (m t l : ℕ) → l < LINES → (has_line (owned_by owner t) l || nat_eq l m) ≡ is_number (given owner m (Some t) l) t
with-given owner m t l less = elim (cases_eq l m) [
  | inl e ↦
      let same : nat_eq m m ≡ true = eq-eqb m m refl in
      rw e (rw same (or-true (has_line (owned_by owner t) m)) ∙ sym (number-self t) ∙ ap (λ (o : Option ℕ). is_number o t) (sym (given-here owner m (Some t))))
  | inr h ↦
      let no : nat_eq l m ≡ false = ne_eqb l m h in
      rw no (or-false (has_line (owned_by owner t) l))
      ∙ has_line-among (λ k. is_number (owner k) t) l less
      ∙ ap (λ (o : Option ℕ). is_number o t) (sym (given-elsewhere owner m (Some t) l h))
]

without-given : (owner : ℕ → Option ℕ) (m t l : ℕ) → l < LINES → (has_line (owned_by owner t) l && not (nat_eq l m)) ≡ is_number (given owner m None l) t
without-given owner m t l less = elim (cases_eq l m) [
  | inl e ↦
      let same : nat_eq m m ≡ true = eq-eqb m m refl in
      rw e (rw same (and-false (has_line (owned_by owner t) m)) ∙ ap (λ (o : Option ℕ). is_number o t) (sym (given-here owner m None)))
  | inr h ↦
      let no : nat_eq l m ≡ false = ne_eqb l m h in
      rw no (and-true (has_line (owned_by owner t) l))
      ∙ has_line-among (λ k. is_number (owner k) t) l less
      ∙ ap (λ (o : Option ℕ). is_number o t) (sym (given-elsewhere owner m None l h))
]

other-number : (t u : ℕ) → (u ≡ t → ⊥) → is_number (Some t) u ≡ false
other-number t u other = ne_eqb t u (λ e. other (sym e))

-- task t has mutex m, which nobody had
pub joined : (sets : List (List ℕ)) (owner : ℕ → Option ℕ) (t m : ℕ) → owner m ≡ None → AreOwned sets owner → AreOwned (change (λ set. with_line set m) sets t) (given owner m (Some t))
unfolding with_line
joined sets owner t m free are u set e = elim (change-cases (λ (set : List ℕ). with_line set m) sets t u set e) [
  | inl g ↦
      let was : g.1 ≡ owned_by owner t = are t g.1 g.2 in
      g.3 ∙ rw was (filter-same (λ l. has_line (owned_by owner t) l || nat_eq l m) (λ l. is_number (given owner m (Some t) l) t) (λ l less. with-given owner m t l less))
      ∙ ap (owned_by (given owner m (Some t))) (sym g.0)
  | inr g ↦
      are u set g.1 ∙ other-stays owner m u (Some t) (ap (λ (o : Option ℕ). is_number o u) free) (other-number t u g.0)
]

-- nobody has mutex m, which task t had
pub parted : (sets : List (List ℕ)) (owner : ℕ → Option ℕ) (t m : ℕ) → owner m ≡ Some t → AreOwned sets owner → AreOwned (change (λ set. without_line set m) sets t) (given owner m None)
unfolding without_line
parted sets owner t m had are u set e = elim (change-cases (λ (set : List ℕ). without_line set m) sets t u set e) [
  | inl g ↦
      let was : g.1 ≡ owned_by owner t = are t g.1 g.2 in
      g.3 ∙ rw was (filter-same (λ l. has_line (owned_by owner t) l && not (nat_eq l m)) (λ l. is_number (given owner m None l) t) (λ l less. without-given owner m t l less))
      ∙ ap (owned_by (given owner m None)) (sym g.0)
  | inr g ↦
      are u set g.1 ∙ other-stays owner m u None (ap (λ (o : Option ℕ). is_number o u) had ∙ other-number t u g.0) refl
]

-- nobody has it, and nobody had it
pub unowned : (sets : List (List ℕ)) (owner : ℕ → Option ℕ) (m : ℕ) → owner m ≡ None → AreOwned sets owner → AreOwned sets (given owner m None)
unowned sets owner m free are = owned-same sets owner (given owner m None) (λ l. elim (cases_eq l m) [
  | inl e ↦ rw e (free ∙ sym (given-here owner m None))
  | inr h ↦ sym (given-elsewhere owner m None l h)
]) are

-- ---- the owners of a list of mutexes
held-of : (t count : ℕ) (mutexes : List Mutex) (m : ℕ) (mutex : Mutex) → slice_get mutexes m ≡ Some mutex → owner (change (held_by t count) mutexes m) m ≡ Some t
held-of t count mutexes m mutex e = ap owner_of (change-here (held_by t count) mutexes m) ∙ rw e refl

-- mutex m, which is there, has another owner
pub held-owned : (sets : List (List ℕ)) (mutexes : List Mutex) (m t count : ℕ) (mutex : Mutex) → slice_get mutexes m ≡ Some mutex
    → AreOwned sets (given (given (owner mutexes) m None) m (Some t)) → AreOwned sets (owner (change (held_by t count) mutexes m))
held-owned sets mutexes m t count mutex there are =
    owned-same sets (given (given (owner mutexes) m None) m (Some t)) (owner (change (held_by t count) mutexes m)) (λ l. elim (cases_eq l m) [
      | inl e ↦ rw e (given-here (given (owner mutexes) m None) m (Some t) ∙ sym (held-of t count mutexes m mutex there))
      | inr h ↦
          given-elsewhere (given (owner mutexes) m None) m (Some t) l h ∙ given-elsewhere (owner mutexes) m None l h
          ∙ ap owner_of (sym (change-elsewhere (held_by t count) mutexes m l h))
    ]) are

-- nobody has mutex m
pub freed-owned : (sets : List (List ℕ)) (mutexes : List Mutex) (m : ℕ) → AreOwned sets (given (owner mutexes) m None) → AreOwned sets (owner (change freed mutexes m))
freed-owned sets mutexes m are =
    owned-same sets (given (owner mutexes) m None) (owner (change freed mutexes m)) (λ l. elim (cases_eq l m) [
      | inl e ↦ rw e (given-here (owner mutexes) m None ∙ sym (freed-here mutexes m))
      | inr h ↦ given-elsewhere (owner mutexes) m None l h ∙ ap owner_of (sym (change-elsewhere freed mutexes m l h))
    ]) are

last-owner : (mutexes : List Mutex) (mutex : Mutex) → owner (mutexes ++ mutex ∷ []) (length mutexes) ≡ mutex.owner
last-owner [] mutex = refl
last-owner (one ∷ rest) mutex = last-owner rest mutex

pub past-owner : (mutexes : List Mutex) (m : ℕ) → length mutexes ≤ m → owner mutexes m ≡ None
past-owner mutexes m past = ap owner_of (slice_get_past mutexes m past)

-- one mutex more
pub pushed-owned : (sets : List (List ℕ)) (mutexes : List Mutex) (mutex : Mutex) → AreOwned sets (given (owner mutexes) (length mutexes) mutex.owner)
    → AreOwned sets (owner (mutexes ++ mutex ∷ []))
pushed-owned sets mutexes mutex are =
    owned-same sets (given (owner mutexes) (length mutexes) mutex.owner) (owner (mutexes ++ mutex ∷ [])) (λ l. elim (cases_eq l (length mutexes)) [
      | inl e ↦ rw e (given-here (owner mutexes) (length mutexes) mutex.owner ∙ sym (last-owner mutexes mutex))
      | inr h ↦ given-elsewhere (owner mutexes) (length mutexes) mutex.owner l h ∙ ap owner_of (sym (slice_get-other mutexes mutex l h))
    ]) are

-- ---- what a set says
-- an owned mutex is there
owned-there : (mutexes : List Mutex) (t m : ℕ) → is_number (owner mutexes m) t ≡ true → m < length mutexes
owned-there mutexes t m owns = by (slice_get mutexes m) refl
  where
    by : (o : Option Mutex) → slice_get mutexes m ≡ o → m < length mutexes
    by None e = let no : false ≡ true = ap (λ (o : Option Mutex). is_number (owner_of o) t) (sym e) ∙ owns in cc
    by (Some mutex) e = slice_get_within mutexes m mutex e

none-owns : (mutexes : List Mutex) (t n : ℕ) → ((m : ℕ) → m < n → is_number (owner mutexes m) t ≡ false) → owns_below t mutexes n ≡ false
unfolding owns_below
none-owns mutexes t zero none = refl
none-owns mutexes t (suc n) none =
    let no : is_number (owner mutexes n) t ≡ false = none n (omega arith) in
    rw no (none-owns mutexes t n (λ m less. none m (omega (arith, less))))

-- whether a task owns any
pub owns-set : (mutexes : List Mutex) (t : ℕ) (set : List ℕ) → length mutexes ≤ LINES → set ≡ owned_by (owner mutexes) t → owns_any t mutexes ≡ not (has_none set)
owns-set mutexes t [] few is =
    none-owns mutexes t (length mutexes) (λ m less. sym (ap (λ (set : List ℕ). has_line set m) is ∙ has_line-among (λ k. is_number (owner mutexes k) t) m (omega (arith, less, few))))
owns-set mutexes t (m ∷ rest) few is =
    let in_it : has_line (owned_by (owner mutexes) t) m ≡ true = rw (← is) (first-in m rest) in
    let less : m < LINES = has_line-among_below (λ k. is_number (owner mutexes k) t) m in_it in
    let owns : is_number (owner mutexes m) t ≡ true = sym (has_line-among (λ k. is_number (owner mutexes k) t) m less) ∙ in_it in
    owns-one t mutexes m (length mutexes) (owned-there mutexes t m owns) owns
  where
    first-in : (m : ℕ) (rest : List ℕ) → has_line (m ∷ rest) m ≡ true
    first-in m rest = let same : nat_eq m m ≡ true = eq-eqb m m refl in rw same refl

-- the set without one mutex is that of the mutexes with this one free
pub other-set : (mutexes : List Mutex) (t m : ℕ) (set : List ℕ) → set ≡ owned_by (owner mutexes) t → without_line set m ≡ owned_by (owner (change freed mutexes m)) t
unfolding without_line
other-set mutexes t m set is = rw is (filter-same (λ l. has_line (owned_by (owner mutexes) t) l && not (nat_eq l m)) (λ l. is_number (owner (change freed mutexes m) l) t)
    (λ l less. ap (λ (b : Bool). b && not (nat_eq l m)) (has_line-among (λ k. is_number (owner mutexes k) t) l less) ∙ swap (is_number (owner mutexes l) t) (not (l == m)) ∙ sym (freed-owner mutexes m l t)))
  where
    swap : (a b : Bool) → (a && b) ≡ (b && a)
    swap true true = refl
    swap true false = refl
    swap false true = refl
    swap false false = refl

-- .. and so is the set itself, where there is no such mutex
pub same-set : (mutexes : List Mutex) (t m : ℕ) (set : List ℕ) → length mutexes ≤ m → set ≡ owned_by (owner mutexes) t → set ≡ owned_by (owner (change freed mutexes m)) t
same-set mutexes t m set past is = is ∙ ap (λ (ms : List Mutex). owned_by (owner ms) t) (sym (change-past mutexes m (slice_get_past mutexes m past)))
  where
    change-past : (mutexes : List Mutex) (m : ℕ) → slice_get mutexes m ≡ None → change freed mutexes m ≡ mutexes
    change-past mutexes m e = rw e refl

-- whether a task owns another mutex than m
pub owns-others : (mutexes : List Mutex) (t m : ℕ) (set : List ℕ) → length mutexes ≤ LINES → set ≡ owned_by (owner mutexes) t
    → owns_any t (change freed mutexes m) ≡ not (has_none (without_line set m))
owns-others mutexes t m set few is =
    let same = length-change freed mutexes m in
    owns-set (change freed mutexes m) t (without_line set m) (omega (arith, same, few)) (other-set mutexes t m set is)

pub owns-past : (mutexes : List Mutex) (t m : ℕ) (set : List ℕ) → length mutexes ≤ LINES → length mutexes ≤ m → set ≡ owned_by (owner mutexes) t
    → owns_any t (change freed mutexes m) ≡ not (has_none set)
owns-past mutexes t m set few past is =
    let same = length-change freed mutexes m in
    owns-set (change freed mutexes m) t set (omega (arith, same, few)) (same-set mutexes t m set past is)

-- ---- what the mutexes of a set lend
greatest-next : (owner : ℕ → Option ℕ) (lends : ℕ → ℕ) (t first k : ℕ) (rest : List ℕ) (b : Bool) → is_number (owner k) t ≡ b
    → greatest_of lends (greatest owner lends t first k) (cond b (k ∷ rest) rest) ≡ greatest_of lends (greatest owner lends t first (k + 1)) rest
unfolding greatest_of
greatest-next owner lends t first k rest true e = ap (λ (r : ℕ). greatest_of lends r rest) (sym (greatest-more owner lends t first k ∙ rw e refl))
greatest-next owner lends t first k rest false e = ap (λ (r : ℕ). greatest_of lends r rest) (sym (greatest-more owner lends t first k ∙ rw e refl))

greatest-range : (owner : ℕ → Option ℕ) (lends : ℕ → ℕ) (t first k n : ℕ)
    → greatest_of lends (greatest owner lends t first k) (filter (λ m. is_number (owner m) t) (range_with_len k n)) ≡ greatest owner lends t first (k + n)
unfolding greatest_of
greatest-range owner lends t first k zero = ap (greatest owner lends t first) (omega arith)
greatest-range owner lends t first k (suc n) =
    greatest-next owner lends t first k (filter (λ m. is_number (owner m) t) (range_with_len (k + 1) n)) (is_number (owner k) t) refl
    ∙ greatest-range owner lends t first (k + 1) n
    ∙ ap (greatest owner lends t first) (omega arith)

greatest-past : (mutexes : List Mutex) (lends : ℕ → ℕ) (t first d : ℕ) → greatest (owner mutexes) lends t first (length mutexes + d) ≡ greatest (owner mutexes) lends t first (length mutexes)
greatest-past mutexes lends t first zero = ap (greatest (owner mutexes) lends t first) (omega arith)
greatest-past mutexes lends t first (suc d) =
    let none : owner mutexes (length mutexes + d) ≡ None = past-owner mutexes (length mutexes + d) (omega arith) in
    ap (greatest (owner mutexes) lends t first) (omega arith)
    ∙ greatest-more (owner mutexes) lends t first (length mutexes + d)
    ∙ rw none (greatest-past mutexes lends t first d)

-- the greatest of a first rank and of those that the mutexes of a task's set lend
pub greatest-set : (mutexes : List Mutex) (lends : ℕ → ℕ) (t first : ℕ) (set : List ℕ) → length mutexes ≤ LINES → set ≡ owned_by (owner mutexes) t
    → greatest_of lends first set ≡ greatest (owner mutexes) lends t first (length mutexes)
unfolding all_lines
greatest-set mutexes lends t first set few is =
    let rest : length mutexes + (LINES - length mutexes) ≡ LINES = omega (arith, few) in
    ap (greatest_of lends first) is
    ∙ ap (λ (r : ℕ). greatest_of lends r (owned_by (owner mutexes) t)) (sym (greatest-none (owner mutexes) lends t first))
    ∙ greatest-range (owner mutexes) lends t first 0 LINES
    ∙ ap (greatest (owner mutexes) lends t first) (sym rest)
    ∙ greatest-past mutexes lends t first (LINES - length mutexes)

pub greatest-end : (lends : ℕ → ℕ) (first : ℕ) → greatest_of lends first [] ≡ first
unfolding greatest_of
greatest-end lends first = refl

pub greatest-step : (lends : ℕ → ℕ) (first m : ℕ) (rest : List ℕ) → greatest_of lends first (m ∷ rest) ≡ greatest_of lends (greater first (lends m)) rest
unfolding greatest_of
greatest-step lends first m rest = refl

-- ---- the mutexes and their sets
pub owners-none : (sets : List (List ℕ)) → AreOwned sets (λ _. None) → AreOwners sets []
owners-none sets are = record { few = omega arith; owned = owned-same sets (λ (m : ℕ). None) (owner []) (λ m. refl) are }

pub owners-pushed : (sets : List (List ℕ)) (mutexes : List Mutex) (mutex : Mutex) → length mutexes < LINES → AreOwned sets (given (owner mutexes) (length mutexes) mutex.owner)
    → AreOwners sets (mutexes ++ mutex ∷ [])
owners-pushed sets mutexes mutex room are = record {
  few = let more = length-append mutexes (mutex ∷ []) in omega (arith, more, room);
  owned = pushed-owned sets mutexes mutex are;
}

pub owners-held : (sets : List (List ℕ)) (mutexes : List Mutex) (m t count : ℕ) → length mutexes ≤ LINES → m < length mutexes
    → AreOwned sets (given (given (owner mutexes) m None) m (Some t)) → AreOwners sets (change (held_by t count) mutexes m)
owners-held sets mutexes m t count few less are = record {
  few = let same = length-change (held_by t count) mutexes m in omega (arith, same, few);
  owned = let there = slice_get-within mutexes m less in held-owned sets mutexes m t count there.0 there.1 are;
}

pub owners-freed : (sets : List (List ℕ)) (mutexes : List Mutex) (m : ℕ) → length mutexes ≤ LINES → AreOwned sets (given (owner mutexes) m None) → AreOwners sets (change freed mutexes m)
owners-freed sets mutexes m few are = record {
  few = let same = length-change freed mutexes m in omega (arith, same, few);
  owned = freed-owned sets mutexes m are;
}
