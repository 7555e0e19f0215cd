-- Two segments share an address if and only if some address is taken twice, so the order of the segments doesn't matter, nor do those
-- that take no memory. In the order of addresses it is enough to compare neighbours.
use Rattle.std.proofs.Common.{◌≡◌, ℕ, ◌+◌, ◌<◌, ◌≤◌, suc, zero, Bool, true, false, not, cond, ◌&&◌, ltb, leb, max, inl, inr, Option, Some, None, List, [], ◌∷◌, refl, sym, ◌∙◌, ap, subst, arith, lit≤}
use Rattle.std.proofs.lemmas.Bool.{cases_Bool, and_parts, and_from, or_cases, or_left, or_right, or_from, ltb-true, lt-ltb, le-ltb, leb-true, leb-false, le-leb, cond-true, cond-false, not_from_true, not_from_false}
use Rattle.std.proofs.lemmas.Bool.Decides.{nat_tests}
use Rattle.std.proofs.lemmas.List.Recursion.{is_count_by}
use Rattle.std.proofs.lemmas.List.Sorted.{sum_by-IsPermutation, IsNonDecreasingBy-drop, All-permutation}
use Rattle.std.proofs.lemmas.List.Elements.{recursion_from_All, All-from_recursion}
use Rattle.std.specs.List.{list_any, filter, filter_map, count_by, All, AllByRecursion}
use Rattle.std.specs.List.Sorted.{IsPermutation, IsNonDecreasingBy}
use Rattle.evm_elf.specs.declared.header.Header.{Header}
use Rattle.evm_elf.specs.Faults.{IsTaken, IsTakenTwice, share, some_two, occupies, is_load, load_of}
use Rattle.evm_elf.specs.Rising.{rise_from, occupied_of}

-- the segment takes the address
abbrev pub holds : ℕ → Header → Bool
holds a h = leb h.address a && ltb a (h.address + h.memsz)

-- how many segments take it
abbrev pub takers : ℕ → List Header → ℕ
takers a [] = 0
takers a (h ∷ hs) = cond (holds a h) (1 + takers a hs) (takers a hs)

takers_count : (a : ℕ) (hs : List Header) → takers a hs ≡ count_by (holds a) hs
takers_count a hs = is_count_by (takers a) (holds a) refl (λ _ _. refl) hs

takers_yes : (a : ℕ) (h : Header) (hs : List Header) → holds a h ≡ true → takers a (h ∷ hs) ≡ 1 + takers a hs
takers_yes a h hs e = cond-true (holds a h) _ _ e

takers_no : (a : ℕ) (h : Header) (hs : List Header) → holds a h ≡ false → takers a (h ∷ hs) ≡ takers a hs
takers_no a h hs e = cond-false (holds a h) _ _ e

holds_from : (a : ℕ) (h : Header) → h.address ≤ a → a < h.address + h.memsz → holds a h ≡ true
holds_from a h low high = and_from _ _ (le-leb _ _ low) (lt-ltb _ _ high)

holds_low : (a : ℕ) (h : Header) → holds a h ≡ true → h.address ≤ a
holds_low a h e = leb-true _ _ (and_parts _ _ e).0

holds_high : (a : ℕ) (h : Header) → holds a h ≡ true → a < h.address + h.memsz
holds_high a h e = ltb-true _ _ (and_parts _ _ e).1

-- the greater of two addresses is in both segments
share_point : (x y : Header) → share x y ≡ true → (holds (max x.address y.address) x ≡ true) × (holds (max x.address y.address) y ≡ true)
share_point x y e =
    let less = ltb-true _ _ e in
    (holds_from _ x (omega arith) (omega arith), holds_from _ y (omega arith) (omega arith))

pub point_share : (a : ℕ) (x y : Header) → holds a x ≡ true → holds a y ≡ true → share x y ≡ true
point_share a x y p q =
    let p0 = holds_low a x p in let p1 = holds_high a x p in
    let q0 = holds_low a y q in let q1 = holds_high a y q in
    lt-ltb _ _ (omega arith)

takers_grow : (a : ℕ) (h : Header) (hs : List Header) → takers a hs ≤ takers a (h ∷ hs)
takers_grow a h hs = elim (cases_Bool (holds a h)) [
  | inl e ↦ let t = takers_yes a h hs e in omega arith
  | inr e ↦ let t = takers_no a h hs e in omega arith
]

-- a segment that shares with one of the list has a point in one of the list
met : (x : Header) (ys : List Header) → list_any (share x) ys ≡ true → (a : ℕ) × ((holds a x ≡ true) × (1 ≤ takers a ys))
met x [] e = cc
met x (y ∷ ys) e = elim (or_cases _ _ e) [
  | inl s ↦
      let p = share_point x y s in
      let t = takers_yes _ y ys p.1 in
      (max x.address y.address, (p.0, omega arith))
  | inr s ↦
      let m = met x ys s in
      let g = takers_grow m.0 y ys in
      (m.0, (m.1.0, omega arith))
]

unmet : (a : ℕ) (x : Header) (ys : List Header) → holds a x ≡ true → 1 ≤ takers a ys → list_any (share x) ys ≡ true
unmet a x [] p few = absurd (omega arith)
unmet a x (y ∷ ys) p few = elim (cases_Bool (holds a y)) [
  | inl e ↦ or_left _ _ (point_share a x y p e)
  | inr e ↦ let t = takers_no a y ys e in or_right _ _ (unmet a x ys p (omega arith))
]

taken_twice : (hs : List Header) → some_two share hs ≡ true → (a : ℕ) × (2 ≤ takers a hs)
taken_twice [] e = cc
taken_twice (h ∷ hs) e = elim (or_cases _ _ e) [
  | inl s ↦
      let m = met h hs s in
      let t = takers_yes m.0 h hs m.1.0 in
      (m.0, omega arith)
  | inr s ↦
      let m = taken_twice hs s in
      let g = takers_grow m.0 h hs in
      (m.0, omega arith)
]

two_take : (a : ℕ) (hs : List Header) → 2 ≤ takers a hs → some_two share hs ≡ true
two_take a [] few = absurd (omega arith)
two_take a (h ∷ hs) few = elim (cases_Bool (holds a h)) [
  | inl e ↦ let t = takers_yes a h hs e in or_left _ _ (unmet a h hs e (omega arith))
  | inr e ↦ let t = takers_no a h hs e in or_right _ _ (two_take a hs (omega arith))
]

-- the same by the places of the two segments
taken_from : (a : ℕ) (h : Header) → holds a h ≡ true → (h.address ≤ a) × (a < h.address + h.memsz)
taken_from a h e = (holds_low a h e, holds_high a h e)

-- one of the list takes the address
one_takes : (x : Header) (hs : List Header) → list_any (share x) hs ≡ true → (j : ℕ) × ((a : ℕ) × ((holds a x ≡ true) × IsTaken hs j a))
one_takes x [] e = absurd (cc)
one_takes x (h ∷ hs) e = elim (or_cases _ _ e) [
  | inl s ↦ let p = share_point x h s in (0, (max x.address h.address, (p.0, (taken_from _ h p.1, omega arith))))
  | inr s ↦ let r = one_takes x hs s in (suc r.0, (r.1.0, (r.1.1.0, (r.1.1.1.0, omega arith))))
]

pub taken_places : (hs : List Header) → some_two share hs ≡ true → IsTakenTwice hs
taken_places [] e = absurd (cc)
taken_places (h ∷ hs) e = elim (or_cases _ _ e) [
  | inl s ↦
      let r = one_takes h hs s in
      (0, (suc r.0, (r.1.0, (omega arith, (taken_from _ h r.1.1.0, omega arith), (r.1.1.1.0, omega arith)))))
  | inr s ↦
      let r = taken_places hs s in
      let two = r.1.1.1 in
      (suc r.0, (suc r.1.0, (r.1.1.0, (omega arith, (two.1.0, omega arith), (two.2.0, omega arith)))))
]

shared_with : (x : Header) (hs : List Header) (a j : ℕ) → holds a x ≡ true → IsTaken hs j a → list_any (share x) hs ≡ true
shared_with x [] a j p t = absurd (omega arith)
shared_with x (h ∷ hs) a zero p t = or_left _ _ (point_share a x h p (holds_from a h t.0.0 t.0.1))
shared_with x (h ∷ hs) a (suc j) p t = or_right _ _ (shared_with x hs a j p (t.0, omega arith))

pub places_taken : (hs : List Header) (i j a : ℕ) → i < j → IsTaken hs i a → IsTaken hs j a → some_two share hs ≡ true
places_taken [] i j a less s t = absurd (omega arith)
places_taken (h ∷ hs) zero zero a less s t = absurd (omega arith)
places_taken (h ∷ hs) zero (suc j) a less s t = or_left _ _ (shared_with h hs a j (holds_from a h s.0.0 s.0.1) (t.0, omega arith))
places_taken (h ∷ hs) (suc i) zero a less s t = absurd (omega arith)
places_taken (h ∷ hs) (suc i) (suc j) a less s t = or_right _ _ (places_taken hs i j a (omega arith) (s.0, omega arith) (t.0, omega arith))

same_bool : (b c : Bool) → (b ≡ true → c ≡ true) → (c ≡ true → b ≡ true) → b ≡ c
same_bool true c f g = sym (f refl)
same_bool false true f g = g refl
same_bool false false f g = refl

-- lists whose segments take each address as often share alike
same_takers : (xs ys : List Header) → ((a : ℕ) → takers a xs ≡ takers a ys) → some_two share xs ≡ some_two share ys
same_takers xs ys h = same_bool _ _
    (λ e. let t = taken_twice xs e in let s = h t.0 in two_take t.0 ys (omega arith))
    (λ e. let t = taken_twice ys e in let s = h t.0 in two_take t.0 xs (omega arith))

-- the order doesn't matter
pub some_two-permutation : (xs ys : List Header) → IsPermutation xs ys → some_two share ys ≡ some_two share xs
some_two-permutation xs ys p = same_takers ys xs (λ a. takers_count a ys ∙ (sum_by-IsPermutation _ xs ys p ∙ sym (takers_count a xs)))

empty_takes : (a : ℕ) (h : Header) → occupies h ≡ false → holds a h ≡ false
empty_takes a h e = elim (cases_Bool (holds a h)) [
  | inl t ↦ let p0 = holds_low a h t in let p1 = holds_high a h t in grind (arith, nat_tests)
  | inr t ↦ t
]

takers-filter : (a : ℕ) (hs : List Header) → takers a (filter occupies hs) ≡ takers a hs
takers-filter a [] = refl
takers-filter a (h ∷ hs) = elim (cases_Bool (occupies h)) [
  | inl e ↦ ap (takers a) (cond-true (occupies h) _ _ e) ∙ ap (λ n. cond (holds a h) (1 + n) n) (takers-filter a hs)
  | inr e ↦ ap (takers a) (cond-false (occupies h) _ _ e) ∙ (takers-filter a hs ∙ sym (takers_no a h hs (empty_takes a h e)))
]

-- nor do segments without memory
pub some_two-occupied : (hs : List Header) → some_two share (filter occupies hs) ≡ some_two share hs
some_two-occupied hs = same_takers _ hs (λ a. takers-filter a hs)

-- the segments that take memory, in one step
pub occupied_loads : (hs : List (Option Header)) → filter_map occupied_of hs ≡ filter occupies (filter_map load_of hs)
occupied_loads [] = refl
occupied_loads (None ∷ hs) = occupied_loads hs
occupied_loads ((Some h) ∷ hs) = elim (cases_Bool (is_load h)) [
  | inl e ↦ elim (cases_Bool (occupies h)) [
    | inl f ↦ rw (e, f) (ap (λ t. h ∷ t) (occupied_loads hs))
    | inr f ↦ rw (e, f) (occupied_loads hs)
  ]
  | inr e ↦ rw e (occupied_loads hs)
]

pub all_occupied : (hs : List Header) → AllByRecursion (λ x. occupies x ≡ true) (filter occupies hs)
all_occupied [] = tt
all_occupied (h ∷ hs) = elim (cases_Bool (occupies h)) [
  | inl e ↦ rw e (e, all_occupied hs)
  | inr e ↦ rw e (all_occupied hs)
]

-- a segment that ends before the others shares with none
apart_from : (x : Header) (end : ℕ) (hs : List Header) → x.address + x.memsz ≤ end → rise_from end hs ≡ true → list_any (share x) hs ≡ false
apart_from x end [] far e = refl
apart_from x end (h ∷ hs) far e =
    let low : end ≤ h.address = leb-true _ _ (and_parts _ _ e).0 in
    let none : share x h ≡ false = le-ltb _ _ (omega arith) in
    or_from _ _ none (apart_from x (h.address + h.memsz) hs (omega arith) (and_parts _ _ e).1)

pub rising_apart : (end : ℕ) (hs : List Header) → rise_from end hs ≡ true → some_two share hs ≡ false
rising_apart end [] e = refl
rising_apart end (h ∷ hs) e =
    or_from _ _ (apart_from h (h.address + h.memsz) hs (omega arith) (and_parts _ _ e).1) (rising_apart (h.address + h.memsz) hs (and_parts _ _ e).1)

occupies_some : (h : Header) → occupies h ≡ true → 0 < h.memsz
occupies_some h e = grind (arith, nat_tests)

-- in the order of addresses a segment with memory that begins before the end of the one before shares with it
pub falling_shared : (h : Header) (hs : List Header) → IsNonDecreasingBy (λ x. x.address) (h ∷ hs) → AllByRecursion (λ x. occupies x ≡ true) (h ∷ hs) → rise_from (h.address + h.memsz) hs ≡ false → some_two share (h ∷ hs) ≡ true
falling_shared h [] sorted full e = cc
falling_shared h (k ∷ hs) sorted full e = elim (cases_Bool (leb (h.address + h.memsz) k.address)) [
  | inl t ↦
      let rest : rise_from (k.address + k.memsz) hs ≡ false = sym (ap (λ b. b && rise_from (k.address + k.memsz) hs) t) ∙ e in
      or_right _ _ (falling_shared k hs (IsNonDecreasingBy-drop (λ (x : Header). x.address) 1 (h ∷ k ∷ hs) sorted) full.1 rest)
  | inr t ↦
      let before : h.address ≤ k.address = sorted 0 1 h (lit≤ tt) (omega arith) in
      let over : k.address < h.address + h.memsz = leb-false _ _ t in
      let some : 0 < k.memsz = occupies_some k full.1.0 in
      let both : share h k ≡ true = lt-ltb _ _ (omega arith) in
      or_left _ _ (or_left _ _ both)
]

-- so the neighbours decide
pub neighbours_decide : (hs : List Header) → IsNonDecreasingBy (λ x. x.address) hs → AllByRecursion (λ x. occupies x ≡ true) hs → some_two share hs ≡ not (rise_from 0 hs)
neighbours_decide [] sorted full = refl
neighbours_decide (h ∷ hs) sorted full = elim (cases_Bool (rise_from (h.address + h.memsz) hs)) [
  | inl t ↦
      let whole : rise_from 0 (h ∷ hs) ≡ true = and_from _ _ (le-leb _ _ (omega arith)) t in
      rising_apart 0 (h ∷ hs) whole ∙ sym (not_from_true _ whole)
  | inr t ↦
      let low : leb 0 h.address ≡ true = le-leb _ _ (omega arith) in
      let whole : rise_from 0 (h ∷ hs) ≡ false = ap (λ b. b && rise_from (h.address + h.memsz) hs) low ∙ t in
      falling_shared h hs sorted full t ∙ sym (not_from_false _ whole)
]

-- what a sort by address tells
pub sorted_decides : (all : List (Option Header)) (found sorted : List Header) → found ≡ filter_map occupied_of all → IsPermutation found sorted → IsNonDecreasingBy (λ x. x.address) sorted → not (rise_from 0 sorted) ≡ some_two share (filter_map load_of all)
sorted_decides all found sorted is moved rising =
    let found_is : found ≡ filter occupies (filter_map load_of all) = is ∙ occupied_loads all in
    let P : Header → Type 0 = λ x. occupies x ≡ true in
    let full : All P found = subst (All P) (sym found_is) (All-from_recursion P (filter occupies (filter_map load_of all)) (all_occupied (filter_map load_of all))) in
    let full_sorted : AllByRecursion P sorted = recursion_from_All P sorted (All-permutation P found sorted moved full) in
    sym (neighbours_decide sorted rising full_sorted)
    ∙ (some_two-permutation found sorted moved ∙ (ap (some_two share) found_is ∙ some_two-occupied (filter_map load_of all)))
