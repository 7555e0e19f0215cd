-- Receipts whose positions rise, and those of two ports side by side.
use Rattle.std.proofs.Common.{◌≡◌, ℕ, zero, suc, ◌+◌, ◌-◌, ◌<◌, ◌≤◌, ◌⊎◌, inl, inr, ⊎_elim, List, length, take, get_or, refl, sym, ap, subst, ◌∙◌, arith}
use Rattle.std.proofs.lemmas.Bool.{eqb-true, eqb-false}
use Rattle.std.proofs.lemmas.List.{get_or-take, get_or_read_under, length-take}
use Rattle.std.proofs.lemmas.List.Elements.{All-more}
use Rattle.std.specs.Prelude.{All, Bool, true, false, ◌==◌, if◌then◌else◌}
use Rattle.evm_shared.specs.Cursors.{AreRising, IsBehind, IsEnd, end_with}
use Rattle.evm_shared.specs.Receipts.{AreApart, IsBefore, IsPosition, made_events}
use Rattle.evm_shared.specs.declared.receipt.Receipt.{Receipt}

-- ---- two receipts

-- a position of one that has an event
first_position : (r : Receipt) → 0 < length (made_events r.made) → IsPosition r r.position
first_position r some = (omega arith, omega arith)

pub before_apart : (a b : Receipt) → IsBefore a b → AreApart a b
before_apart a b before p in_a in_b = absurd (omega (arith, before p p in_a in_b))

pub behind_apart : (a b : Receipt) → IsBefore b a → AreApart a b
behind_apart a b behind p in_a in_b = absurd (omega (arith, behind p p in_b in_a))

pub before_through : (a b c : Receipt) → 0 < length (made_events b.made) → IsBefore a b → IsBefore b c → IsBefore a c
before_through a b c some first second p q in_a in_c =
    let one = first p b.position in_a (first_position b some) in
    let two = second b.position q (first_position b some) in_c in
    omega arith

pub before_none : (a b : Receipt) → length (made_events a.made) ≡ 0 → IsBefore a b
before_none a b none p q in_a in_b = absurd (omega (arith, in_a.0, in_a.1))

pub none_before : (a b : Receipt) → length (made_events b.made) ≡ 0 → IsBefore a b
none_before a b none p q in_a in_b = absurd (omega (arith, in_b.0, in_b.1))

pub ends_before : (a b : Receipt) → a.position + length (made_events a.made) ≤ b.position → IsBefore a b
ends_before a b low p q in_a in_b = omega (arith, in_a.1, in_b.0)

zero_or_some : (n : ℕ) → (n ≡ 0) ⊎ (0 < n)
zero_or_some zero = inl refl
zero_or_some (suc n) = inr (omega arith)

pub le_or_lt : (m n : ℕ) → (m ≤ n) ⊎ (n < m)
le_or_lt zero n = inl (omega arith)
le_or_lt (suc m) zero = inr (omega arith)
le_or_lt (suc m) (suc n) = ⊎_elim (λ l. inl (omega arith)) (λ g. inr (omega arith)) (le_or_lt m n)

-- what begins at or behind the beginning of another, in it
inside : (a b : Receipt) → a.position ≤ b.position → (IsBefore a b → ⊥) → AreApart a b → ⊥
inside a b low bad apart = ⊎_elim
    (λ end. bad (ends_before a b end))
    (λ over. ⊎_elim (λ none. bad (none_before a b none)) (λ some. apart b.position (low, over) (first_position b some)) (zero_or_some (length (made_events b.made))))
    (le_or_lt (a.position + length (made_events a.made)) b.position)

swapped : (a b : Receipt) → AreApart a b → AreApart b a
swapped a b apart p in_b in_a = apart p in_a in_b

-- two receipts of which none is before the other share a position
pub shares : (a b : Receipt) → (IsBefore a b → ⊥) → (IsBefore b a → ⊥) → AreApart a b → ⊥
shares a b not_before not_behind apart = ⊎_elim
    (λ low. inside a b low not_before apart)
    (λ high. inside b a (omega (arith, high)) not_behind (swapped a b apart))
    (le_or_lt a.position b.position)

-- one that is not before another has an event
pub has_event : (a b : Receipt) → (IsBefore a b → ⊥) → 0 < length (made_events a.made)
has_event a b bad = ⊎_elim (λ none. absurd (bad (before_none a b none))) (λ some. some) (zero_or_some (length (made_events a.made)))

-- ---- the first receipts of a list

under_take : (xs : List Receipt) (i k : ℕ) → k < length (take i xs) → (k < i) × (k < length xs)
under_take xs i k lt = (omega (arith, length-take i xs), omega (arith, length-take i xs))

all_fewer : (P : Receipt → Type 0) (xs : List Receipt) (i : ℕ) → All P (take (i + 1) xs) → All P (take i xs)
all_fewer P xs i all k d lt =
    let low = under_take xs i k lt in
    let one = get_or-take (i + 1) xs k d (omega (arith, low.0)) in
    let two = get_or-take i xs k d low.0 in
    subst P (one ∙ sym two) (all k d (omega (arith, low.0, low.1, length-take (i + 1) xs)))

last_of : (P : Receipt → Type 0) (xs : List Receipt) (i : ℕ) (x : Receipt) → i < length xs → x ≡ get_or xs i x → All P (take (i + 1) xs) → P x
last_of P xs i x lt is all = subst P (get_or-take (i + 1) xs i x (omega arith) ∙ sym is) (all i x (omega (arith, length-take (i + 1) xs)))

-- ---- the end of some receipts

pub behind_all : (xs : List Receipt) (end : ℕ) (x : Receipt) → IsEnd xs end → IsBehind end x → All (λ b. IsBefore b x) xs
behind_all xs end x h behind = ⊎_elim
    (λ none k d lt. none_before (get_or xs k d) x none)
    (λ some. (h x some).1 (behind some))
    (zero_or_some (length (made_events x.made)))

pub all_behind : (xs : List Receipt) (end : ℕ) (x : Receipt) → IsEnd xs end → All (λ b. IsBefore b x) xs → IsBehind end x
all_behind xs end x h all some = (h x some).0 all

pub end_none : (xs : List Receipt) → IsEnd (take 0 xs) 0
end_none xs r some = (λ all. omega arith, λ low k d lt. absurd (omega (arith, (under_take xs 0 k lt).0)))

end_tested : (xs : List Receipt) (i end n : ℕ) (x : Receipt) (b : Bool) → n ≡ length (made_events x.made) → (n == 0) ≡ b → i < length xs → x ≡ get_or xs i x → IsEnd (take i xs) end → IsBehind end x
    → IsEnd (take (i + 1) xs) (if b then end else x.position + n)
end_tested xs i end n x true long test lt is h behind r some =
    let none : length (made_events x.made) ≡ 0 = omega (arith, long, eqb-true n 0 test) in (
      λ all. (h r some).0 (all_fewer (λ b. IsBefore b r) xs i all),
      λ low. All-more (λ b. IsBefore b r) xs i x lt ((h r some).1 low) (subst (λ b. IsBefore b r) is (before_none x r none)),
    )
end_tested xs i end n x false long test lt is h behind r some =
    let event : 0 < length (made_events x.made) = ⊎_elim (λ none. absurd (eqb-false n 0 test (omega (arith, long, none)))) (λ s. s) (zero_or_some (length (made_events x.made))) in
    let here = behind event in (
      λ all.
          let before = last_of (λ b. IsBefore b r) xs i x lt is all in
          let last = before (x.position + n - 1) r.position (omega (arith, long, event), omega (arith, long, event)) (first_position r some) in
          omega (arith, last, long, event),
      λ low. All-more (λ b. IsBefore b r) xs i x lt ((h r some).1 (omega (arith, low, here))) (subst (λ b. IsBefore b r) is (ends_before x r (omega (arith, low, long)))),
    )

pub end_more : (xs : List Receipt) (i end : ℕ) (x : Receipt) → i < length xs → x ≡ get_or xs i x → IsEnd (take i xs) end → IsBehind end x → IsEnd (take (i + 1) xs) (end_with end x)
end_more xs i end x lt is h behind = end_tested xs i end (length (made_events x.made)) x (length (made_events x.made) == 0) refl refl lt is h behind

-- ---- receipts beside those of another port, whose positions rise

rising_pair : (xs : List Receipt) (n j i : ℕ) (d : Receipt) → AreRising xs n → n ≤ length xs → j < i → i < n → IsBefore (get_or xs j d) (get_or xs i d)
rising_pair xs n j i d rising within first below =
    subst (λ b. IsBefore b (get_or xs i d)) (get_or-take i xs j d first) (rising i d below j d (omega (arith, length-take i xs)))

-- those that are before a receipt are before the later ones
abbrev pub ArePassed : List Receipt → List Receipt → ℕ → ℕ → ℕ → Type 0
ArePassed others receipts next index limit = (j : ℕ) (d : Receipt) → index ≤ j → j < limit → All (λ o. IsBefore o (get_or receipts j d)) (take next others)

pub passed_none : (others receipts : List Receipt) (limit : ℕ) → ArePassed others receipts 0 0 limit
passed_none others receipts limit j d low high k e lt = absurd (omega (arith, (under_take others 0 k lt).0))

pub passed_same : (others receipts : List Receipt) (next index limit : ℕ) → ArePassed others receipts next index limit → ArePassed others receipts next (index + 1) limit
passed_same others receipts next index limit h j d low high = h j d (omega arith) high

pub passed_more : (others receipts : List Receipt) (next index limit : ℕ) (x : Receipt) → index < limit → limit ≤ length receipts → x ≡ get_or receipts index x → 0 < length (made_events x.made) → AreRising receipts limit
    → All (λ o. IsBefore o x) (take next others) → ArePassed others receipts next (index + 1) limit
passed_more others receipts next index limit x lt within is some rising all j d low high k e under =
    let same : x ≡ get_or receipts index d = get_or_read_under receipts index (length receipts) x d is (omega arith) refl in
    let later : IsBefore x (get_or receipts j d) = subst (λ b. IsBefore b (get_or receipts j d)) (sym same) (rising_pair receipts limit index j d rising within (omega arith) high) in
    before_through (get_or (take next others) k e) x (get_or receipts j d) some (all k e under) later

pub none_apart : (others : List Receipt) (x : Receipt) → length (made_events x.made) ≡ 0 → All (λ o. AreApart o x) others
none_apart others x none k d lt = before_apart (get_or others k d) x (none_before (get_or others k d) x none)

pub apart_past : (others : List Receipt) (next : ℕ) (x : Receipt) → length others ≤ next → All (λ o. IsBefore o x) (take next others) → All (λ o. AreApart o x) others
apart_past others next x past all k d lt =
    before_apart (get_or others k d) x (subst (λ o. IsBefore o x) (get_or-take next others k d (omega arith)) (all k d (omega (arith, length-take next others))))

pub apart_between : (others : List Receipt) (next : ℕ) (x o : Receipt) → next < length others → o ≡ get_or others next o → AreRising others (length others) → All (λ b. IsBefore b x) (take next others)
    → (IsBefore o x → ⊥) → IsBefore x o → All (λ b. AreApart b x) others
apart_between others next x o lt is rising all behind before k d under = ⊎_elim
    (λ low. ⊎_elim
    (λ same. behind_apart (get_or others k d) x (subst (λ b. IsBefore x b) (get_or_read_under others next (length others) o d is lt refl ∙ ap (λ n. get_or others n d) (let e : next ≡ k = omega (arith, low, same) in e)) before))
    (λ above.
    let first : o ≡ get_or others next d = get_or_read_under others next (length others) o d is lt refl in
    let later : IsBefore o (get_or others k d) = subst (λ b. IsBefore b (get_or others k d)) (sym first) (rising_pair others (length others) next k d rising (omega arith) above under) in
    behind_apart (get_or others k d) x (before_through x o (get_or others k d) (has_event o x behind) before later))
    (le_or_lt k next))
    (λ less. before_apart (get_or others k d) x (subst (λ b. IsBefore b x) (get_or-take next others k d less) (all k d (omega (arith, length-take next others)))))
    (le_or_lt next k)

pub not_apart : (others : List Receipt) (next : ℕ) (x o : Receipt) → next < length others → o ≡ get_or others next o → (IsBefore o x → ⊥) → (IsBefore x o → ⊥) → All (λ b. AreApart b x) others → ⊥
not_apart others next x o lt is not_before not_behind all = shares o x not_before not_behind (subst (λ b. AreApart b x) (sym is) (all next o lt))
