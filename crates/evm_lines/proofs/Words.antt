-- What the operations on the word do to the set of lines.
use Rattle.std.proofs.Common.{◌≡◌, ◌≢◌, ℕ, zero, suc, ◌*◌, ◌%◌, ◌^◌, ◌<◌, ◌≤◌, ◌↔◌, Bool, true, false, not, ◌||◌, ◌&&◌, nat_eq, IsTrue, bit_and, bit_or, List, [], ◌∷◌, Some, refl, sym, ap, ◌∙◌, arith, ⊎_elim}
use Rattle.std.proofs.lemmas.Bool.Decides.{nat_tests}
use Rattle.std.proofs.lemmas.Bool.{cases_eq, cases_lt}
use Rattle.std.proofs.lemmas.Nat.{or_lt, one_shl, pow_below}
use Rattle.std.proofs.lemmas.Nat.Bits.{bit_at_set_same, bit_at_set_other, bit_at_clear_same, bit_at_clear_other, bit_at-trailing_zeros, bit_at_above}
use Rattle.std.specs.Int.{bit_at, bit_not, w64, trailing_zeros}
use Rattle.evm_lines.specs.Lines.{has_line, has_none, least_line, with_line, without_line, lines_of, word_of}
use Rattle.evm_lines.specs.Laws.{has_line-among, has_line-among_below, filter-same, least_line-lines_of, lines_of-zero, word_of-lines_of}
use Rattle.evm_lines.specs.declared.TheConstants.{LINES}

pub has_line-lines_of : (word line : ℕ) → line < LINES → has_line (lines_of word) line ≡ nat_eq (bit_at word line) 1
unfolding lines_of
has_line-lines_of word line h = has_line-among (λ l. nat_eq (bit_at word l) 1) line h

is_false : (b : Bool) → (b ≡ true → ⊥) → b ≡ false
is_false true h = absurd (h refl)
is_false false h = refl

pub has_line-lines_of_above : (word line : ℕ) → LINES ≤ line → has_line (lines_of word) line ≡ false
unfolding lines_of
has_line-lines_of_above word line h =
    is_false (has_line (lines_of word) line)
    (λ e. let below = has_line-among_below (λ l. nat_eq (bit_at word l) 1) line e in omega arith)

pub first_line : (word : ℕ) → 0 < word → word < 2 ^ LINES → least_line (lines_of word) ≡ Some (trailing_zeros w64 word)
first_line word some h =
    let zeros = bit_at-trailing_zeros w64 word some (omega arith) in
    let inside : trailing_zeros w64 word < LINES =
    ⊎_elim (λ lt. lt) (λ le. let above = bit_at_above word LINES (trailing_zeros w64 word) h le in absurd (omega (arith, zeros.1, above))) (cases_lt (trailing_zeros w64 word) LINES) in
    least_line-lines_of word (trailing_zeros w64 word) inside zeros.1 zeros.2

has_none-least : (set : List ℕ) (line : ℕ) → least_line set ≡ Some line → has_none set ≡ false
has_none-least [] line h = cc
has_none-least (first ∷ rest) line h = refl

pub has_none-means : (set : List ℕ) → has_none set ≡ true → set ≡ []
has_none-means [] h = refl
has_none-means (first ∷ rest) h = cc

pub has_none-lines_of : (word : ℕ) → word < 2 ^ LINES → nat_eq word 0 ≡ has_none (lines_of word)
has_none-lines_of zero h = ap has_none (sym lines_of-zero)
has_none-lines_of (suc word) h =
    let some = has_none-least (lines_of (suc word)) _ (first_line (suc word) (omega arith) h) in
    let tested : nat_eq (suc word) 0 ≡ false = grind (arith, nat_tests) in
    tested ∙ sym some

pub set_below : (word line : ℕ) → line < LINES → word < 2 ^ LINES → bit_or word (1 * 2 ^ line % 2 ^ 64) < 2 ^ LINES
set_below word line h below =
    let one : 1 * 2 ^ line % 2 ^ 64 ≡ 2 ^ line = one_shl line 64 (omega arith) in
    rw one (or_lt LINES word (2 ^ line) below (pow_below line LINES h))

-- what a test on the numbers gives, where it is written as the set does
with_same : (bit : ℕ) (held same : Bool) → bit ≡ 1 → same ≡ true → nat_eq bit 1 ≡ (held || same)
with_same bit true same h k = rw h refl
with_same bit false same h k = rw (h, k) refl

with_other : (bit before : ℕ) (held same : Bool) → bit ≡ before → held ≡ nat_eq before 1 → same ≡ false → nat_eq bit 1 ≡ (held || same)
with_other bit before true same h k n = rw (h, ← k) refl
with_other bit before false same h k n = rw (h, ← k, n) refl

without_same : (bit : ℕ) (held same : Bool) → bit ≡ 0 → same ≡ true → nat_eq bit 1 ≡ (held && not same)
without_same bit true same h k = rw (h, k) refl
without_same bit false same h k = rw h refl

without_other : (bit before : ℕ) (held same : Bool) → bit ≡ before → held ≡ nat_eq before 1 → same ≡ false → nat_eq bit 1 ≡ (held && not same)
without_other bit before true same h k n = rw (h, ← k, n) refl
without_other bit before false same h k n = rw (h, ← k) refl

equal : (a b : ℕ) → a ≡ b → nat_eq a b ≡ true
equal a b h = grind (arith, nat_tests)

unequal : (a b : ℕ) → a ≢ b → nat_eq a b ≡ false
unequal a b h = grind (arith, nat_tests)

pub lines_of-set : (word line : ℕ) → line < LINES → lines_of (bit_or word (1 * 2 ^ line % 2 ^ 64)) ≡ with_line (lines_of word) line
unfolding lines_of with_line
lines_of-set word line h =
    let after = bit_or word (1 * 2 ^ line % 2 ^ 64) in
    filter-same (λ l. nat_eq (bit_at after l) 1) (λ l. has_line (lines_of word) l || nat_eq l line)
    (λ l below.
    ⊎_elim
    (λ same.
    with_same (bit_at after l) (has_line (lines_of word) l) (nat_eq l line)
    (ap (bit_at after) same ∙ bit_at_set_same w64 word line (omega arith)) (equal l line same))
    (λ other.
    with_other (bit_at after l) (bit_at word l) (has_line (lines_of word) l) (nat_eq l line)
    (bit_at_set_other w64 word line (omega arith) l other) (has_line-lines_of word l below) (unequal l line other))
    (cases_eq l line))

pub lines_of-clear : (word line : ℕ) → line < LINES → lines_of (bit_and word (bit_not w64 (1 * 2 ^ line % 2 ^ 64))) ≡ without_line (lines_of word) line
unfolding lines_of without_line
lines_of-clear word line h =
    let after = bit_and word (bit_not w64 (1 * 2 ^ line % 2 ^ 64)) in
    filter-same (λ l. nat_eq (bit_at after l) 1) (λ l. has_line (lines_of word) l && not (nat_eq l line))
    (λ l below.
    ⊎_elim
    (λ same.
    without_same (bit_at after l) (has_line (lines_of word) l) (nat_eq l line)
    (ap (bit_at after) same ∙ bit_at_clear_same w64 word line (omega arith)) (equal l line same))
    (λ other.
    without_other (bit_at after l) (bit_at word l) (has_line (lines_of word) l) (nat_eq l line)
    (bit_at_clear_other w64 word line (omega arith) l (omega arith) other) (has_line-lines_of word l below) (unequal l line other))
    (cases_eq l line))

pub has_none-tells : (test : Bool) (set : List ℕ) → test ≡ has_none set → IsTrue test ↔ (set ≡ [])
has_none-tells true set h = (λ _. has_none-means set (sym h), λ _. refl)
has_none-tells false [] h = cc
has_none-tells false (first ∷ rest) h = (λ t. cc, λ e. cc)

-- the words of two sets are equal if and only if their numbers are
pub same_word : (a b : ℕ) (x y : List ℕ) → lines_of a ≡ x → lines_of b ≡ y → a < 2 ^ LINES → b < 2 ^ LINES → nat_eq a b ≡ nat_eq (word_of x) (word_of y)
same_word a b x y p q h k =
    let left : a ≡ word_of x = sym (word_of-lines_of a h) ∙ ap word_of p in
    let right : b ≡ word_of y = sym (word_of-lines_of b k) ∙ ap word_of q in
    rw (left, right) refl
