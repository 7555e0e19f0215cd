-- Laws of the sets of `Lines`.
use Rattle.std.proofs.Common.{◌≡◌, ◌≢◌, ℕ, zero, suc, ◌+◌, ◌*◌, ◌/◌, ◌%◌, ◌^◌, ◌<◌, ◌≤◌, Bool, true, false, cond, length, not, ◌||◌, ◌&&◌, nat_eq, ◌⊎◌, inl, inr, List, [], ◌∷◌, filter, sum_by, Some, refl, sym, ap, ◌∙◌, subst, arith}
use Rattle.std.proofs.lemmas.Bool.Decides.{nat_tests}
use Rattle.std.proofs.lemmas.List.FromFn.{get_or-range_with_len, length-range_with_len}
use Rattle.std.proofs.lemmas.List.Kept.{IsStrictlyIncreasing-filter}
use Rattle.std.proofs.lemmas.List.Sums.{sum_by-cons}
use Rattle.std.proofs.lemmas.Nat.{pow-add, shr-shr, mod-pow-add}
use Rattle.std.proofs.lemmas.Nat.Bits.{bit_at-lt, bit_at-zero}
use Rattle.std.specs.List.{range_with_len}
use Rattle.std.specs.List.Sorted.{IsStrictlyIncreasing}
use Rattle.std.specs.Int.{bit_at}
use Rattle.evm_lines.specs.Lines.{all_lines, has_line, least_line, with_line, without_line, word_of, lines_of, IsLineSet}
use Rattle.evm_lines.specs.declared.TheConstants.{LINES}

first_or_rest : (a b : Bool) → (a || b) ≡ true → (a ≡ true) ⊎ (b ≡ true)
first_or_rest true b h = inl refl
first_or_rest false b h = inr h

and_true : (a b : Bool) → (a && b) ≡ true → (a ≡ true) × (b ≡ true)
and_true true b h = (refl, h)
and_true false b h = cc

has_line-cond : (test : Bool) (a b : List ℕ) (l : ℕ) → has_line (cond test a b) l ≡ cond test (has_line a l) (has_line b l)
has_line-cond true a b l = refl
has_line-cond false a b l = refl

filtered : (kept wanted same rest : Bool) → (same ≡ true → kept ≡ wanted)
    → cond kept (same || (rest && wanted)) (rest && wanted) ≡ (same || rest) && wanted
filtered kept wanted same rest h = grind arith

pub has_line-filter : (test : ℕ → Bool) (set : List ℕ) (l : ℕ) → has_line (filter test set) l ≡ has_line set l && test l
has_line-filter test [] l = refl
has_line-filter test (m ∷ set) l =
    let at : nat_eq m l ≡ true → test m ≡ test l = λ e. let same : m ≡ l = grind (arith, nat_tests) in ap test same in
    has_line-cond (test m) (m ∷ filter test set) (filter test set) l
    ∙ rw (has_line-filter test set l) (filtered (test m) (test l) (nat_eq m l) (has_line set l) at)

or_true : (a b : Bool) → (a ≡ false → b ≡ true) → (a || b) ≡ true
or_true true b h = refl
or_true false b h = h refl

has_line-range : (a n l : ℕ) → a ≤ l → l < a + n → has_line (range_with_len a n) l ≡ true
has_line-range a zero l h k = absurd (omega arith)
has_line-range a (suc n) l h k =
    or_true (nat_eq a l) (has_line (range_with_len (a + 1) n) l)
    (λ e. let other : a ≢ l = grind (arith, nat_tests) in has_line-range (a + 1) n l (omega arith) (omega arith))

has_line-range_below : (a n l : ℕ) → has_line (range_with_len a n) l ≡ true → (a ≤ l) × (l < a + n)
has_line-range_below a zero l h = cc
has_line-range_below a (suc n) l h =
    elim (first_or_rest (nat_eq a l) (has_line (range_with_len (a + 1) n) l) h) [
      | inl e ↦ let same : a ≡ l = grind (arith, nat_tests) in (omega arith, omega arith)
      | inr e ↦ let rest = has_line-range_below (a + 1) n l e in (omega arith, omega arith)
    ]

pub has_line-all : (l : ℕ) → l < LINES → has_line all_lines l ≡ true
unfolding all_lines
has_line-all l h = has_line-range 0 LINES l (omega arith) (omega arith)

pub has_line-all_below : (l : ℕ) → has_line all_lines l ≡ true → l < LINES
unfolding all_lines
has_line-all_below l h = let bounds = has_line-range_below 0 LINES l h in omega arith

-- what is in the set that a test makes
pub has_line-among : (test : ℕ → Bool) (l : ℕ) → l < LINES → has_line (filter test all_lines) l ≡ test l
has_line-among test l h = has_line-filter test all_lines l ∙ ap (λ b. b && test l) (has_line-all l h)

pub has_line-among_below : (test : ℕ → Bool) (l : ℕ) → has_line (filter test all_lines) l ≡ true → l < LINES
has_line-among_below test l h = has_line-all_below l (and_true (has_line all_lines l) (test l) (sym (has_line-filter test all_lines l) ∙ h)).0

-- two tests that agree on the lines make one set
filter-same_range : (p q : ℕ → Bool) (a n : ℕ) → ((l : ℕ) → a ≤ l → l < a + n → p l ≡ q l) → filter p (range_with_len a n) ≡ filter q (range_with_len a n)
filter-same_range p q a zero h = refl
filter-same_range p q a (suc n) h =
    let rest = filter-same_range p q (a + 1) n (λ l u v. h l (omega arith) (omega arith)) in
    ap (λ (b : Bool). cond b (a ∷ filter p (range_with_len (a + 1) n)) (filter p (range_with_len (a + 1) n))) (h a (omega arith) (omega arith))
    ∙ ap (λ (xs : List ℕ). cond (q a) (a ∷ xs) xs) rest

pub filter-same : (p q : ℕ → Bool) → ((l : ℕ) → l < LINES → p l ≡ q l) → filter p all_lines ≡ filter q all_lines
unfolding all_lines
filter-same p q h = filter-same_range p q 0 LINES (λ l u v. h l (omega arith))

-- ---- which lists are sets
pub IsLineSet-among : (test : ℕ → Bool) → IsLineSet (filter test all_lines)
IsLineSet-among test = record { members = filter-same test (has_line (filter test all_lines)) (λ l h. sym (has_line-among test l h)) }

pub IsLineSet-with : (set : List ℕ) (line : ℕ) → IsLineSet (with_line set line)
unfolding with_line
IsLineSet-with set line = IsLineSet-among _

pub IsLineSet-without : (set : List ℕ) (line : ℕ) → IsLineSet (without_line set line)
unfolding without_line
IsLineSet-without set line = IsLineSet-among _

pub IsLineSet-lines_of : (word : ℕ) → IsLineSet (lines_of word)
unfolding lines_of
IsLineSet-lines_of word = IsLineSet-among _

filter-nothing : (set : List ℕ) → filter (λ l. false) set ≡ []
filter-nothing [] = refl
filter-nothing (m ∷ set) = filter-nothing set

pub IsLineSet-empty : IsLineSet []
IsLineSet-empty = record { members = sym (filter-nothing all_lines) }

-- a member of a set is a line
pub line_below : (set : List ℕ) (l : ℕ) → IsLineSet set → has_line set l ≡ true → l < LINES
line_below set l is h = has_line-among_below (has_line set) l (ap (λ s. has_line s l) (sym is.members) ∙ h)

-- two sets with the same lines are equal
pub same_set : (a b : List ℕ) → IsLineSet a → IsLineSet b → ((l : ℕ) → l < LINES → has_line a l ≡ has_line b l) → a ≡ b
same_set a b p q h = p.members ∙ filter-same (has_line a) (has_line b) h ∙ sym q.members

-- ---- what is in a set after a change
pub has_line-with_same : (set : List ℕ) (line : ℕ) → line < LINES → has_line (with_line set line) line ≡ true
unfolding with_line
has_line-with_same set line h = has_line-among _ line h ∙ grind (arith, nat_tests)

pub has_line-with_other : (set : List ℕ) (line l : ℕ) → l ≢ line → l < LINES → has_line (with_line set line) l ≡ has_line set l
unfolding with_line
has_line-with_other set line l other h = has_line-among _ l h ∙ grind (arith, nat_tests)

pub has_line-without_same : (set : List ℕ) (line : ℕ) → line < LINES → has_line (without_line set line) line ≡ false
unfolding without_line
has_line-without_same set line h = has_line-among _ line h ∙ grind (arith, nat_tests)

pub has_line-without_other : (set : List ℕ) (line l : ℕ) → l ≢ line → l < LINES → has_line (without_line set line) l ≡ has_line set l
unfolding without_line
has_line-without_other set line l other h = has_line-among _ l h ∙ grind (arith, nat_tests)

-- ---- the number that stands for a set
bit_cases : (b y p : ℕ) → b < 2 → cond (nat_eq b 1) (p + y * (p * 2)) (y * (p * 2)) ≡ (y * 2 + b) * p
bit_cases zero y p h = omega arith
bit_cases (suc zero) y p h = omega arith
bit_cases (suc (suc b)) y p h = absurd (omega arith)

sum_by-cond : (b : Bool) (a : ℕ) (xs : List ℕ) → sum_by (λ l. 2 ^ l) (cond b (a ∷ xs) xs) ≡ cond b (2 ^ a + sum_by (λ l. 2 ^ l) xs) (sum_by (λ l. 2 ^ l) xs)
sum_by-cond true a xs = sum_by-cons (λ l. 2 ^ l) a xs
sum_by-cond false a xs = refl

sum_by-range : (word a n : ℕ) → sum_by (λ l. 2 ^ l) (filter (λ l. nat_eq (bit_at word l) 1) (range_with_len a n)) ≡ (word / 2 ^ a % 2 ^ n) * 2 ^ a
sum_by-range word a zero =
    let none : word / 2 ^ a % 2 ^ 0 ≡ 0 = omega arith in
    rw none (omega arith)
sum_by-range word a (suc n) =
    let rest = sum_by-range word (a + 1) n in
    let power : 2 ^ (a + 1) ≡ 2 ^ a * 2 = pow-add 2 a 1 in
    let down : word / 2 ^ a / 2 ^ 1 ≡ word / 2 ^ (a + 1) = shr-shr word a 1 in
    let split : word / 2 ^ a % 2 ^ (n + 1) ≡ (word / 2 ^ a / 2 ^ 1 % 2 ^ n) * 2 ^ 1 + word / 2 ^ a % 2 ^ 1 = mod-pow-add (word / 2 ^ a) n 1 in
    let next : suc n ≡ n + 1 = omega arith in
    let whole : word / 2 ^ a % 2 ^ (suc n) ≡ (word / 2 ^ (a + 1) % 2 ^ n) * 2 + word / 2 ^ a % 2 =
    ap (λ (k : ℕ). word / 2 ^ a % 2 ^ k) next ∙ split ∙ ap (λ (x : ℕ). (x % 2 ^ n) * 2 + word / 2 ^ a % 2) down in
    let cases = bit_cases (word / 2 ^ a % 2) (word / 2 ^ (a + 1) % 2 ^ n) (2 ^ a) (bit_at-lt word a) in
    let all = sum_by-cond (nat_eq (bit_at word a) 1) a (filter (λ l. nat_eq (bit_at word l) 1) (range_with_len (a + 1) n)) in
    rw (whole, ← cases, ← power, ← rest) all

pub word_of-lines_of : (word : ℕ) → word < 2 ^ LINES → word_of (lines_of word) ≡ word
unfolding word_of lines_of all_lines
word_of-lines_of word h = sum_by-range word 0 LINES ∙ omega arith

-- ---- the least line
least-cond : (b : Bool) (a : ℕ) (xs : List ℕ) (k : ℕ) → (b ≡ true → a ≡ k) → (b ≡ false → least_line xs ≡ Some k) → least_line (cond b (a ∷ xs) xs) ≡ Some k
least-cond true a xs k h r = ap Some (h refl)
least-cond false a xs k h r = r refl

equal_unless_below : (a k : ℕ) → a ≤ k → (a < k → ⊥) → a ≡ k
equal_unless_below a k h n = omega arith

unequal : (p : ℕ → Bool) (a k : ℕ) → p a ≡ false → p k ≡ true → a ≢ k
unequal p a k u v e = let same : p a ≡ p k = ap p e in cc

least-range : (p : ℕ → Bool) (a n k : ℕ) → a ≤ k → k < a + n → p k ≡ true → ((l : ℕ) → a ≤ l → l < k → p l ≡ false)
    → least_line (filter p (range_with_len a n)) ≡ Some k
least-range p a zero k h b here below = absurd (omega arith)
least-range p a (suc n) k h b here below =
    least-cond (p a) a (filter p (range_with_len (a + 1) n)) k
    (λ e. equal_unless_below a k h (λ lt. cc (below a (omega arith) lt)))
    (λ e. let after : a + 1 ≤ k = omega (arith, unequal p a k e here) in
    least-range p (a + 1) n k after (omega arith) here (λ l u v. below l (omega arith) v))

pub least_line-lines_of : (word line : ℕ) → line < LINES → bit_at word line ≡ 1 → ((l : ℕ) → l < line → bit_at word l ≡ 0)
    → least_line (lines_of word) ≡ Some line
unfolding lines_of all_lines
least_line-lines_of word line h here below =
    least-range (λ l. nat_eq (bit_at word l) 1) 0 LINES line (omega arith) (omega arith) (rw here refl) (λ l u v. rw (below l v) refl)

pub lines_of-zero : lines_of 0 ≡ []
unfolding lines_of
lines_of-zero = filter-same (λ l. nat_eq (bit_at 0 l) 1) (λ l. false) (λ l h. rw (bit_at-zero l) refl) ∙ filter-nothing all_lines

-- ---- the least line taken out leaves the others, in their order
not_same_kept : (p same : Bool) → same ≡ false → p ≡ (p && not same)
not_same_kept true same h = rw h refl
not_same_kept false same h = refl

tail-cond : (test : Bool) (a m : ℕ) (kept left rest : List ℕ) → (a ≡ m → kept ≡ rest → rest ≡ left) → (kept ≡ m ∷ rest → rest ≡ left)
    → cond test (a ∷ kept) kept ≡ m ∷ rest → rest ≡ cond (test && not (nat_eq a m)) (a ∷ left) left
tail-cond true a m kept left rest here later e =
    let same : a ≡ m = cc in
    let tested : nat_eq a m ≡ true = grind (arith, nat_tests) in
    let others : kept ≡ rest = cc in
    rw tested (here same others)
tail-cond false a m kept left rest here later e = later e

tail-range : (p : ℕ → Bool) (a n m : ℕ) (rest : List ℕ) → filter p (range_with_len a n) ≡ m ∷ rest
    → rest ≡ filter (λ l. p l && not (nat_eq l m)) (range_with_len a n)
tail-range p a zero m rest e = cc
tail-range p a (suc n) m rest e =
    let range = range_with_len (a + 1) n in
    tail-cond (p a) a m (filter p range) (filter (λ l. p l && not (nat_eq l m)) range) rest
    (λ same others. sym others
    ∙ filter-same_range p (λ l. p l && not (nat_eq l m)) (a + 1) n
    (λ l low high. not_same_kept (p l) (nat_eq l m) (let other : l ≢ m = omega arith in grind (arith, nat_tests))))
    (λ later. tail-range p (a + 1) n m rest later)
    e

pub without_line-least : (first : ℕ) (rest : List ℕ) → IsLineSet (first ∷ rest) → without_line (first ∷ rest) first ≡ rest
unfolding without_line all_lines
without_line-least first rest is = sym (tail-range (has_line (first ∷ rest)) 0 LINES first rest (sym is.members))

range-rises : (a n : ℕ) → IsStrictlyIncreasing (range_with_len a n)
range-rises a n k h =
    let long = length-range_with_len a n in
    let here = get_or-range_with_len a n k 0 (omega arith) in
    let next = get_or-range_with_len a n (k + 1) 0 (omega arith) in
    omega arith

among-rises : (test : ℕ → Bool) → IsStrictlyIncreasing (filter test all_lines)
unfolding all_lines
among-rises test = IsStrictlyIncreasing-filter test (range_with_len 0 LINES) (range-rises 0 LINES)

pub line_set_increases : (set : List ℕ) → IsLineSet set → IsStrictlyIncreasing set
line_set_increases set is = subst (λ (s : List ℕ). IsStrictlyIncreasing s) (sym is.members) (among-rises (has_line set))

-- the least member of a set is a line
pub least_line-below : (set : List ℕ) (l : ℕ) → IsLineSet set → Some l ≡ least_line set → l < LINES
least_line-below [] l is e = cc
least_line-below (first ∷ rest) l is e =
    let same : first ≡ l = cc in
    let member : has_line (first ∷ rest) first ≡ true = grind (arith, nat_tests) in
    rw (← same) (line_below (first ∷ rest) first is member)

-- a set is its least member and the others
pub without_line-popped : (set : List ℕ) (l : ℕ) → IsLineSet set → Some l ≡ least_line set → set ≡ l ∷ without_line set l
without_line-popped [] l is e = cc
without_line-popped (first ∷ rest) l is e =
    let same : first ≡ l = cc in
    let others : without_line (first ∷ rest) first ≡ rest = without_line-least first rest is in
    rw (← same) (ap (λ x. first ∷ x) (sym others))

-- ---- how many lines a set has
length-kept : (kept : Bool) (l n : ℕ) (set : List ℕ) → length set ≤ n → length (cond kept (l ∷ set) set) ≤ n + 1
length-kept true l n set h = omega arith
length-kept false l n set h = omega arith

length-filter_le : (test : ℕ → Bool) (set : List ℕ) → length (filter test set) ≤ length set
length-filter_le test [] = omega arith
length-filter_le test (l ∷ set) = let h = length-kept (test l) l (length set) (filter test set) (length-filter_le test set) in omega (arith, h)

pub length-lines_of : (word : ℕ) → length (lines_of word) ≤ LINES
unfolding lines_of all_lines
length-lines_of word = omega (arith, length-filter_le (λ l. nat_eq (bit_at word l) 1) (range_with_len 0 LINES), length-range_with_len 0 LINES)
