-- Blocks of RAM: the bytes of one, marks of those that were written, and what a copy of one leaves.
use Rattle.std.proofs.Common.{◌≡◌, ◌≢◌, ℕ, zero, suc, ◌+◌, ◌-◌, ◌*◌, ◌/◌, ◌^◌, ◌≤◌, ◌<◌, ◌⊎◌, inl, inr, Bool, true, false, List, ◌++◌, length, take, drop, replicate, get_or, set, refl, sym, ap, ◌∙◌, arith}
use Rattle.std.proofs.Math.Nat.{div-lt_iff_lt-mul, le-div_iff_mul-le, add-div_right, pow-le-pow_right, div-mul-le_self}
use Rattle.std.proofs.lemmas.List.{ext_get_or, get_or-set_same, get_or-set_other, get_or-drop, get_or-take, take_all, length-drop, length-take-le}
use Rattle.std.proofs.lemmas.Slice.{put_mid-paste}
use borrow.Rule.Slice.PartMut.{put_mid}
use lib.Seq.{paste}
use Rattle.evm_ram.specs.Laws.{get_or-overwritten_before, get_or-overwritten_behind, get_or-overwritten_within}
use Rattle.evm_ram.specs.Ram.{overwritten}
use Rattle.evm_ram.specs.Blocks.{Cover, IsZeroElsewhere}
use Rattle.evm_ram.proofs.SameBytes.{order}

-- two numbers are equal, or not
equal_or_not : (i j : ℕ) → (i ≡ j) ⊎ (i ≢ j)
equal_or_not i j = first (order i j)
  where
    first : (i < j) ⊎ (j ≤ i) → (i ≡ j) ⊎ (i ≢ j)
    first (inl less) = inr (λ e. omega (arith, less, e))
    first (inr more) = second (order j i)
      where
        second : (j < i) ⊎ (i ≤ j) → (i ≡ j) ⊎ (i ≢ j)
        second (inl less) = inr (λ e. omega (arith, less, e))
        second (inr same) = inl (omega (arith, more, same))

pub power_is_positive : (n : ℕ) → 0 < 2 ^ n
power_is_positive n = pow-le-pow_right {n = 2} (omega arith) {i = 0} {j = n} (omega arith)

pub eight_or_more : (n : ℕ) → 3 ≤ n → 8 ≤ 2 ^ n
eight_or_more n h = pow-le-pow_right {n = 2} (omega arith) {i = 3} {j = n} h

-- a byte behind another stands in no block before its
div_rises : (a b shift : ℕ) → a ≤ b → a / 2 ^ shift ≤ b / 2 ^ shift
div_rises a b shift h =
    (le-div_iff_mul-le {k = 2 ^ shift} {x = a / 2 ^ shift} {y = b} (power_is_positive shift)).1 (omega (arith, h, div-mul-le_self a (2 ^ shift)))

-- ---- marks
pub set_marks : (xs : List Bool) (i b : ℕ) → i < length xs → b ≡ i → get_or (set xs i true) b false ≡ true
set_marks xs i b less same = rw same (get_or-set_same xs i true false less)

pub set_keeps : (xs : List Bool) (i b : ℕ) → i < length xs → get_or xs b false ≡ true → get_or (set xs i true) b false ≡ true
set_keeps xs i b less h = within (equal_or_not b i)
  where
    within : (b ≡ i) ⊎ (b ≢ i) → get_or (set xs i true) b false ≡ true
    within (inl same) = set_marks xs i b less same
    within (inr other) = get_or-set_other xs i b true false other ∙ h

-- a turn of the loop that marks
pub marks_more : (xs : List Bool) (first i : ℕ) → i < length xs → ((b : ℕ) → first ≤ b → b < i → get_or xs b false ≡ true)
    → (b : ℕ) → first ≤ b → b < i + 1 → get_or (set xs i true) b false ≡ true
marks_more xs first i less before b low high = within (order b i)
  where
    within : (b < i) ⊎ (i ≤ b) → get_or (set xs i true) b false ≡ true
    within (inl lower) = set_keeps xs i b less (before b low lower)
    within (inr more) = set_marks xs i b less (omega (arith, more, high))

-- the block of a byte is one of 64
pub block_is_below : (i n shift : ℕ) → i < n → Cover shift n → i / 2 ^ shift < 64
block_is_below i n shift less cover = (div-lt_iff_lt-mul {k = 2 ^ shift} {x = i} {y = 64} (power_is_positive shift)).1 (omega (arith, less, cover.2))

-- the block of a byte is between those of the first and of the last
pub blocks_between : (start count i shift : ℕ) → start ≤ i → i < start + count
    → (start / 2 ^ shift ≤ i / 2 ^ shift) × (i / 2 ^ shift ≤ (start + count - 1) / 2 ^ shift)
blocks_between start count i shift low high =
    (div_rises start i shift low, div_rises i (start + count - 1) shift (omega (arith, high)))

-- a few bytes stand in two blocks at most
pub one_or_next : (start count shift : ℕ) → count ≤ 8 → 3 ≤ shift → (start + count - 1) / 2 ^ shift ≤ start / 2 ^ shift + 1
one_or_next start count shift few h =
    let wide = eight_or_more shift h in
    let next = div_rises (start + count - 1) (start + 2 ^ shift) shift (omega (arith, few, wide)) in
    let same = add-div_right start {k = 2 ^ shift} (power_is_positive shift) in
    omega (arith, next, same)

-- of two blocks each is one of them
pub one_of_two : (xs : List Bool) (b first last : ℕ) → first ≤ b → b ≤ last → last ≤ first + 1 → get_or xs first false ≡ true → get_or xs last false ≡ true
    → get_or xs b false ≡ true
one_of_two xs b first last low high near one other = within (order first b)
  where
    within : (first < b) ⊎ (b ≤ first) → get_or xs b false ≡ true
    within (inl less) = let same : b ≡ last = omega (arith, less, high, near) in rw same other
    within (inr more) = let same : b ≡ first = omega (arith, more, low) in rw same one

-- ---- bytes of a block
-- where they are
pub block_bounds : (i b shift : ℕ) → i / 2 ^ shift ≡ b → (b * 2 ^ shift ≤ i) × (i < (b + 1) * 2 ^ shift)
block_bounds i b shift same = (
  (le-div_iff_mul-le {k = 2 ^ shift} {x = b} {y = i} (power_is_positive shift)).0 (omega (arith, same)),
  (div-lt_iff_lt-mul {k = 2 ^ shift} {x = i} {y = b + 1} (power_is_positive shift)).0 (omega (arith, same)),
)

-- .. and where those of others are
pub outside_block : (i b shift : ℕ) → i / 2 ^ shift ≢ b → (i < b * 2 ^ shift) ⊎ ((b + 1) * 2 ^ shift ≤ i)
outside_block i b shift other = within (order (i / 2 ^ shift) b)
  where
    within : (i / 2 ^ shift < b) ⊎ (b ≤ i / 2 ^ shift) → (i < b * 2 ^ shift) ⊎ ((b + 1) * 2 ^ shift ≤ i)
    within (inl less) = inl ((div-lt_iff_lt-mul {k = 2 ^ shift} {x = i} {y = b} (power_is_positive shift)).0 less)
    within (inr more) = behind (order b (i / 2 ^ shift))
      where
        behind : (b < i / 2 ^ shift) ⊎ (i / 2 ^ shift ≤ b) → (i < b * 2 ^ shift) ⊎ ((b + 1) * 2 ^ shift ≤ i)
        behind (inl after) = inr ((le-div_iff_mul-le {k = 2 ^ shift} {x = b + 1} {y = i} (power_is_positive shift)).0 (omega (arith, after)))
        behind (inr less) = absurd (other (omega (arith, more, less)))

-- ---- a copy of a part
pub put_mid-overwritten : (s k : ℕ) (xs zs : List ℕ) → length zs ≡ k → put_mid s k xs zs ≡ overwritten xs s zs
put_mid-overwritten s k xs zs long =
    let whole : take (length zs) zs ≡ zs = take_all (length zs) zs (omega arith) in
    put_mid-paste s k xs zs zs (length zs) refl long refl ∙ rw whole refl

part_length : (ys : List ℕ) (s e : ℕ) → s ≤ e → e ≤ length ys → length (take (e - s) (drop s ys)) ≡ e - s
part_length ys s e h fits = length-take-le (e - s) (drop s ys) (omega (arith, length-drop s ys, h, fits))

pub part_copied : (xs ys : List ℕ) (s e i : ℕ) → length xs ≡ length ys → s ≤ e → e ≤ length xs → s ≤ i → i < e
    → get_or (put_mid s (e - s) xs (take (e - s) (drop s ys))) i 0 ≡ get_or ys i 0
part_copied xs ys s e i long h fits low high =
    let zs = take (e - s) (drop s ys) in
    let count = part_length ys s e h (omega (arith, fits, long)) in
    let at : s + (i - s) ≡ i = omega (arith, low) in
    ap (λ (us : List ℕ). get_or us i 0) (put_mid-overwritten s (e - s) xs zs count)
    ∙ get_or-overwritten_within xs s zs i 0 (omega (arith, h, fits)) low (omega (arith, count, low, high))
    ∙ get_or-take (e - s) (drop s ys) (i - s) 0 (omega (arith, low, high))
    ∙ get_or-drop s ys (i - s) 0
    ∙ ap (λ (m : ℕ). get_or ys m 0) at

pub part_left : (xs ys : List ℕ) (s e i : ℕ) → length xs ≡ length ys → s ≤ e → e ≤ length xs → (i < s) ⊎ (e ≤ i)
    → get_or (put_mid s (e - s) xs (take (e - s) (drop s ys))) i 0 ≡ get_or xs i 0
part_left xs ys s e i long h fits away =
    ap (λ (us : List ℕ). get_or us i 0) (put_mid-overwritten s (e - s) xs (take (e - s) (drop s ys)) (part_length ys s e h (omega (arith, fits, long)))) ∙ there away
  where
    count : length (take (e - s) (drop s ys)) ≡ e - s
    count = part_length ys s e h (omega (arith, fits, long))

    there : (i < s) ⊎ (e ≤ i) → get_or (overwritten xs s (take (e - s) (drop s ys))) i 0 ≡ get_or xs i 0
    there (inl before) = get_or-overwritten_before xs s (take (e - s) (drop s ys)) i 0 (omega (arith, h, fits)) before
    there (inr behind) = get_or-overwritten_behind xs s (take (e - s) (drop s ys)) i 0 (omega (arith, h, fits)) (omega (arith, count, h, behind))

-- parts that are the same
pub part_same : (xs ys : List ℕ) (s e i : ℕ) → take (e - s) (drop s xs) ≡ take (e - s) (drop s ys) → s ≤ i → i < e → get_or xs i 0 ≡ get_or ys i 0
part_same xs ys s e i same low high = sym (there xs) ∙ ap (λ (zs : List ℕ). get_or zs (i - s) 0) same ∙ there ys
  where
    there : (zs : List ℕ) → get_or (take (e - s) (drop s zs)) (i - s) 0 ≡ get_or zs i 0
    there zs =
        let at : s + (i - s) ≡ i = omega (arith, low) in
        get_or-take (e - s) (drop s zs) (i - s) 0 (omega (arith, low, high)) ∙ get_or-drop s zs (i - s) 0 ∙ ap (λ (m : ℕ). get_or zs m 0) at

-- ---- blocks, one after the other
-- those before a block are the same, and so is this one
pub same_more : (xs ys : List ℕ) (b shift : ℕ) → ((i : ℕ) → i < length xs → i / 2 ^ shift < b → get_or xs i 0 ≡ get_or ys i 0)
    → ((i : ℕ) → i < length xs → i / 2 ^ shift ≡ b → get_or xs i 0 ≡ get_or ys i 0)
    → (i : ℕ) → i < length xs → i / 2 ^ shift < b + 1 → get_or xs i 0 ≡ get_or ys i 0
same_more xs ys b shift before here i inside less = within (order (i / 2 ^ shift) b)
  where
    within : (i / 2 ^ shift < b) ⊎ (b ≤ i / 2 ^ shift) → get_or xs i 0 ≡ get_or ys i 0
    within (inl low) = before i inside low
    within (inr high) = here i inside (omega (arith, high, less))

-- a block that was written in none
pub both_zero : (xs ys : List ℕ) (written others : List Bool) (b shift : ℕ) → IsZeroElsewhere xs written shift → IsZeroElsewhere ys others shift
    → get_or written b false ≡ false → get_or others b false ≡ false → (i : ℕ) → i / 2 ^ shift ≡ b → get_or xs i 0 ≡ get_or ys i 0
unfolding IsZeroElsewhere
both_zero xs ys written others b shift clean clean' none none' i same =
    clean i (ap (λ (m : ℕ). get_or written m false) same ∙ none) ∙ sym (clean' i (ap (λ (m : ℕ). get_or others m false) same ∙ none'))

-- all blocks are the same
pub all_same : (xs ys : List ℕ) (b shift : ℕ) → length xs ≡ length ys → Cover shift (length xs) → 64 ≤ b
    → ((i : ℕ) → i < length xs → i / 2 ^ shift < b → get_or xs i 0 ≡ get_or ys i 0) → xs ≡ ys
all_same xs ys b shift long cover all each =
    ext_get_or 0 xs ys long (λ i less. each i less (omega (arith, all, block_is_below i (length xs) shift less cover)))

-- a turn of the loop that copies: `was` becomes `now`, whose bytes of a block are those of the other
pub copied_more : (start was now other : List ℕ) (b shift : ℕ) → length was ≡ length other
    → ((i : ℕ) → i < length was → i / 2 ^ shift < b → get_or was i 0 ≡ get_or other i 0)
    → ((i : ℕ) → b ≤ i / 2 ^ shift → get_or was i 0 ≡ get_or start i 0)
    → length now ≡ length was
    → ((i : ℕ) → i < length was → i / 2 ^ shift ≡ b → get_or now i 0 ≡ get_or other i 0)
    → ((i : ℕ) → i / 2 ^ shift ≢ b → get_or now i 0 ≡ get_or was i 0)
    → (length now ≡ length other)
    × ((i : ℕ) → i < length now → i / 2 ^ shift < b + 1 → get_or now i 0 ≡ get_or other i 0)
    × ((i : ℕ) → b + 1 ≤ i / 2 ^ shift → get_or now i 0 ≡ get_or start i 0)
copied_more start was now other b shift long before rest size here left = (size ∙ long, these, those)
  where
    these : (i : ℕ) → i < length now → i / 2 ^ shift < b + 1 → get_or now i 0 ≡ get_or other i 0
    these i inside less = within (order (i / 2 ^ shift) b)
      where
        within : (i / 2 ^ shift < b) ⊎ (b ≤ i / 2 ^ shift) → get_or now i 0 ≡ get_or other i 0
        within (inl low) = left i (λ e. omega (arith, low, e)) ∙ before i (omega (arith, inside, size)) low
        within (inr high) = here i (omega (arith, inside, size)) (omega (arith, high, less))

    those : (i : ℕ) → b + 1 ≤ i / 2 ^ shift → get_or now i 0 ≡ get_or start i 0
    those i behind = left i (λ e. omega (arith, behind, e)) ∙ rest i (omega (arith, behind))

-- .. of a block that was written in none, and is left as it is
pub left_more : (start was other : List ℕ) (written others : List Bool) (b shift : ℕ) → length was ≡ length other
    → ((i : ℕ) → i < length was → i / 2 ^ shift < b → get_or was i 0 ≡ get_or other i 0)
    → ((i : ℕ) → b ≤ i / 2 ^ shift → get_or was i 0 ≡ get_or start i 0)
    → IsZeroElsewhere start written shift → IsZeroElsewhere other others shift → get_or written b false ≡ false → get_or others b false ≡ false
    → (length was ≡ length other)
    × ((i : ℕ) → i < length was → i / 2 ^ shift < b + 1 → get_or was i 0 ≡ get_or other i 0)
    × ((i : ℕ) → b + 1 ≤ i / 2 ^ shift → get_or was i 0 ≡ get_or start i 0)
left_more start was other written others b shift long before rest clean clean' none none' =
    copied_more start was was other b shift long before rest refl
    (λ i inside same. rest i (omega (arith, same)) ∙ both_zero start other written others b shift clean clean' none none' i same)
    (λ i away. refl)

-- ---- bytes of blocks that weren't written
zeros : (n i : ℕ) → let none : ℕ = 0 in get_or (replicate n none) i none ≡ none
zeros zero i = refl
zeros (suc n) zero = refl
zeros (suc n) (suc i) = zeros n i

pub all_zero : (xs : List ℕ) (n : ℕ) (written : List Bool) (shift : ℕ) → xs ≡ replicate n 0 → IsZeroElsewhere xs written shift
unfolding IsZeroElsewhere
all_zero xs n written shift same i none = ap (λ (zs : List ℕ). get_or zs i 0) same ∙ zeros n i

-- a poke whose blocks are marked
pub poked_elsewhere : (xs ys : List ℕ) (start shift : ℕ) (before after : List Bool) → IsZeroElsewhere xs before shift → start ≤ length xs
    → ((i : ℕ) → start ≤ i → i < start + length ys → get_or after (i / 2 ^ shift) false ≡ true)
    → ((b : ℕ) → get_or before b false ≡ true → get_or after b false ≡ true) → IsZeroElsewhere (overwritten xs start ys) after shift
unfolding IsZeroElsewhere
poked_elsewhere xs ys start shift before after clean fits these others i none =
    there (order i start) (order i (start + length ys))
  where
    was : (m : Bool) → get_or before (i / 2 ^ shift) false ≡ m → get_or xs i 0 ≡ 0
    was true marked = let now = others (i / 2 ^ shift) marked in absurd (cc (now, none))
    was false unmarked = clean i unmarked

    left : get_or xs i 0 ≡ 0
    left = was (get_or before (i / 2 ^ shift) false) refl

    there : (i < start) ⊎ (start ≤ i) → (i < start + length ys) ⊎ (start + length ys ≤ i) → get_or (overwritten xs start ys) i 0 ≡ 0
    there (inl low) _ = get_or-overwritten_before xs start ys i 0 fits low ∙ left
    there (inr high) (inr behind) = get_or-overwritten_behind xs start ys i 0 fits behind ∙ left
    there (inr high) (inl within) = let now = these i high within in absurd (cc (now, none))
