-- Counters and batches.
use Rattle.std.proofs.Common.{◌≡◌, ℕ, zero, suc, ◌+◌, ◌%◌, ◌^◌, ◌<◌, Bool, true, false, ◌&&◌, nat_eq, List, [], ◌∷◌, ◌++◌, length, set, sym, refl, ap, ◌∙◌, arith, append_assoc, subst, length-append}
use Rattle.std.proofs.lemmas.Bool.Decides.{nat_tests}
use Rattle.std.specs.Prelude.{slice_index, All}
use Rattle.std.proofs.Math.ListN.{get_or-append}
use Rattle.std.proofs.Math.Seq.{get_or-append_seam}
use Rattle.std.specs.Int.{bit_at}
use Rattle.std.proofs.lemmas.Nat.Bits.{bit_at-zero}
use Rattle.std.proofs.lemmas.List.{get_or-set_same, get_or-set_other, append-nil}
use native.Mathlib.Decide.{ℕ_discrete}
use Rattle.evm_lines.specs.declared.TheConstants.{LINES}
use Rattle.evm_bells.specs.declared.counts.TheConstants.{PROCESSOR_LIMIT}
use Rattle.evm_bells.specs.Batches.{Batch, counter, count, HaveCounted}
use Rattle.evm_bells.specs.Seats.{TakerValue, taken_by}
use Rattle.evm_bells.proofs.Sums.{count-append}
use Rattle.evm_bells.proofs.Steps.{mark_here, mark_elsewhere}

-- a row in the place of another
counter-set_same : (rows : List (List ℕ)) (c l : ℕ) (row : List ℕ) → c < length rows → counter (set rows c row) c l ≡ slice_index row l
counter-set_same rows c l row there = ap (λ (r : List ℕ). slice_index r l) (get_or-set_same rows c row [] there)

counter-set_other : (rows : List (List ℕ)) (b c l : ℕ) (row : List ℕ) → (b ≡ c → ⊥) → counter (set rows c row) b l ≡ counter rows b l
counter-set_other rows b c l row other = ap (λ (r : List ℕ). slice_index r l) (get_or-set_other rows c b row [] other)

-- counters that have counted one mark more
pub counted_more : (rows : List (List ℕ)) (row : List ℕ) (c lines : ℕ) → c < length rows
    → ((l : ℕ) → l < LINES → slice_index row l ≡ (counter rows c l + bit_at lines l) % 2 ^ 64)
    → (batches : List Batch) → HaveCounted rows batches → HaveCounted (set rows c row) (batches ++ (c, lines) ∷ [])
counted_more rows row c lines there added batches counted b l eight small = by_place (ℕ_discrete b c)
  where
    by_place : Dec (b ≡ c) → counter (set rows c row) b l ≡ count (batches ++ (c, lines) ∷ []) b l % 2 ^ 64
    by_place (yes same) = rw same (omega (arith, counter-set_same rows c l row there, added l small, counted c l (rw (sym same) eight) small, count-append batches ((c, lines) ∷ []) c l, mark_here c lines l))
    by_place (no other) = omega (arith, counter-set_other rows b c l row other, counted b l eight small, count-append batches ((c, lines) ∷ []) b l, mark_elsewhere b c lines l other)

-- a word of no line is counted already
nothing_there : (c b l : ℕ) → count ((c, 0) ∷ []) b l ≡ 0
nothing_there c b l = by_place (ℕ_discrete b c)
  where
    by_place : Dec (b ≡ c) → count ((c, 0) ∷ []) b l ≡ 0
    by_place (yes same) = rw same (mark_here c 0 l ∙ bit_at-zero l)
    by_place (no other) = mark_elsewhere b c 0 l other

pub counted_nothing : (rows : List (List ℕ)) (c word : ℕ) → word ≡ 0 → (batches : List Batch) → HaveCounted rows batches → HaveCounted rows (batches ++ (c, word) ∷ [])
counted_nothing rows c word none batches counted b l few small =
    rw none (omega (arith, counted b l few small, count-append batches ((c, 0) ∷ []) b l, nothing_there c b l))

-- counters that have counted two lists of batches
pub counted_both : (rows more sums : List (List ℕ)) → ((c l : ℕ) → c < PROCESSOR_LIMIT → l < LINES → counter sums c l ≡ (counter rows c l + counter more c l) % 2 ^ 64)
    → (first second : List Batch) → HaveCounted rows first → HaveCounted more second → HaveCounted sums (first ++ second)
counted_both rows more sums added first second one two c l eight small =
    omega (arith, added c l eight small, one c l eight small, two c l eight small, count-append first second c l)

-- the same in the other order
pub counted_before : (rows more sums : List (List ℕ)) → ((c l : ℕ) → c < PROCESSOR_LIMIT → l < LINES → counter sums c l ≡ (counter rows c l + counter more c l) % 2 ^ 64)
    → (first second : List Batch) → HaveCounted rows second → HaveCounted more first → HaveCounted sums (first ++ second)
counted_before rows more sums added first second one two c l eight small =
    omega (arith, added c l eight small, one c l eight small, two c l eight small, count-append first second c l)

-- ---- zeros
abbrev are_zero : List ℕ → Bool
are_zero [] = true
are_zero (x ∷ xs) = nat_eq x 0 && are_zero xs

abbrev are_all_zero : List (List ℕ) → Bool
are_all_zero [] = true
are_all_zero (row ∷ rows) = are_zero row && are_all_zero rows

both : (a b : Bool) → (a && b) ≡ true → (a ≡ true) × (b ≡ true)
both true b h = (refl, h)
both false b h = cc

pub zero_index : (xs : List ℕ) (l : ℕ) → are_zero xs ≡ true → slice_index xs l ≡ 0
zero_index [] l h = refl
zero_index (x ∷ xs) zero h = let p = (both (nat_eq x 0) (are_zero xs) h).0 in grind (arith, nat_tests)
zero_index (x ∷ xs) (suc l) h = zero_index xs l (both (nat_eq x 0) (are_zero xs) h).1

pub all_zero_index : (rows : List (List ℕ)) (c l : ℕ) → are_all_zero rows ≡ true → counter rows c l ≡ 0
all_zero_index [] c l h = refl
all_zero_index (row ∷ rows) zero l h = zero_index row l (both (are_zero row) (are_all_zero rows) h).0
all_zero_index (row ∷ rows) (suc c) l h = all_zero_index rows c l (both (are_zero row) (are_all_zero rows) h).1

-- ---- takers
pub taken_by-append : (xs ys : List TakerValue) → taken_by (xs ++ ys) ≡ taken_by xs ++ taken_by ys
taken_by-append [] ys = refl
taken_by-append (t ∷ xs) ys = ap (λ m. t.taken ++ m) (taken_by-append xs ys) ∙ sym (append_assoc t.taken (taken_by xs) (taken_by ys))

-- the last taker's batches go before those that were there
pub taken_by-last : (xs : List TakerValue) (t : TakerValue) (batches : List Batch) → taken_by (xs ++ t ∷ []) ++ batches ≡ taken_by xs ++ (t.taken ++ batches)
taken_by-last xs t batches =
    ap (λ m. m ++ batches) (taken_by-append xs (t ∷ []))
    ∙ ap (λ m. (taken_by xs ++ m) ++ batches) (append-nil t.taken)
    ∙ append_assoc (taken_by xs) t.taken batches

pub zeros_counted : (rows : List (List ℕ)) → are_all_zero rows ≡ true → HaveCounted rows []
zeros_counted rows h c l eight small = all_zero_index rows c l h

-- what holds of all holds of the last one, and of those before it
pub all_front : (P : TakerValue → Type 0) (xs : List TakerValue) (t : TakerValue) → All P (xs ++ t ∷ []) → All P xs
all_front P xs t all k d below = subst P (get_or-append xs (t ∷ []) d k below) (all k d (omega (arith, length-append xs (t ∷ []))))

pub all_last : (P : TakerValue → Type 0) (xs : List TakerValue) (t : TakerValue) → All P (xs ++ t ∷ []) → P t
all_last P xs t all = subst P (get_or-append_seam xs t [] t) (all (length xs) t (omega (arith, length-append xs (t ∷ []))))
